-- What emptied slices hold. Assumes nothing.
use Rattle.std.specs.Prelude.{◌≡◌, ℕ, ◌*◌, List, ◌++◌, length, drop, replicate}
use Rattle.meetings.specs.declared.numbers.Meeting.{Meeting}
use Rattle.fewest.specs.Plans.{none}
use Rattle.chains.specs.declared.shapes.Shape.{Shape}
use Rattle.chains.specs.Rows.{Holds, Beyond}

-- n rows of width w with no meeting in them, and what lies beyond them as it was
abbrev pub cleared : ℕ → ℕ → List ℕ → List ℕ
cleared n w rows = replicate (n * w) none ++ drop (n * w) rows

-- slices of rows gs and ss became gs' and ss', with xs they are a board without rounds, and nothing else was written
pub record Emptied (ms : List Meeting) (z : Shape) (xs gs gs' ss ss' : List ℕ) : Type 0 where
  pub rounds : xs ≡ replicate (length ms) none
  pub board : Holds ms z xs gs' ss'
  pub group_rest : Beyond z.groups z.group_width gs gs'
  pub station_rest : Beyond z.stations z.station_width ss ss'

-- Which meetings are in the way of one another. Assumes nothing.
use Rattle.std.specs.Prelude.{◌≡◌, ℕ, ◌<◌, List, slice_index_or}
use Rattle.meetings.specs.declared.numbers.Meeting.{Meeting}
use Rattle.meetings.specs.declared.numbers.Side.{Side}
use Rattle.meetings.specs.Lists.{party, nobody}
use Rattle.fewest.specs.Plans.{none}

-- two meetings have one round, and a group or a station in common
abbrev pub Clash : List Meeting → List ℕ → ℕ → ℕ → Type 0
Clash ms xs i j =
    (slice_index_or xs i none ≡ slice_index_or xs j none)
    × ((s : Side) × (party s (slice_index_or ms i nobody) ≡ party s (slice_index_or ms j nobody)))

-- a meeting has one of r rounds, and clashes with no earlier one
pub record Fits (r : ℕ) (ms : List Meeting) (xs : List ℕ) (i : ℕ) : Type 0 where
  pub round : slice_index_or xs i none < r
  pub alone : (j : ℕ) → j < i → Clash ms xs i j → ⊥

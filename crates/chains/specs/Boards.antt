-- The board, and what a change leaves on it. Assumes nothing.
use Rattle.std.specs.Prelude.{◌≡◌, ℕ, ◌+◌, ◌*◌, ◌<◌, true, List, length, slice_set}
use Rattle.meetings.specs.declared.numbers.Meeting.{Meeting}
use Rattle.meetings.specs.declared.numbers.Side.{Side}
use Rattle.meetings.specs.declared.numbers.Side.TheVariants.{Groups, Stations}
use Rattle.chains.specs.declared.board.Board.{Board}
use Rattle.chains.specs.declared.neighbours.TwoRounds.{TwoRounds}
use Rattle.chains.specs.Chains.{Two, two, in_two}
use Rattle.chains.specs.Partial.{party_of}
use Rattle.chains.specs.Rows.{WithinRows, Holds, Beyond, width_of}

-- the meetings of a board and their rounds
abbrev pub meetings_on : Board → List Meeting
meetings_on d = d.meetings.now

abbrev pub rounds_on : Board → List ℕ
rounds_on d = d.rounds.now

-- two rounds that are looked at on a board
abbrev pub two_on : Board → TwoRounds → Two
two_on d r = two (meetings_on d) (rounds_on d) r.a.0 r.b.0

-- meeting i is in one of two rounds, for which all rows have an entry
pub record InTwo (d : Board) (r : TwoRounds) (i : ℕ) : Type 0 where
  pub a : WithinRows d.shape r.a.0
  pub b : WithinRows d.shape r.b.0
  pub here : i < length (meetings_on d)
  pub there : in_two (two_on d r) i ≡ true

-- the rows of a side of the board
abbrev pub rows_of : Side → Board → List ℕ
rows_of Groups d = d.group_rows.now
rows_of Stations d = d.station_rows.now

-- the place of an entry in the rows of a side: that of the party of meeting i at round c
abbrev pub place_of : Board → Side → ℕ → ℕ → ℕ
place_of d s i c = party_of (meetings_on d) s i * width_of s d.shape + c

-- with x written for the round of meeting i, and y for its group and its station in round c, the slices still are a board
abbrev pub StillHolds : Board → ℕ → ℕ → ℕ → ℕ → Type 0
StillHolds d i x c y =
    Holds (meetings_on d) d.shape (slice_set (rounds_on d) i x)
    (slice_set d.group_rows.now (place_of d Groups i c) y)
    (slice_set d.station_rows.now (place_of d Stations i c) y)

-- the board d becomes e, in the same slices: the meetings have the rounds xs now
pub record Becomes (d e : Board) (xs : List ℕ) : Type 0 where
  pub rounds : rounds_on e ≡ xs
  pub meetings : meetings_on e ≡ meetings_on d
  pub shape : e.shape ≡ d.shape
  pub group_rest : Beyond d.shape.groups d.shape.group_width d.group_rows.now e.group_rows.now
  pub station_rest : Beyond d.shape.stations d.shape.station_width d.station_rows.now e.station_rows.now
  pub same_rounds : d.rounds.ghost_name ≡ e.rounds.ghost_name
  pub same_groups : d.group_rows.ghost_name ≡ e.group_rows.ghost_name
  pub same_stations : d.station_rows.ghost_name ≡ e.station_rows.ghost_name

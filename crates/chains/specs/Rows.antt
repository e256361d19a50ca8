-- The rows of a board, and what three slices hold that are one. Assumes nothing.
use Rattle.std.specs.Prelude.{◌≡◌, ℕ, ◌+◌, ◌*◌, ◌<◌, ◌≤◌, ◌⊎◌, List, length, drop, ◌≢◌, slice_index}
use Rattle.meetings.specs.declared.numbers.Meeting.{Meeting}
use Rattle.meetings.specs.declared.numbers.Side.{Side}
use Rattle.meetings.specs.declared.numbers.Side.TheVariants.{Groups, Stations}
use Rattle.meetings.specs.Lists.{parties}
use Rattle.fewest.specs.Plans.{none}
use Rattle.chains.specs.declared.shapes.Shape.{Shape}
use Rattle.chains.specs.Partial.{Vacant, round_of, party_of, meeting_of}

-- y is what stands in the row of party p at round c: the one meeting that it has there, or none
pub record Entry (m : ℕ) (party round : ℕ → ℕ) (p c y : ℕ) : Type 0 where
  pub is : (y ≢ none) → (y < m) × (party y ≡ p) × (round y ≡ c)
  pub only : (i : ℕ) → i < m → party i ≡ p → round i ≡ c → i ≡ y

-- the rows of one side: n rows of width w, one after the other, with an entry for each round
pub record Rows (m : ℕ) (party round : ℕ → ℕ) (n w : ℕ) (rows : List ℕ) : Type 0 where
  pub narrow : w ≤ none
  pub parties : (i : ℕ) → i < m → party i < n
  pub room : (p : ℕ) → p < n → p * w + w ≤ length rows
  pub entries : (p c : ℕ) → p < n → c < w → Entry m party round p c (slice_index rows (p * w + c))

-- a round for which all rows have an entry
abbrev pub WithinRows : Shape → ℕ → Type 0
WithinRows z c = (c < z.group_width) × (c < z.station_width)

-- so many rounds, for each of which all rows have an entry
abbrev pub ManyWithin : Shape → ℕ → Type 0
ManyWithin z r = (r ≤ z.group_width) × (r ≤ z.station_width)

-- the board: what the three slices hold where the meetings have the rounds xs
pub record Holds (ms : List Meeting) (z : Shape) (xs gs ss : List ℕ) : Type 0 where
  pub few : length ms ≤ none
  pub each : length xs ≡ length ms
  pub round : (i : ℕ) → i < length ms → (round_of xs i ≢ none) → WithinRows z (round_of xs i)
  pub groups : Rows (length ms) (party_of ms Groups) (round_of xs) z.groups z.group_width gs
  pub stations : Rows (length ms) (party_of ms Stations) (round_of xs) z.stations z.station_width ss

-- how wide the rows of a side are, and how many
abbrev pub width_of : Side → Shape → ℕ
width_of Groups z = z.group_width
width_of Stations z = z.station_width

abbrev pub parties_of : Side → Shape → ℕ
parties_of s z = parties s z.groups z.stations

-- a party's row: for each round the meeting that it has there
pub record RowOf (ms : List Meeting) (xs : List ℕ) (s : Side) (p : ℕ) (row : List ℕ) : Type 0 where
  pub at : (c : ℕ) → c < length row → slice_index row c ≡ meeting_of ms xs s p c

-- what lies beyond the rows in use is not written
abbrev pub Beyond : ℕ → ℕ → List ℕ → List ℕ → Type 0
Beyond n w rows rows' = (length rows' ≡ length rows) × (drop (n * w) rows' ≡ drop (n * w) rows)

-- meeting i may have round c: that is none, or its group and its station are free in c
abbrev pub FreeFor : List Meeting → Shape → List ℕ → ℕ → ℕ → Type 0
FreeFor ms z xs i c = (c ≡ none) ⊎ (WithinRows z c × ((s : Side) → Vacant ms xs s (party_of ms s i) c))

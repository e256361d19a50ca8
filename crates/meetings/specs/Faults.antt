-- What can be wrong with the bytes of a list, each with its number and place, and that a refusal tells the first.
-- Definitions and a statement; assumes nothing.
use Rattle.std.specs.Prelude.{◌≡◌, ℕ, ◌+◌, ◌*◌, ◌%◌, ◌<◌, ◌≤◌, cond, ◌⊎◌, List, length, ◌==◌, slice_index}
use Rattle.meetings.specs.Bytes.{read_list}
use Rattle.meetings.specs.Lists.{most, most_meetings}
use Rattle.meetings.specs.Refusals.{Outcome, accepted, refused}

-- how many meetings the bytes say there are, and where these end
abbrev pub said : List ℕ → ℕ
said bs = slice_index bs 3 + 256 * slice_index bs 4

abbrev pub end : List ℕ → ℕ
end bs = 5 + 2 * said bs

-- a byte at an odd place names a group, one at an even place a station: how many of these there are
abbrev pub many_at : List ℕ → ℕ → ℕ
many_at bs p = cond (p % 2 == 1) (slice_index bs 0) (slice_index bs 1)

-- a fault has a number, and a place: the byte at which it shows
pub data Fault (bs : List ℕ) : ℕ → ℕ → Type 0 where
  short : length bs < 5 → Fault bs 1 (length bs)
  out_of_limits : (i : ℕ) → i < 3 → 5 ≤ length bs → (slice_index bs i ≡ 0) ⊎ (most < slice_index bs i) → Fault bs 2 i
  too_many : 5 ≤ length bs → most_meetings < said bs → Fault bs 3 3
  no_such_party : (p : ℕ) → 5 ≤ p → p < end bs → p < length bs → many_at bs p ≤ slice_index bs p → Fault bs 4 p
  ends_early : 5 ≤ length bs → length bs < end bs → Fault bs 1 (length bs)
  goes_on : end bs < length bs → Fault bs 1 (end bs)

-- no fault shows before this place
abbrev pub Clear : List ℕ → ℕ → Type 0
Clear bs p = (number place : ℕ) → Fault bs number place → p ≤ place

-- what is accepted has no fault, and what is refused is refused for its first
abbrev pub TellsFirst : {T : Type 0} → List ℕ → Outcome T → Type 0
TellsFirst bs (accepted x) = (number place : ℕ) → Fault bs number place → ⊥
TellsFirst bs (refused number place) = Fault bs number place × Clear bs place

abbrev pub FirstFault : Type 0
FirstFault = (bs : List ℕ) → TellsFirst bs (read_list bs)

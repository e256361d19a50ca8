-- Entries for the rounds of the parties of a side: rows of so many for each, one after the other. Assumes nothing.
use Rattle.std.specs.Prelude.{ℕ, ◌+◌, ◌*◌, ◌<◌, ◌≤◌, List, length, slice_index_or}
use Rattle.meetings.specs.declared.numbers.Meeting.{Meeting}
use Rattle.meetings.specs.declared.numbers.Side.{Side}
use Rattle.chains.specs.Partial.{party_of}

-- the parties of all meetings have a row of w entries, and P says something of each party, round and entry
pub record Cells {A : Type 0} (ms : List Meeting) (s : Side) (w : ℕ) (past : A) (P : ℕ → ℕ → A → Type 0) (es : List A) : Type 0 where
  pub room : (j : ℕ) → j < length ms → party_of ms s j * w + w ≤ length es
  pub each : (p c : ℕ) → c < w → p * w + c < length es → P p c (slice_index_or es (p * w + c) past)

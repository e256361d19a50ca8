-- What a plan is: a round for each meeting. Assumes nothing.
use Rattle.std.specs.Prelude.{◌≡◌, ℕ, ◌<◌, ◌≤◌, List, length, count_by, nat_eq, slice_index_or}
use Rattle.meetings.specs.declared.numbers.Meeting.{Meeting}
use Rattle.meetings.specs.declared.numbers.Side.{Side}
use Rattle.meetings.specs.Lists.{party, nobody}

-- the round of a meeting that has none
abbrev pub none : ℕ
none = 65535

-- nobody is at two meetings in one of r rounds
abbrev pub Apart : ℕ → List Meeting → List ℕ → Type 0
Apart r ms xs =
    (s : Side) (i j : ℕ) → i < length ms → j < length ms → slice_index_or xs i none < r → slice_index_or xs i none ≡ slice_index_or xs j none →
    party s (slice_index_or ms i nobody) ≡ party s (slice_index_or ms j nobody) → i ≡ j

-- a plan gives each meeting one of r rounds
pub record Plan (r : ℕ) (ms : List Meeting) (xs : List ℕ) : Type 0 where
  pub each : length xs ≡ length ms
  pub round : (i : ℕ) → i < length ms → slice_index_or xs i none < r
  pub apart : Apart r ms xs

-- how many meetings are in a round
abbrev pub in_round : ℕ → List ℕ → ℕ
in_round c xs = count_by (λ x. nat_eq x c) xs

-- no round has more meetings than there are rooms
abbrev pub Rooms : ℕ → ℕ → List ℕ → Type 0
Rooms q r xs = (c : ℕ) → c < r → in_round c xs ≤ q

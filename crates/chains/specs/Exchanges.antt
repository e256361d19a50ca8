-- Exchanging two rounds on some meetings. Definitions; assumes nothing.
use Rattle.std.specs.Prelude.{◌≡◌, ℕ, ◌<◌, true, cond, ◌&&◌, List, map, length, count_by, ◌==◌, ◌≢◌, nat_eq}
use Rattle.std.specs.List.{range_with_len}
use Rattle.meetings.specs.declared.numbers.Meeting.{Meeting}
use Rattle.meetings.specs.declared.numbers.Side.{Side}
use Rattle.fewest.specs.Plans.{none}
use Rattle.chains.specs.Partial.{round_of, party_of}
use Rattle.chains.specs.declared.shapes.Shape.{Shape}
use Rattle.chains.specs.Rows.{WithinRows}
use Rattle.chains.specs.Chains.{two, in_two, swap, holds, Closed}

-- the members that are in a get b, those in b get a, all others keep their round
abbrev pub exchanged : ℕ → ℕ → List ℕ → List ℕ → List ℕ
exchanged a b is xs = map (λ i. cond (holds is i) (swap a b (round_of xs i)) (round_of xs i)) (range_with_len 0 (length xs))

-- how many of these meetings are in a round
abbrev pub among : List ℕ → ℕ → List ℕ → ℕ
among is c xs = count_by (λ i. nat_eq (round_of xs i) c) is

-- on these meetings a and b can be exchanged: all are in the two rounds, and with each are all that are beside it
pub record Exchangeable (ms : List Meeting) (z : Shape) (xs is : List ℕ) (a b : ℕ) : Type 0 where
  pub one : WithinRows z a
  pub other : WithinRows z b
  pub different : a ≡ b → ⊥
  pub within : (i : ℕ) → holds is i ≡ true → (i < length ms) × (in_two (two ms xs a b) i ≡ true)
  pub closed : Closed (two ms xs a b) (holds is)

-- one step of an exchange: the members that are in u get v, either of which may be none; all others keep their round
abbrev pub shifted : ℕ → ℕ → List ℕ → List ℕ → List ℕ
shifted u v is xs = map (λ i. cond (holds is i && round_of xs i == u) v (round_of xs i)) (range_with_len 0 (length xs))

-- the members that are in u can get v one after the other: no two of them share a party, and none shares one with a meeting
-- that is in v
pub record Movable (ms : List Meeting) (xs is : List ℕ) (u v : ℕ) : Type 0 where
  pub below : (i : ℕ) → holds is i ≡ true → i < length ms
  pub apart : (s : Side) (i j : ℕ) → holds is i ≡ true → holds is j ≡ true → round_of xs i ≡ u → round_of xs j ≡ u → party_of ms s i ≡ party_of ms s j → i ≡ j
  pub vacant : (v ≢ none) → (s : Side) (i j : ℕ) → holds is i ≡ true → round_of xs i ≡ u → j < length ms → party_of ms s j ≡ party_of ms s i → round_of xs j ≢ v

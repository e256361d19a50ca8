-- How many meetings each round has, the fullest and the emptiest, and how far the rounds are from even. Definitions; assumes
-- nothing.
use Rattle.std.specs.Prelude.{ℕ, ◌+◌, ◌-◌, ◌≡◌, ◌<◌, ◌≤◌, max, Bool, true, false, Option, MatchOption, Contains, List, map, length, ◌==◌, nat_lt, nat_le, slice_index}
use Rattle.std.specs.List.{range_with_len}
use Rattle.fewest.specs.Counting.{total, count}
use Rattle.fewest.specs.Plans.{in_round}
use Rattle.fewest.specs.Rounds.{divided_down, divided_up}
use Rattle.chains.specs.declared.neighbours.TwoRounds.{TwoRounds}
use Rattle.chains.specs.Lowest.{lowest}

-- how many meetings each of r rounds has
abbrev pub size : List ℕ → ℕ → ℕ
size xs c = in_round c xs

abbrev pub sizes_of : ℕ → List ℕ → List ℕ
sizes_of r xs = map (size xs) (range_with_len 0 r)

-- the lowest-numbered of r rounds whose size no other's beats, r if r is 0
abbrev pub unbeaten : (ℕ → ℕ → Bool) → (ℕ → ℕ) → ℕ → ℕ
unbeaten beats f r = lowest (λ c. count (λ e. beats (f e) (f c)) r == 0) r

abbrev pub more : ℕ → ℕ → Bool
more x y = nat_lt y x

-- the lowest-numbered of r rounds with the most meetings, and of those with the fewest
abbrev pub fullest : ℕ → (ℕ → ℕ) → ℕ
fullest r f = unbeaten more f r

abbrev pub emptiest : ℕ → (ℕ → ℕ) → ℕ
emptiest r f = unbeaten nat_lt f r

-- the fullest round has at least two meetings more than the emptiest
abbrev pub uneven : ℕ → (ℕ → ℕ) → Bool
uneven r f = nat_le (f (emptiest r f) + 2) (f (fullest r f))

-- the larger of two sums, where there are m meetings: how far the rounds lie above meetings divided by rounds, rounded up, and
-- how far they lie below it, rounded down
abbrev pub far_of : ℕ → ℕ → (ℕ → ℕ) → ℕ
far_of m r f = max (total (λ c. f c - divided_up m r) r) (total (λ c. divided_down m r - f c) r)

-- HOW FAR FROM EVEN: that for the meetings that have one of r rounds
abbrev pub far : ℕ → (ℕ → ℕ) → ℕ
far r f = far_of (total f r) r f

-- the least of some numbers, if there are any
pub record Least (xs : List ℕ) (x : ℕ) : Type 0 where
  pub all : (i : ℕ) → i < length xs → x ≤ slice_index xs i
  pub one : 1 ≤ length xs → Contains xs x

-- the fullest and the emptiest of r rounds
pub record UnevenRounds (r : ℕ) (f : ℕ → ℕ) (t : TwoRounds) : Type 0 where
  pub fullest : t.a.0 ≡ fullest r f
  pub emptiest : t.b.0 ≡ emptiest r f
  pub uneven : uneven r f ≡ true

-- these, if they are uneven
abbrev pub IfUneven : ℕ → (ℕ → ℕ) → Option TwoRounds → Type 0
IfUneven r f o = MatchOption o (uneven r f ≡ false) (UnevenRounds r f)

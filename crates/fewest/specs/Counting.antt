-- Sums and counts over the numbers below n. Assumes nothing.
use Rattle.std.specs.Prelude.{◌≡◌, ℕ, zero, suc, ◌+◌, Bool, cond, ◌&&◌, ◌==◌, nat_lt}

-- f 0 + f 1 + ... , n of them
abbrev pub total : (ℕ → ℕ) → ℕ → ℕ
total f zero = 0
total f (suc n) = f n + total f n

abbrev pub one_if : Bool → ℕ
one_if b = cond b 1 0

-- how many numbers below n pass
abbrev pub count : (ℕ → Bool) → ℕ → ℕ
count p n = total (λ i. one_if (p i)) n

-- COUNTING ROUND BY ROUND: of the first m meetings those that pass are counted in each of r rounds; together these are the
-- ones that pass and have a round below r. (All meetings, or those of one party: that is what p says.)
abbrev pub ByRounds : Type 0
ByRounds =
    (p : ℕ → Bool) (round : ℕ → ℕ) (m r : ℕ) →
    total (λ c. count (λ i. p i && round i == c) m) r ≡ count (λ i. p i && nat_lt (round i) r) m

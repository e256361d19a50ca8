-- The first number that passes a test. Assumes nothing.
use Rattle.std.specs.Prelude.{ℕ, zero, suc, Bool, cond}

-- the lowest number below n that passes, n if none does
abbrev pub lowest : (ℕ → Bool) → ℕ → ℕ
lowest p zero = 0
lowest p (suc n) = cond (p 0) 0 (suc (lowest (λ i. p (suc i)) n))

-- Answers that give a number, or nothing. Assumes nothing.
use Rattle.std.proofs.Common.{◌≡◌, ℕ, Option, Some, None, IsSome, refl, subst}
use Rattle.chains.specs.Partial.{Unless}

module _ {T : Type 0} (out : ℕ) (number : T → ℕ) (o : Option T) (x : ℕ) where
  -- what an answer that is there gives
  pub some_is : (v : T) → Unless out number o x → o ≡ Some v → (number v ≡ x) × (x ≡ out → ⊥)
  some_is v u e = subst (λ o'. Unless out number o' x) e u

-- there is an answer where there is a number
pub there_is : {T : Type 0} (out : ℕ) (number : T → ℕ) (o : Option T) (x : ℕ) → Unless out number o x → (x ≡ out → ⊥) → IsSome o
there_is out number None x u some = absurd (some u)
there_is out number (Some v) x u some = refl

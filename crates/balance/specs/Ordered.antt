-- The meetings of two rounds in their order. Assumes nothing.
use Rattle.std.specs.Prelude.{◌≡◌, ℕ, ◌<◌, true, cond, All, Contains, List, [], ◌∷◌, ◌==◌}
use Rattle.std.specs.List.Sorted.{IsNonDecreasing}
use Rattle.fewest.specs.Plans.{none}
use Rattle.chains.specs.Chains.{Two, in_two}

-- a meeting of the two rounds
abbrev pub Member : Two → ℕ → Type 0
Member t i = (i < t.many) × (in_two t i ≡ true)

-- each entry is a meeting of the two rounds, each of these is an entry, and numbers do not fall
pub record InOrder (t : Two) (is : List ℕ) : Type 0 where
  pub each : All (Member t) is
  pub all : (i : ℕ) → Member t i → Contains is i
  pub rising : IsNonDecreasing is

-- a meeting as a list, nothing where there is none
abbrev pub if_any : ℕ → List ℕ
if_any i = cond (i == none) [] (i ∷ [])

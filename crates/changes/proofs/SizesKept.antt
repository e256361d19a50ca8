-- One meeting more or less in a round changes the size of that round alone. Assumes nothing.
use Rattle.std.proofs.Common.{◌≡◌, ℕ, ◌+◌, ◌-◌, ◌<◌, ◌≤◌, eqb, List, length, get_or, set, sym, refl, ap, ◌∙◌, ⊎_elim, arith}
use Rattle.std.proofs.lemmas.Bool.{cases_eq, eq-eqb, ne_eqb}
use Rattle.std.proofs.lemmas.List.{get_or-set_same, get_or-set_other, length-set}
use Rattle.std.proofs.lemmas.List.Sums.{sum_by-set}
use Rattle.fewest.specs.Counting.{one_if}
use Rattle.fewest.specs.Plans.{none, in_round}
use Rattle.chains.specs.Partial.{round_of}
use Rattle.balance.specs.Sizes.{sizes_of}
use Rattle.balance.proofs.Counted.{are_sizes, size_at, sizes_long}

module _ (r : ℕ) (xs ys ns : List ℕ) (c : ℕ) (e : ns ≡ sizes_of r xs) (below : c < r) where
  long : length ns ≡ r
  long = ap length e ∙ sizes_long r xs

  was : (d : ℕ) → d < r → get_or ns d 0 ≡ in_round d xs
  was d h = ap (λ m. get_or m d 0) e ∙ size_at r xs d 0 h

  -- one size is another
  pub one_size : (y : ℕ) → y ≡ in_round c ys → ((d : ℕ) → d < r → (d ≡ c → ⊥) → in_round d ys ≡ in_round d xs) → set ns c y ≡ sizes_of r ys
  one_size y here else = are_sizes r ys (set ns c y) (length-set ns c y ∙ long) (λ d h. ⊎_elim
      (λ this. ap (λ j. get_or (set ns c y) j 0) this ∙ get_or-set_same ns c y 0 (omega (arith, long)) ∙ here ∙ ap (λ j. in_round j ys) (sym this))
      (λ other. get_or-set_other ns c d y 0 other ∙ was d h ∙ sym (else d h other))
      (cases_eq d c))

-- another round for one meeting
pub in_round_set : (xs : List ℕ) (i y c : ℕ) → i < length xs → in_round c (set xs i y) + one_if (eqb (round_of xs i) c) ≡ in_round c xs + one_if (eqb y c)
in_round_set xs i y c h = sum_by-set (λ x. one_if (eqb x c)) xs i y none h

module _ (r : ℕ) (xs ns : List ℕ) (i : ℕ) (h : i < length xs) (few : r ≤ none) (e : ns ≡ sizes_of r xs) (below : round_of xs i < r) where
  here : in_round (round_of xs i) (set xs i none) + 1 ≡ in_round (round_of xs i) xs
  here = omega (arith, in_round_set xs i none (round_of xs i) h, ap one_if (eq-eqb (round_of xs i) (round_of xs i) refl), ap one_if (ne_eqb none (round_of xs i) (λ e. omega arith)))

  -- a meeting that has a round is counted for it
  pub is_counted : 1 ≤ get_or ns (round_of xs i) 0
  is_counted = omega (arith, ap (λ m. get_or m (round_of xs i) 0) e, size_at r xs (round_of xs i) 0 below, here)

  -- it leaves the round
  pub one_less : set ns (round_of xs i) (get_or ns (round_of xs i) 0 - 1) ≡ sizes_of r (set xs i none)
  one_less = one_size r xs (set xs i none) ns (round_of xs i) e below _ (omega (arith, ap (λ m. get_or m (round_of xs i) 0) e, size_at r xs (round_of xs i) 0 below, here)) (λ d l other. omega (arith, in_round_set xs i none d h, ap one_if (ne_eqb (round_of xs i) d (λ s. other (sym s))), ap one_if (ne_eqb none d (λ s. omega (arith, few)))))

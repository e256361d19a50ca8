-- The first round with the largest size is the fullest, and the first with the least is the emptiest. Assumes nothing.
use Rattle.std.proofs.Common.{◌≡◌, ℕ, ◌<◌, ◌≤◌, eqb, Contains, List, length, get_or, sym, refl, ap, ◌∙◌, subst, ⊎_elim, arith}
use Rattle.std.specs.List.{position}
use Rattle.std.proofs.lemmas.Bool.{both_ways, cases_lt, eq-eqb, eqb-true}
use Rattle.std.proofs.lemmas.List.{get_or_default}
use Rattle.fewest.specs.Rounds.{largest}
use Rattle.fewest.proofs.Busiest.{largest_stands}
use Rattle.fewest.proofs.Numbers.{largest_above}
use Rattle.chains.specs.Lowest.{lowest}
use Rattle.chains.specs.Partial.{Unless}
use Rattle.chains.proofs.Lowest.{lowest_of}
use Rattle.placing.proofs.Found.{position_lowest}
use Rattle.balance.specs.Sizes.{Least, fullest, emptiest}
use Rattle.balance.proofs.Extremes.{fullest_found, emptiest_found, fullest_is, emptiest_is}

-- the first place of x is what the first place of x must be, 0 where there is none
module _ (xs : List ℕ) (x place : ℕ) (some : 1 ≤ length xs → Contains xs x) (is : (c : ℕ) → c < length xs → get_or xs c 0 ≡ x → ((e : ℕ) → e < c → get_or xs e 0 ≡ get_or xs c 0 → ⊥) → place ≡ c) (empty : length xs ≡ 0 → place ≡ 0) where
  first_is : lowest (λ c. eqb (get_or xs c 0) x) (length xs) ≡ place
  first_is =
      let low = lowest_of (λ c. eqb (get_or xs c 0) x) (length xs) in
      let c = lowest (λ c. eqb (get_or xs c 0) x) (length xs) in
      ⊎_elim
      (λ none. let no : length xs ≡ 0 = omega arith in omega (arith, low.most, empty no))
      (λ long.
      let there = some long in
      ⊎_elim
      (λ below. let here = eqb-true _ _ (low.passes below) in sym (is c below here (λ e l same. both_ways _ (low.before e l) (eq-eqb _ _ (same ∙ here)))))
      (λ past. absurd (both_ways _ (low.before there.0 (omega (arith, there.1))) (eq-eqb _ _ (get_or_default xs there.0 0 x there.1 ∙ there.2))))
      (cases_lt c (length xs)))
      (cases_lt (length xs) 1)

  first_place : Unless (length xs) (λ c. c) (position (λ y. eqb y x) xs) place
  first_place = subst (λ n. Unless (length xs) (λ c. c) (position (λ y. eqb y x) xs) n) first_is (position_lowest 0 (λ y. eqb y x) (λ c. eqb (get_or xs c 0) x) xs (length xs) refl (λ c h. refl))

-- the largest of some numbers is one of them
one_largest : (xs : List ℕ) → 1 ≤ length xs → Contains xs (largest xs)
one_largest xs some =
    ⊎_elim
    (λ none. (0, some, get_or_default xs 0 (largest xs) 0 some ∙ omega (arith, largest_above xs 0 some)))
    (λ there. (there.0, there.1, get_or_default xs there.0 (largest xs) 0 there.1 ∙ there.2))
    (largest_stands xs)

pub largest_first : (xs : List ℕ) → Unless (length xs) (λ c. c) (position (λ y. eqb y (largest xs)) xs) (fullest (length xs) (λ c. get_or xs c 0))
largest_first xs =
    first_place xs (largest xs) _ (one_largest xs)
    (λ c h e first. fullest_found (length xs) (λ c. get_or xs c 0) c h (λ i l. omega (arith, largest_above xs i l)) first)
    (λ none. ap (λ n. fullest n (λ c. get_or xs c 0)) none)

pub least_first : (xs : List ℕ) (x : ℕ) → Least xs x → Unless (length xs) (λ c. c) (position (λ y. eqb y x) xs) (emptiest (length xs) (λ c. get_or xs c 0))
least_first xs x bottom =
    first_place xs x _ bottom.one
    (λ c h e first. emptiest_found (length xs) (λ c. get_or xs c 0) c h (λ i l. omega (arith, bottom.all i l)) first)
    (λ none. ap (λ n. emptiest n (λ c. get_or xs c 0)) none)

-- where a fullest round was found there are rounds, and it and the emptiest are among these
module _ (r : ℕ) (f : ℕ → ℕ) (a : ℕ) (found : (a ≡ fullest r f) × (fullest r f ≡ r → ⊥)) where
  some_rounds : 1 ≤ r
  some_rounds = ⊎_elim (λ none. absurd (found.1 (none_there none))) (λ some. some) (cases_lt r 1)
    where
      none_there : r < 1 → fullest r f ≡ r
      none_there none = let e : r ≡ 0 = omega arith in ap (λ n. fullest n f) e ∙ sym e

  pub fullest_there : a < r
  fullest_there = omega (arith, found.0, (fullest_is r f some_rounds).0)

  pub emptiest_there : (b : ℕ) → b ≡ emptiest r f → b < r
  emptiest_there b e = omega (arith, (emptiest_is r f some_rounds).0)

  pub emptiest_not_none : emptiest r f ≡ r → ⊥
  emptiest_not_none e = omega (arith, (emptiest_is r f some_rounds).0)

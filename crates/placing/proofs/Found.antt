-- The first pair of entries of two rows that passes a test is at the lowest round that does. Assumes nothing.
use Rattle.std.proofs.Common.{◌≡◌, ℕ, zero, suc, ◌<◌, ◌≤◌, Bool, true, false, cond, ltb, Some, None, List, [], ◌∷◌, length, get_or, take, sym, refl, ap, ◌∙◌, arith}
use Rattle.std.proofs.lemmas.Bool.{ltb-true, ltb-false}
use Rattle.std.proofs.lemmas.List.{get_or-take, length-take-le}
use Rattle.std.proofs.lemmas.List.Sums.{fails_before_first, passes_at_first}
use Rattle.std.proofs.lemmas.Slice.Zip.{get_or-zip, length-zip}
use Rattle.std.specs.List.{position, position_or_len, zip}
use Rattle.chains.specs.Lowest.{lowest}
use Rattle.chains.specs.Partial.{Unless}
use Rattle.chains.proofs.Lowest.{lowest_is}

module _ {X : Type 0} (d : X) (p : X → Bool) (q : ℕ → Bool) (es : List X) (n : ℕ) (long : length es ≡ n) (each : (c : ℕ) → c < n → p (get_or es c d) ≡ q c) where
  before : (c : ℕ) → c < n → c < position_or_len p es → q c ≡ false
  before c h l = sym (each c h) ∙ fails_before_first p es c d l

  one_found : (b : Bool) → b ≡ ltb (position_or_len p es) (length es) → Unless n (λ x. x) (cond b (Some (position_or_len p es)) None) (lowest q n)
  one_found true e =
      let h : position_or_len p es < n = omega (arith, ltb-true _ _ (sym e)) in
      let low : lowest q n ≡ position_or_len p es = lowest_is q n _ (record { most = omega arith; before = λ c l. before c (omega arith) l; passes = λ l. sym (each _ h) ∙ passes_at_first p es d (omega arith) }) in
      (sym low, λ out. omega arith)
  one_found false e =
      let past : n ≤ position_or_len p es = omega (arith, ltb-false _ _ (sym e)) in
      lowest_is q n n (record { most = omega arith; before = λ c l. before c l (omega arith); passes = λ l. absurd (omega arith) })

  -- the place of the first element that passes is the lowest
  pub position_lowest : Unless n (λ x. x) (position p es) (lowest q n)
  position_lowest = one_found (ltb (position_or_len p es) (length es)) refl

-- the first of so many pairs of two rows
pub found_lowest : (p : ℕ × ℕ → Bool) (xs ys : List ℕ) (n : ℕ) → n ≤ length xs → n ≤ length ys → Unless n (λ x. x) (position p (take n (zip xs ys))) (lowest (λ c. p (get_or xs c 0, get_or ys c 0)) n)
found_lowest p xs ys n hx hy =
    position_lowest (0, 0) p (λ c. p (get_or xs c 0, get_or ys c 0)) (take n (zip xs ys)) n
    (length-take-le n (zip xs ys) (omega (arith, length-zip xs ys)))
    (λ c h. ap p (get_or-take n (zip xs ys) c (0, 0) h ∙ get_or-zip xs ys c (0, 0) (omega arith) (omega arith)))

-- two rows that are cut to one length, and their pairs cut to it
pub cut_alike : (n : ℕ) (xs ys : List ℕ) → zip (take n xs) (take n ys) ≡ take n (zip xs ys)
cut_alike zero xs ys = refl
cut_alike (suc n) [] ys = refl
cut_alike (suc n) (x ∷ xs) [] = refl
cut_alike (suc n) (x ∷ xs) (y ∷ ys) = ap (λ es. (x, y) ∷ es) (cut_alike n xs ys)

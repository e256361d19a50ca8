-- A list of meetings with those of another that it did not have: its members. Assumes nothing.
use Rattle.std.proofs.Common.{◌≡◌, ℕ, Bool, true, false, cond, ◌||◌, eqb, List, [], ◌∷◌, ◌++◌, sym, refl, ap, ◌∙◌, ⊎_elim, arith}
use Rattle.std.proofs.lemmas.Bool.{both_ways, cond_both, ne_eqb}
use Rattle.std.proofs.lemmas.Bool.Decides.{nat_tests}
use Rattle.chains.specs.Chains.{holds}
use Rattle.chains.specs.Finding.{with_new}
use Rattle.chains.specs.Statements.{Once}
use Rattle.chains.proofs.Marks.{holds_more}
use Rattle.chains.proofs.Members.{Fresh, fresh_append, fresh_from_once, held_cases, holds_cons, none_held, once_from_fresh}

-- with one that may be new
one_held : (is : List ℕ) (j i : ℕ) → holds (cond (holds is j) is (is ++ j ∷ [])) i ≡ (holds is i || eqb i j)
one_held is j i =
    cond_both (holds is j) is (is ++ j ∷ []) (λ l. holds l i ≡ (holds is i || eqb i j))
    (λ there. already (holds is i) (λ e. ap (holds is) e ∙ there))
    (λ new. ap (λ f. f i) (holds_more is j) ∙ step (holds is i) i j)
  where
    already : (h : Bool) → (i ≡ j → h ≡ true) → h ≡ (h || eqb i j)
    already true there = refl
    already false there = sym (ne_eqb i j (λ e. both_ways false refl (there e)))

    step : (h : Bool) (i j : ℕ) → cond (eqb i j) true h ≡ (h || eqb i j)
    step h i j = grind (arith, nat_tests)

-- a member is one of either
pub new_held : (is js : List ℕ) (i : ℕ) → holds (with_new is js) i ≡ (holds is i || holds js i)
new_held is [] i = either (holds is i)
  where
    either : (b : Bool) → b ≡ (b || false)
    either true = refl
    either false = refl
new_held is (j ∷ js) i =
    new_held (cond (holds is j) is (is ++ j ∷ [])) js i
    ∙ ap (λ h. h || holds js i) (one_held is j i)
    ∙ in_turn (holds is i) (eqb i j) (holds js i)
    ∙ ap (λ h. holds is i || h) (sym (holds_cons j js i))
  where
    in_turn : (p q r : Bool) → ((p || q) || r) ≡ (p || (q || r))
    in_turn true q r = refl
    in_turn false q r = refl

-- with those of two lists, one after the other
pub new_append : (is js ks : List ℕ) → with_new is (js ++ ks) ≡ with_new (with_new is js) ks
new_append is [] ks = refl
new_append is (j ∷ js) ks = new_append (cond (holds is j) is (is ++ j ∷ [])) js ks

-- none comes to stand in it twice
new_fresh : (is js : List ℕ) → Fresh is → Fresh (with_new is js)
new_fresh is [] fresh = fresh
new_fresh is (j ∷ js) fresh =
    new_fresh (cond (holds is j) is (is ++ j ∷ [])) js
    (cond_both (holds is j) is (is ++ j ∷ []) Fresh
    (λ there. fresh)
    (λ new. fresh_append is (j ∷ []) fresh (refl, tt) (λ k old same. ⊎_elim (λ e. both_ways (holds is j) new (ap (holds is) (sym e) ∙ old)) (none_held k) (held_cases j [] k same))))

pub new_once : (is js : List ℕ) → Once is → Once (with_new is js)
new_once is js once = once_from_fresh (with_new is js) (new_fresh is js (fresh_from_once is once))

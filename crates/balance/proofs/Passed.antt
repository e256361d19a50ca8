-- What looking has passed over when it comes to a meeting: the parts of all lower meetings of the two rounds, none with one more
-- in the fuller; so it ends at a part with one more, or has passed over every meeting. Assumes nothing.
use Rattle.std.proofs.Common.{◌≡◌, ℕ, zero, suc, ◌+◌, ◌<◌, ◌≤◌, true, false, not, ◌&&◌, eqb, ◌⊎◌, List, [], ◌++◌, sym, refl, ap, ◌∙◌, subst, inl, inr, ⊎_elim, arith}
use Rattle.std.proofs.lemmas.Bool.{both_ways, and_from, and_parts, cases_Bool, cases_eq, cond_both, eqb-true, eqb-false, not-true, not_from_false, or_right}
use Rattle.std.proofs.lemmas.List.Sums.{sum_by-append}
use Rattle.fewest.specs.Counting.{one_if}
use Rattle.chains.specs.Chains.{Two, in_two, Sound, Closed, Linked, nothing, holds, part}
use Rattle.chains.specs.Statements.{Once, in_part, PartOf}
use Rattle.chains.proofs.Members.{in_all, all_before, all_append, append_cases, none_held, fresh_append, fresh_from_once, once_from_fresh}
use Rattle.chains.proofs.Parts.{parts}
use Rattle.balance.specs.Looking.{one_more, Looked, looked, look_from, look}
use Rattle.balance.specs.Statements.{OneMore}

-- a member of either list is one of both together
pub in_front : (is js : List ℕ) (j : ℕ) → holds is j ≡ true → holds (is ++ js) j ≡ true
in_front is js j h = ap (λ f. f j) (all_append nothing is js) ∙ all_before (holds is) js j h

pub in_back : (is js : List ℕ) (j : ℕ) → holds js j ≡ true → holds (is ++ js) j ≡ true
in_back is js j h = ap (λ f. f j) (all_append nothing is js) ∙ in_all (holds is) js j ∙ or_right (holds is j) (holds js j) h

-- a part that has meeting k and not one more in the fuller round
pub record Passable (t : Two) (k : ℕ) : Type 0 where
  pub start : ℕ
  pub members : List ℕ
  pub whole : PartOf t start members
  pub there : holds members k ≡ true
  pub not_one_more : OneMore t members → ⊥

-- what was passed over when meeting i is come to
pub record Passed (t : Two) (i : ℕ) (is : List ℕ) : Type 0 where
  pub within : (j : ℕ) → holds is j ≡ true → (j < t.many) × (in_two t j ≡ true)
  pub once : Once is
  pub closed : Closed t (holds is)
  pub below : (k : ℕ) → k < i → in_two t k ≡ true → holds is k ≡ true
  pub linked : (j : ℕ) → holds is j ≡ true → (k : ℕ) × (k < i) × (in_two t k ≡ true) × Linked t k j
  pub passable : (k : ℕ) → holds is k ≡ true → Passable t k
  pub not_fuller : in_part t t.a is ≤ in_part t t.b is

-- the part of i was taken
pub record Taken (t : Two) (l : Looked) (i : ℕ) : Type 0 where
  pub before : Passed t i l.passed
  pub whole : PartOf t i l.taken
  pub more : OneMore t l.taken
  pub new : (j : ℕ) → holds l.taken j ≡ true → holds l.passed j ≡ false

-- a part was taken, or all were passed over
abbrev pub Ended : Two → Looked → Type 0
Ended t l = ((i : ℕ) × Taken t l i) ⊎ (Passed t t.many l.passed × (l.taken ≡ []))

at_first : (t : Two) → Passed t 0 []
at_first t = record {
  within = λ j h. absurd (none_held j h);
  once = λ p q hp. absurd (omega arith);
  closed = λ i j beside h. absurd (none_held i h);
  below = λ k l. absurd (omega arith);
  linked = λ j h. absurd (none_held j h);
  passable = λ k h. absurd (none_held k h);
  not_fuller = omega arith;
}

-- a meeting in neither round, or in a part passed over, is left alone
skipped : (t : Two) (i : ℕ) (is : List ℕ) → Passed t i is → (in_two t i && not (holds is i)) ≡ false → Passed t (suc i) is
skipped t i is before over = record {
  within = before.within;
  once = before.once;
  closed = before.closed;
  below = λ k l in_k. ⊎_elim (λ e. ap (holds is) e ∙ there (ap (in_two t) (sym e) ∙ in_k)) (λ other. before.below k (omega arith) in_k) (cases_eq k i);
  linked = λ j h. let from = before.linked j h in (from.0, omega (arith, from.1), from.2, from.3);
  passable = before.passable;
  not_fuller = before.not_fuller;
}
  where
    there : in_two t i ≡ true → holds is i ≡ true
    there in_i = ⊎_elim (λ one. one) (λ out. absurd (both_ways _ over (and_from _ _ in_i (not_from_false _ out)))) (cases_Bool (holds is i))

-- any other meeting: its part shares none with those passed over, and is passed over or taken
module _ (t : Two) (sound : Sound t) (i : ℕ) (is : List ℕ) (h : i < t.many) (before : Passed t i is) where
  part_there : (in_two t i && not (holds is i)) ≡ true → PartOf t i (part t (holds is) i) × ((j : ℕ) → holds (part t (holds is) i) j ≡ true → holds is j ≡ false) × Closed t (holds (is ++ part t (holds is) i))
  part_there start =
      let both = and_parts (in_two t i) (not (holds is i)) start in
      let found = parts t (holds is) i sound before.closed h both.0 (not-true (holds is i) both.1) in
      (found.0, found.1, subst (Closed t) (sym (all_append nothing is (part t (holds is) i))) found.2)

  passed_over : (in_two t i && not (holds is i)) ≡ true → one_more t (part t (holds is) i) ≡ false → Passed t (suc i) (is ++ part t (holds is) i)
  passed_over start no_more =
      let ps = part t (holds is) i in
      let in_i = (and_parts (in_two t i) (not (holds is i)) start).0 in
      let there = part_there start in
      let not_one : OneMore t ps → ⊥ = eqb-false (in_part t t.a ps) (suc (in_part t t.b ps)) no_more in
      let in_a = sum_by-append (λ j. one_if (eqb (t.round j) t.a)) is ps in
      let in_b = sum_by-append (λ j. one_if (eqb (t.round j) t.b)) is ps in
      record {
        within = λ j m. ⊎_elim (before.within j) (there.0.within j) (append_cases is ps j m);
        once = once_from_fresh (is ++ ps) (fresh_append is ps (fresh_from_once is before.once) (fresh_from_once ps there.0.once) (λ j old new. both_ways (holds is j) (there.1 j new) old));
        closed = there.2;
        below = λ k l in_k. ⊎_elim
            (λ e. in_back is ps k (ap (holds ps) e ∙ there.0.starts))
            (λ other. in_front is ps k (before.below k (omega arith) in_k))
            (cases_eq k i);
        linked = λ j m. ⊎_elim
            (λ old. let from = before.linked j old in (from.0, omega (arith, from.1), from.2, from.3))
            (λ new. (i, omega arith, in_i, there.0.linked j new))
            (append_cases is ps j m);
        passable = λ k m. ⊎_elim
            (before.passable k)
            (λ new. record { start = i; members = ps; whole = there.0; there = new; not_one_more = not_one })
            (append_cases is ps k m);
        not_fuller = omega (arith, before.not_fuller, there.0.even.0, not_one);
      }

  part_taken : (in_two t i && not (holds is i)) ≡ true → one_more t (part t (holds is) i) ≡ true → Taken t (looked is (part t (holds is) i)) i
  part_taken start more = let there = part_there start in record { before = before; whole = there.0; more = eqb-true _ _ more; new = there.1 }

looked_from : (t : Two) → Sound t → (left i : ℕ) (is : List ℕ) → i + left ≡ t.many → Passed t i is → Ended t (look_from t left i is)
looked_from t sound zero i is e before = inr (subst (λ k. Passed t k is) (omega arith) before, refl)
looked_from t sound (suc left) i is e before =
    let h : i < t.many = omega arith in
    let next : suc i + left ≡ t.many = omega arith in
    cond_both (in_two t i && not (holds is i)) _ _ (Ended t)
    (λ start. cond_both (one_more t (part t (holds is) i)) _ _ (Ended t)
    (λ more. inl (i, part_taken t sound i is h before start more))
    (λ no_more. looked_from t sound left (suc i) (is ++ part t (holds is) i) next (passed_over t sound i is h before start no_more)))
    (λ over. looked_from t sound left (suc i) is next (skipped t i is before over))

-- LOOKING ENDS at a part with one more, or has passed over all
pub ended : (t : Two) → Sound t → Ended t (look t)
ended t sound = looked_from t sound t.many 0 [] (omega arith) (at_first t)

-- The meetings that the steps of putting in name: those of the chain, and the meeting itself. Assumes nothing.
use Rattle.std.proofs.Common.{◌≡◌, ℕ, ◌<◌, ◌≤◌, Bool, true, false, cond, ltb, List, [], ◌∷◌, ◌++◌, length, get_or, set, ◌+◌, refl, sym, ap, ◌∙◌, arith}
use Rattle.std.proofs.lemmas.List.{append_assoc}
use Rattle.std.proofs.lemmas.Bool.{cond_both, eq-eqb, ltb-false, ne_eqb}
use Rattle.meetings.specs.declared.numbers.Meeting.{Meeting}
use Rattle.meetings.specs.declared.numbers.Side.TheVariants.{Groups, Stations}
use Rattle.fewest.specs.Counting.{one_if}
use Rattle.fewest.specs.Plans.{none, in_round}
use Rattle.chains.specs.declared.found.Found.{Found}
use Rattle.chains.specs.Chains.{holds}
use Rattle.chains.specs.Finding.{Finds, found_in, with_new}
use Rattle.chains.proofs.Members.{none_held}
use Rattle.chains.proofs.WithNew.{new_append}
use Rattle.placing.specs.Putting.{common_free, own_free, chain_for}
use Rattle.placing.specs.Statements.{OneMoreIn, Ready}
use Rattle.placing.specs.Steps as steps
use Rattle.placing.specs.Steps.{Step, all_named, chained, exchange, put_in, put_steps}
use Rattle.placing.proofs.Opens.{chain_opens}
use Rattle.balance.specs.Sizes.{sizes_of}
use Rattle.balance.proofs.Counted.{size_at, size_short}
use Rattle.changes.proofs.SizesKept.{one_size}

put_or_chain : (i : ℕ) (b : Bool) (c a e : ℕ) (is : List ℕ) → all_named (cond b (put_in i c ∷ []) (exchange a e (cond b [] is) ∷ put_in i a ∷ [])) ≡ cond b [] is ++ i ∷ []
put_or_chain i true c a e is = refl
put_or_chain i false c a e is = refl

module _ (r : ℕ) (ms : List Meeting) (xs : List ℕ) (i : ℕ) where
  pub put_named : all_named (put_steps r ms xs i) ≡ chained r ms xs i ++ i ∷ []
  put_named = put_or_chain i (ltb (common_free r ms xs i) r) (common_free r ms xs i) (own_free r ms xs i Groups) (own_free r ms xs i Stations) (chain_for ms xs i (own_free r ms xs i Groups) (own_free r ms xs i Stations))

  -- the chain is among the meetings
  pub chained_below : (n k : ℕ) → Ready n k r ms xs i → (j : ℕ) → holds (chained r ms xs i) j ≡ true → j < length ms
  chained_below n k ready j =
      cond_both (ltb (common_free r ms xs i) r) [] (chain_for ms xs i (own_free r ms xs i Groups) (own_free r ms xs i Stations)) (λ is. holds is j ≡ true → j < length ms)
      (λ common h. absurd (none_held j h))
      (λ no_common h. ((chain_opens n k r ms xs i ready (ltb-false _ _ no_common)).2.whole.within j h).0)

-- the size of the round that gets one more
module _ (r : ℕ) (xs ys ns : List ℕ) (c : ℕ) (e : ns ≡ sizes_of r xs) (few : r ≤ none) (below : c < r) (one : OneMoreIn xs ys c) where
  here : in_round c ys ≡ in_round c xs + 1
  here = one c (λ out. omega arith) ∙ ap (λ b. in_round c xs + one_if b) (eq-eqb c c refl)

  was : get_or ns c 0 ≡ in_round c xs
  was = ap (λ m. get_or m c 0) e ∙ size_at r xs c 0 below

  pub one_more_fits : length ys ≤ none → get_or ns c 0 < none
  one_more_fits short = omega (arith, was, here, size_short ys c)

  pub one_more_size : set ns c (get_or ns c 0 + 1) ≡ sizes_of r ys
  one_more_size = one_size r xs ys ns c e below (get_or ns c 0 + 1) (omega (arith, was, here)) (λ d h other. one d (λ out. omega arith) ∙ omega (arith, ap one_if (ne_eqb d c other)))

-- a list with the chain, and then with the meeting
pub put_touches : (u v w : Found) (r : ℕ) (ms : List Meeting) (xs : List ℕ) (i : ℕ) (is : List ℕ) → is ≡ chained r ms xs i → Finds u v (with_new (found_in u) is) → Finds v w (with_new (found_in v) (i ∷ [])) → Finds u w (with_new (found_in u) (all_named (put_steps r ms xs i)))
put_touches u v w r ms xs i is chain one two = record {
  among = two.among ∙ one.among;
  list =
      two.list
      ∙ ap (λ l. with_new l (i ∷ [])) one.list
      ∙ sym (new_append (found_in u) is (i ∷ []))
      ∙ ap (λ l. with_new (found_in u) (l ++ i ∷ [])) chain
      ∙ ap (with_new (found_in u)) (sym (put_named r ms xs i));
}

-- the meetings that steps name, one list after the other
pub named_append : (ts us : List Step) → all_named (ts ++ us) ≡ all_named ts ++ all_named us
named_append [] us = refl
named_append (t ∷ ts) us = ap (λ l. steps.named t ++ l) (named_append ts us) ∙ sym (append_assoc (steps.named t) (all_named ts) (all_named us))

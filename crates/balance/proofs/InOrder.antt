-- The meetings of two rounds are those that the groups have in them, round by round and group by group; sorted they are in the
-- order of their numbers. Assumes nothing.
use Rattle.std.proofs.Common.{◌≡◌, ℕ, ◌+◌, ◌<◌, ◌≤◌, true, ◌||◌, eqb, All, Contains, List, [], ◌∷◌, ◌++◌, length, sym, refl, ap, ◌∙◌, subst, ⊎_elim, arith}
use Rattle.std.proofs.lemmas.Bool.{both_ways, cases_lt, cond_both, eq-eqb, eqb-true, or_cases, or_left, or_right}
use Rattle.std.proofs.lemmas.List.{length-append}
use Rattle.std.proofs.lemmas.List.Elements.{All-nil, All-cons, All-append, Contains-append_left, Contains-append_right, Contains-push}
use Rattle.std.proofs.lemmas.List.Sorted.{All-permutation, Contains-permutation, IsNonDecreasingBy-from_sort}
use Rattle.std.specs.List.Sorted.{IsPermutation, IsSorted}
use Rattle.std.specs.Ordering.{nat_cmp}
use Rattle.meetings.specs.declared.numbers.Side.TheVariants.{Groups}
use Rattle.fewest.specs.Plans.{none}
use Rattle.chains.specs.Chains.{Two, in_two, Sound}
use Rattle.chains.specs.Partial.{meeting_at}
use Rattle.chains.proofs.Entries.{at_found, at_none, at_cases}
use Rattle.balance.specs.Ordered.{Member, InOrder, if_any}

-- the meeting that group g has in round c, if it has one there
abbrev there : Two → ℕ → ℕ → ℕ
there t g c = meeting_at t.many (t.party Groups) t.round g c

-- those of the groups before g, in any order
pub record Gathered (t : Two) (g : ℕ) (is : List ℕ) : Type 0 where
  pub each : All (Member t) is
  pub all : (i : ℕ) → Member t i → t.party Groups i < g → Contains is i
  pub short : length is ≤ g + g

if_any_short : (y : ℕ) → length (if_any y) ≤ 1
if_any_short y = cond_both (eqb y none) [] (y ∷ []) (λ l. length l ≤ 1) (λ out. omega arith) (λ some. omega arith)

if_any_has : (y : ℕ) → (y ≡ none → ⊥) → Contains (if_any y) y
if_any_has y some = cond_both (eqb y none) [] (y ∷ []) (λ l. Contains l y) (λ out. absurd (some (eqb-true y none out))) (λ e. Contains-push [] y)

module _ (t : Two) (sound : Sound t) where
  -- what a group has in one of the two rounds is a meeting of these
  any_member : (g c : ℕ) → (eqb c t.a || eqb c t.b) ≡ true → All (Member t) (if_any (there t g c))
  any_member g c one =
      cond_both (eqb (there t g c) none) [] (there t g c ∷ []) (All (Member t))
      (λ out. All-nil (Member t))
      (λ some. ⊎_elim
      (λ past. absurd (both_ways _ some (eq-eqb _ _ past)))
      (λ below. All-cons (Member t) (there t g c) [] (below, in_round below) (All-nil (Member t)))
      (at_cases t.many (t.party Groups) t.round g c))
    where
      in_round : there t g c < t.many → in_two t (there t g c) ≡ true
      in_round below = subst (λ x. (eqb x t.a || eqb x t.b) ≡ true) (sym (at_found t.many (t.party Groups) t.round g c sound.few below).1) one

  -- a meeting of the two rounds is the one that its group has in its round
  any_has : (g c i : ℕ) → Member t i → t.party Groups i ≡ g → t.round i ≡ c → Contains (if_any (there t g c)) i
  any_has g c i member group round =
      ⊎_elim
      (λ past. absurd (at_none t.many (t.party Groups) t.round g c past sound.few i member.0 group round))
      (λ below.
      let found = at_found t.many (t.party Groups) t.round g c sound.few below in
      let same : i ≡ there t g c = sound.apart Groups i (there t g c) member.0 below member.1 (round ∙ sym found.1) (group ∙ sym found.0) in
      subst (Contains (if_any (there t g c))) (sym same) (if_any_has (there t g c) (λ out. omega (arith, sound.few))))
      (at_cases t.many (t.party Groups) t.round g c)

  -- one group more
  pub gathered_more : (g : ℕ) (is js ks : List ℕ) → Gathered t g is → js ≡ is ++ if_any (there t g t.a) → ks ≡ js ++ if_any (there t g t.b) → Gathered t (g + 1) ks
  gathered_more g is js ks before e f = record {
    each = subst (All (Member t)) (sym f) (All-append (Member t) js (if_any (there t g t.b)) (subst (All (Member t)) (sym e) (All-append (Member t) is (if_any (there t g t.a)) before.each (any_member g t.a (or_left (eqb t.a t.a) (eqb t.a t.b) (eq-eqb t.a t.a refl))))) (any_member g t.b (or_right (eqb t.b t.a) (eqb t.b t.b) (eq-eqb t.b t.b refl))));
    all = λ i member l. ⊎_elim (λ less. front i (earlier i (before.all i member less))) (λ more. here i member (omega arith)) (cases_lt (t.party Groups i) g);
    short = omega (arith, before.short, ap length e, ap length f, length-append is (if_any (there t g t.a)), length-append js (if_any (there t g t.b)), if_any_short (there t g t.a), if_any_short (there t g t.b));
  }
    where
      earlier : (i : ℕ) → Contains is i → Contains js i
      earlier i h = subst (λ l. Contains l i) (sym e) (Contains-append_left is (if_any (there t g t.a)) i h)

      front : (i : ℕ) → Contains js i → Contains ks i
      front i h = subst (λ l. Contains l i) (sym f) (Contains-append_left js (if_any (there t g t.b)) i h)

      here : (i : ℕ) → Member t i → t.party Groups i ≡ g → Contains ks i
      here i member group =
          ⊎_elim
          (λ in_a. front i (subst (λ l. Contains l i) (sym e) (Contains-append_right is (if_any (there t g t.a)) i (any_has g t.a i member group (eqb-true _ _ in_a)))))
          (λ in_b. subst (λ l. Contains l i) (sym f) (Contains-append_right js (if_any (there t g t.b)) i (any_has g t.b i member group (eqb-true _ _ in_b))))
          (or_cases (eqb (t.round i) t.a) (eqb (t.round i) t.b) member.1)

-- those of all groups, sorted
pub sorted_in_order : (t : Two) (n : ℕ) (is js : List ℕ) → ((i : ℕ) → i < t.many → t.party Groups i < n) → Gathered t n is → IsPermutation is js → IsSorted nat_cmp js → InOrder t js
sorted_in_order t n is js exist all moved sorted = record {
  each = All-permutation (Member t) is js moved all.each;
  all = λ i member. Contains-permutation is js i moved (all.all i member (exist i member.0));
  rising = IsNonDecreasingBy-from_sort (λ x. x) js sorted;
}

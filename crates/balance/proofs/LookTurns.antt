-- One turn of looking: as long as all meetings of the two rounds with lower numbers are in parts passed over, looking from here
-- on gives what looking from the start gives. Assumes nothing.
use Rattle.std.proofs.Common.{◌≡◌, ℕ, zero, suc, ◌+◌, ◌-◌, ◌<◌, ◌≤◌, Bool, true, false, cond, not, ◌&&◌, List, ◌++◌, length, get_or, sym, refl, ap, ◌∙◌, ⊎_elim, arith}
use Rattle.std.proofs.lemmas.Bool.{and_from, cases_lt, cond-true, cond-false}
use Rattle.std.proofs.lemmas.List.{append-nil, get_or_default}
use Rattle.chains.specs.declared.found.Found.{Found}
use Rattle.meetings.specs.declared.numbers.Side.TheVariants.{Groups, Stations}
use Rattle.chains.specs.Chains.{Two, in_two, holds, with_one, with_all, walked, chain, part}
use Rattle.chains.specs.Finding.{Finds, among_all, found_in}
use Rattle.chains.proofs.Members.{first_held}
use Rattle.balance.specs.Looking.{looked, look, look_from, one_more}
use Rattle.balance.specs.OnBoard.{Looks}
use Rattle.balance.proofs.Passed.{in_back, in_front}
use Rattle.balance.specs.Ordered.{Member, InOrder}

-- all meetings of the two rounds before meeting i are in these parts
abbrev pub Seen : Two → ℕ → List ℕ → Type 0
Seen t i is = (j : ℕ) → Member t j → j < i → holds is j ≡ true

-- a meeting that is in neither round, or in a part passed over, is left alone
left_alone : (t : Two) (left i : ℕ) (is : List ℕ) → (in_two t i ≡ true → holds is i ≡ true) → look_from t (suc left) i is ≡ look_from t left (suc i) is
left_alone t left i is seen =
    cond-false (in_two t i && not (holds is i)) _ _ (fails (in_two t i) (holds is i) seen)
  where
    fails : (p q : Bool) → (p ≡ true → q ≡ true) → (p && not q) ≡ false
    fails false q h = refl
    fails true q h = ap not (h refl)

-- so looking from the start is looking from meeting k on, if all before it were seen
look_on : (t : Two) (is : List ℕ) (k left : ℕ) → k + left ≡ t.many → Seen t k is → look_from t t.many 0 is ≡ look_from t left k is
look_on t is zero left e seen = let all : t.many ≡ left = omega arith in ap (λ n. look_from t n 0 is) all
look_on t is (suc k) left e seen =
    look_on t is k (suc left) (omega arith) (λ j member l. seen j member (omega arith))
    ∙ left_alone t left k is (λ there. seen k (omega arith, there) (omega arith))

-- the meeting whose part was looked at is seen
part_seen : (t : Two) (is : List ℕ) (z : ℕ) → holds (is ++ part t (holds is) z) z ≡ true
part_seen t is z =
    in_back is (part t (holds is) z) z (first_held z (walked t (with_one (holds is) z) Groups z ++ walked t (with_all (holds is) (chain t (holds is) z)) Stations z))

module _ (t : Two) (z : ℕ) (is : List ℕ) (member : Member t z) (seen : Seen t z is) (new : holds is z ≡ false) where
  -- the part of a meeting that was not seen is looked at
  judged : look_from t t.many 0 is ≡ cond (one_more t (part t (holds is) z)) (looked is (part t (holds is) z)) (look_from t (t.many - suc z) (suc z) (is ++ part t (holds is) z))
  judged =
      look_on t is z (suc (t.many - suc z)) (omega (arith, member.0)) seen
      ∙ cond-true (in_two t z && not (holds is z)) _ _ (and_from (in_two t z) (not (holds is z)) member.1 (ap not new))

  -- with one more it is taken
  pub takes : one_more t (part t (holds is) z) ≡ true → look_from t t.many 0 is ≡ looked is (part t (holds is) z)
  takes taken = judged ∙ cond-true (one_more t (part t (holds is) z)) _ _ taken

  -- else it is passed over
  pub passes : one_more t (part t (holds is) z) ≡ false → look_from t t.many 0 is ≡ look_from t t.many 0 (is ++ part t (holds is) z)
  passes out =
      judged
      ∙ cond-false (one_more t (part t (holds is) z)) _ _ out
      ∙ sym (look_on t (is ++ part t (holds is) z) (suc z) (t.many - suc z) (omega (arith, member.0)) after)
    where
      after : Seen t (suc z) (is ++ part t (holds is) z)
      after j there l =
          ⊎_elim
          (λ before. in_front is (part t (holds is) z) j (seen j there before))
          (λ same. let e : j ≡ z = omega arith in ap (holds (is ++ part t (holds is) z)) e ∙ part_seen t is z)
          (cases_lt j z)

-- the meetings in order were seen up to place p, in the parts that w has found since v had found none
pub record LookingAt (t : Two) (v w : Found) (os : List ℕ) (p : ℕ) : Type 0 where
  pub among : among_all w ≡ among_all v
  pub rule : look_from t t.many 0 (found_in w) ≡ look t
  pub seen : (q : ℕ) → q < p → q < length os → holds (found_in w) (get_or os q 0) ≡ true

module _ (t : Two) (v w : Found) (os : List ℕ) (p : ℕ) (order : InOrder t os) (so_far : LookingAt t v w os p) where
  -- the meetings before the one at this place were seen
  all_seen : (i : ℕ) → (p < length os → i ≤ get_or os p 0) → Seen t i (found_in w)
  all_seen i below j member l =
      let at = order.all j member in
      let is_j : get_or os at.0 0 ≡ j = get_or_default os at.0 0 j at.1 ∙ at.2 in
      ⊎_elim
      (λ before. ap (holds (found_in w)) (sym is_j) ∙ so_far.seen at.0 before at.1)
      (λ after. absurd (omega (arith, below (omega (arith, at.1)), order.rising p at.0 0 after at.1, is_j)))
      (cases_lt at.0 p)

  module _ (here : p < length os) where
    member_at : Member t (get_or os p 0)
    member_at = order.each p 0 here

    -- a meeting that was found before
    pub seen_before : holds (found_in w) (get_or os p 0) ≡ true → LookingAt t v w os (p + 1)
    seen_before found = record {
      among = so_far.among;
      rule = so_far.rule;
      seen = λ q h long. ⊎_elim (λ before. so_far.seen q before long) (λ last. let e : q ≡ p = omega arith in ap (λ x. holds (found_in w) (get_or os x 0)) e ∙ found) (cases_lt q p);
    }

    -- the part of a meeting that was not found before, and found now
    module _ (w' : Found) (new : holds (found_in w) (get_or os p 0) ≡ false) (more : Finds w w' (found_in w ++ part t (holds (found_in w)) (get_or os p 0))) where
      pub passed_over : one_more t (part t (holds (found_in w)) (get_or os p 0)) ≡ false → LookingAt t v w' os (p + 1)
      passed_over out = record {
        among = more.among ∙ so_far.among;
        rule = ap (look_from t t.many 0) more.list ∙ sym (passes t (get_or os p 0) (found_in w) member_at (all_seen (get_or os p 0) (λ h. omega arith)) new out) ∙ so_far.rule;
        seen = λ q h long. ap (λ l. holds l (get_or os q 0)) more.list ∙ ⊎_elim
            (λ before. in_front (found_in w) (part t (holds (found_in w)) (get_or os p 0)) (get_or os q 0) (so_far.seen q before long))
            (λ last. let e : q ≡ p = omega arith in ap (λ x. holds (found_in w ++ part t (holds (found_in w)) (get_or os p 0)) (get_or os x 0)) e ∙ part_seen t (found_in w) (get_or os p 0))
            (cases_lt q p);
      }

      pub taken_here : (start : ℕ) → one_more t (part t (holds (found_in w)) (get_or os p 0)) ≡ true → start ≡ length (found_in w) → Looks v w' (look t) start
      taken_here start taken e =
          let found = sym so_far.rule ∙ takes t (get_or os p 0) (found_in w) member_at (all_seen (get_or os p 0) (λ h. omega arith)) new taken in
          rw found (record { among = more.among ∙ so_far.among; list = more.list; at = e })

  -- all were seen, and none was taken
  pub none_taken : length os ≤ p → (start : ℕ) → start ≡ length (found_in w) → Looks v w (look t) start
  none_taken past start e =
      let found = sym so_far.rule ∙ look_on t (found_in w) t.many 0 (omega arith) (all_seen t.many (λ h. absurd (omega arith))) in
      rw found (record { among = so_far.among; list = sym (append-nil (found_in w)); at = e })

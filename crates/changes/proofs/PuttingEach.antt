-- All that wait are put in, one by one: those of a group or station that have a round are among those that are there, and the one
-- that is put in is there without one, so there is a round for it; and each that is put in leaves the others waiting. Assumes
-- nothing.
use Rattle.std.proofs.Common.{◌≡◌, ℕ, ◌+◌, ◌*◌, ◌<◌, ◌≤◌, Bool, true, false, not, ◌&&◌, eqb, ltb, List, [], ◌∷◌, length, sym, refl, ap, ◌∙◌, ⊎_elim, suc-mul, arith}
use Rattle.std.proofs.lemmas.Bool.{and_from, and_parts, both_ways, cases_eq, eq-eqb, eqb-true, ltb-true}
use Rattle.std.proofs.lemmas.Bool.Decides.{nat_tests}
use Rattle.meetings.specs.declared.numbers.Side.{Side}
use Rattle.meetings.specs.Lists.{Exist}
use Rattle.fewest.specs.Counting.{count, one_if}
use Rattle.fewest.specs.Plans.{none}
use Rattle.fewest.proofs.Counting.{total_le}
use Rattle.chains.specs.Chains.{holds}
use Rattle.chains.specs.Partial.{Partial, party_of, round_of}
use Rattle.chains.proofs.Members.{count_but_one, fresh_from_once, once_from_fresh, first_held, held_cases, rest_held, unless}
use Rattle.placing.specs.Putting.{Placed, placed, put}
use Rattle.placing.specs.Statements.{PutIn, Ready}
use Rattle.placing.proofs.PutOne.{puts}
use Rattle.changes.specs.Making.{put_each, waiting}
use Rattle.changes.specs.Numbered.{Numbered}
use Rattle.changes.specs.Waiting.{Spared, WhilePutting, is_there}
use Rattle.changes.proofs.Waiting.{passing_fresh, passing_has, passing_within}

-- what is left when all of these are put in: none waits any more
pub record PutEach (n k r : ℕ) (v : Numbered) (is : List ℕ) (p q : Placed) : Type 0 where
  pub after : WhilePutting r v [] q.rounds
  pub still : (i : ℕ) → i < length v.list.meetings → round_of p.rounds i < r → round_of q.rounds i < r
  pub others : (i : ℕ) → holds is i ≡ false → round_of p.rounds i ≡ none → round_of q.rounds i ≡ none
  pub looks : q.looks ≤ p.looks + length is * (1 + n + k)

-- where all that pass the second test pass the first, which z passes alone, fewer pass the second
fewer : (p q : ℕ → Bool) (z m : ℕ) → z < m → p z ≡ true → ((j : ℕ) → j < m → q j ≡ true → (p j ≡ true) × (j ≡ z → ⊥)) → count q m < count p m
fewer p q z m h here both =
    let but = count_but_one p (λ j. p j && not (eqb j z)) z m h (λ j other. same (p j) j other) (away (p z)) in
    let all = total_le (λ j. one_if (q j)) (λ j. one_if (p j && not (eqb j z))) m (λ j l. less (p j) (q j) j (both j l)) in
    omega (arith, ap one_if here)
  where
    same : (b : Bool) (j : ℕ) → (j ≡ z → ⊥) → b ≡ (b && not (eqb j z))
    same b j other = grind (arith, nat_tests)

    away : (b : Bool) → (b && not (eqb z z)) ≡ false
    away b = grind (arith, nat_tests)

    less : (b c : Bool) (j : ℕ) → (c ≡ true → (b ≡ true) × (j ≡ z → ⊥)) → one_if c ≤ one_if (b && not (eqb j z))
    less b true j only = let o = only refl in rw (← same b j o.1, o.0) (omega arith)
    less b false j only = omega arith

module _ (n k r : ℕ) (v : Numbered) (exist : Exist n k v.list.meetings) (few : length v.list.meetings ≤ none) (le : r ≤ none) (spared : Spared r v) where
  -- there is a round for the first that waits
  pub each_ready : (i : ℕ) (is xs : List ℕ) → WhilePutting r v (i ∷ is) xs → Ready n k r v.list.meetings xs i
  each_ready i is xs h = record {
    rounds = le;
    few = few;
    exist = exist;
    plan = h.plan;
    here = here.0;
    out = here.2;
    spare = λ s. omega (arith, room s, spared i here.0 here.1 s);
  }
    where
      here : (i < length v.list.meetings) × (is_there v i ≡ true) × (round_of xs i ≡ none)
      here = h.waits i (first_held i is)

      room : (s : Side) → count (λ j. eqb (party_of v.list.meetings s j) (party_of v.list.meetings s i) && ltb (round_of xs j) r) (length v.list.meetings) < count (λ j. is_there v j && eqb (party_of v.list.meetings s j) (party_of v.list.meetings s i)) (length v.list.meetings)
      room s =
          fewer (λ j. is_there v j && eqb (party_of v.list.meetings s j) (party_of v.list.meetings s i)) (λ j. eqb (party_of v.list.meetings s j) (party_of v.list.meetings s i) && ltb (round_of xs j) r) i (length v.list.meetings) here.0
          (and_from (is_there v i) (eqb (party_of v.list.meetings s i) (party_of v.list.meetings s i)) here.1 (eq-eqb _ _ refl))
          (λ j l e.
          let two = and_parts (eqb (party_of v.list.meetings s j) (party_of v.list.meetings s i)) (ltb (round_of xs j) r) e in
          let low = ltb-true _ _ two.1 in (
            and_from (is_there v j) (eqb (party_of v.list.meetings s j) (party_of v.list.meetings s i)) (h.there j l low) two.0,
            λ this. omega (arith, here.2, ap (round_of xs) this),
          ))

  -- and when it is put in the others wait
  pub one_put : (i : ℕ) (is xs : List ℕ) (q : Placed) → WhilePutting r v (i ∷ is) xs → PutIn n k r v.list.meetings xs i q → WhilePutting r v is q.rounds
  one_put i is xs q h done = record {
    plan = done.plan;
    there = λ j l low. ⊎_elim (λ this. ap (is_there v) this ∙ (h.waits i (first_held i is)).1) (λ other. ⊎_elim (λ out. absurd (omega (arith, done.others j other out))) (λ was. h.there j l was) (h.plan.round j l)) (cases_eq j i);
    waits = λ j w. let was = h.waits j (rest_held i is j w) in (was.0, was.1, done.others j (λ this. both_ways (holds is i) (fresh_from_once (i ∷ is) h.once).0 (ap (holds is) (sym this) ∙ w)) was.2);
    once = once_from_fresh is (fresh_from_once (i ∷ is) h.once).1;
    all = λ j l there out. ⊎_elim (λ this. absurd (omega (arith, done.placed, ap (round_of q.rounds) this))) (λ later. later) (held_cases i is j (h.all j l there (was_out j l out)));
  }
    where
      was_out : (j : ℕ) → j < length v.list.meetings → round_of q.rounds j ≡ none → round_of xs j ≡ none
      was_out j l out = ⊎_elim (λ e. e) (λ low. absurd (omega (arith, done.still j l low))) (h.plan.round j l)

  none_more : (p : Placed) → WhilePutting r v [] p.rounds → PutEach n k r v [] p p
  none_more p h = record { after = h; still = λ i l low. low; others = λ i new out. out; looks = omega arith }

  -- one that is put in, and the others after it
  one_more : (i : ℕ) (is : List ℕ) (p q e : Placed) → PutIn n k r v.list.meetings p.rounds i q → PutEach n k r v is (placed q.rounds (p.looks + q.looks)) e → PutEach n k r v (i ∷ is) p e
  one_more i is p q e done rest = record {
    after = rest.after;
    still = λ j l low. rest.still j l (done.still j l low);
    others = λ j new out. rest.others j (not_held j new) (done.others j (λ this. both_ways (holds (i ∷ is) j) new (ap (holds (i ∷ is)) this ∙ first_held i is)) out);
    looks = let more = suc-mul (length is) (1 + n + k) in omega (arith, rest.looks, done.looks);
  }
    where
      not_held : (j : ℕ) → holds (i ∷ is) j ≡ false → holds is j ≡ false
      not_held j new = unless (holds is j) (λ again. both_ways (holds (i ∷ is) j) new (rest_held i is j again))

  -- ALL THAT WAIT ARE PUT IN
  pub waiting_puts : (is : List ℕ) (p : Placed) → WhilePutting r v is p.rounds → PutEach n k r v is p (put_each r v.list.meetings is p)
  waiting_puts [] p h = none_more p h
  waiting_puts (i ∷ is) p h =
      let one = puts n k r v.list.meetings p.rounds i (each_ready i is p.rounds h) in
      let q = put r v.list.meetings p.rounds i in
      one_more i is p q (put_each r v.list.meetings (i ∷ is) p) one (waiting_puts is (placed q.rounds (p.looks + q.looks)) (one_put i is p.rounds q h one))

-- where all that have a round are there, those that wait are those that are there without one
pub while_waiting : (r : ℕ) (v : Numbered) (xs : List ℕ) → Partial r v.list.meetings xs → ((i : ℕ) → i < length v.list.meetings → round_of xs i < r → is_there v i ≡ true) → WhilePutting r v (waiting v.there xs) xs
while_waiting r v xs plan there = record {
  plan = plan;
  there = there;
  waits = λ i w.
      let p = passing_within (λ i. is_there v i && eqb (round_of xs i) none) (length xs) 0 i w in
      let two = and_parts (is_there v i) (eqb (round_of xs i) none) p.2 in
      (omega (arith, p.1, plan.each), two.0, eqb-true _ _ two.1);
  once = once_from_fresh (waiting v.there xs) (passing_fresh (λ i. is_there v i && eqb (round_of xs i) none) (length xs) 0);
  all = λ i l here out. passing_has (λ i. is_there v i && eqb (round_of xs i) none) (length xs) 0 i (omega arith) (omega (arith, plan.each)) (and_from (is_there v i) (eqb (round_of xs i) none) here (eq-eqb _ _ out));
}

-- What looking finds, whatever there is: each meeting of the parts looked at once, all of the two rounds, and what is taken is a
-- closed set; so there is one look at most for each meeting of the two rounds. Assumes nothing.
use Rattle.std.proofs.Common.{◌≡◌, ℕ, ◌+◌, ◌<◌, ◌≤◌, Bool, true, false, ◌&&◌, eqb, ◌==◌, List, [], ◌++◌, length, sym, ap, ◌∙◌, ⊎_elim, arith}
use Rattle.std.proofs.lemmas.Bool.{both_ways}
use Rattle.std.proofs.lemmas.Bool.Decides.{nat_tests}
use Rattle.fewest.specs.Counting.{count, one_if}
use Rattle.fewest.proofs.Counting.{total_le}
use Rattle.chains.specs.Chains.{Two, in_two, Sound, Closed, holds}
use Rattle.chains.specs.Statements.{Once, in_part}
use Rattle.chains.proofs.Members.{append_cases, count_members, fresh_append, fresh_from_once, none_held, once_from_fresh, once_short}
use Rattle.chains.proofs.Short.{in_either}
use Rattle.balance.specs.Looking.{Looked, look, looks_of}
use Rattle.balance.proofs.Passed.{Passed, ended}

-- no meeting is looked at twice, and each is in one of the two rounds; what was taken, a part or nothing, is a closed set
pub record LookedAt (t : Two) (l : Looked) : Type 0 where
  pub once : Once (l.passed ++ l.taken)
  pub within : (j : ℕ) → holds (l.passed ++ l.taken) j ≡ true → (j < t.many) × (in_two t j ≡ true)
  pub taken_within : (j : ℕ) → holds l.taken j ≡ true → (j < t.many) × (in_two t j ≡ true)
  pub taken_closed : Closed t (holds l.taken)

-- what was passed over, and a closed set that shares no meeting with it
with_taken : (t : Two) (l : Looked) (i : ℕ) → Passed t i l.passed → Once l.taken → ((j : ℕ) → holds l.taken j ≡ true → (j < t.many) × (in_two t j ≡ true)) → Closed t (holds l.taken) → ((j : ℕ) → holds l.taken j ≡ true → holds l.passed j ≡ false) → LookedAt t l
with_taken t l i before once within closed new = record {
  once = once_from_fresh (l.passed ++ l.taken) (fresh_append l.passed l.taken (fresh_from_once l.passed before.once) (fresh_from_once l.taken once) (λ j old h. both_ways (holds l.passed j) (new j h) old));
  within = λ j h. ⊎_elim (before.within j) (within j) (append_cases l.passed l.taken j h);
  taken_within = within;
  taken_closed = closed;
}

pub looked_at : (t : Two) → Sound t → LookedAt t (look t)
looked_at t sound =
    ⊎_elim
    (λ found. let p = found.1 in with_taken t (look t) found.0 p.before p.whole.once p.whole.within p.whole.closed p.new)
    (λ all. with_taken t (look t) t.many all.0 (λ p q h. absurd (omega (arith, ap length all.1))) (λ j h. absurd (nobody all.1 j h)) (λ i j beside h. absurd (nobody all.1 i h)) (λ j h. absurd (nobody all.1 j h)))
    (ended t sound)
  where
    nobody : (look t).taken ≡ [] → (j : ℕ) → holds (look t).taken j ≡ true → ⊥
    nobody e j h = none_held j (ap (λ is. holds is j) (sym e) ∙ h)

-- meetings that stand in a list once are no more in a round than there are
part_of_round : (t : Two) (c : ℕ) (is : List ℕ) → Once is → ((j : ℕ) → holds is j ≡ true → j < t.many) → in_part t c is ≤ count (λ i. t.round i == c) t.many
part_of_round t c is once below =
    let members = count_members (λ j. eqb (t.round j) c) is t.many once below in
    let most = total_le (λ j. one_if (holds is j && eqb (t.round j) c)) (λ j. one_if (eqb (t.round j) c)) t.many (λ j h. fewer (holds is j) (eqb (t.round j) c)) in
    omega arith
  where
    fewer : (x y : Bool) → one_if (x && y) ≤ one_if y
    fewer x y = grind (arith, nat_tests)

-- ONE LOOK AT MOST for each meeting of the two rounds
pub looks_within : (t : Two) → Sound t → looks_of (look t) ≤ count (λ i. t.round i == t.a) t.many + count (λ i. t.round i == t.b) t.many
looks_within t sound =
    let all = looked_at t sound in
    let is = (look t).passed ++ (look t).taken in
    let both = in_either t is (λ j h. (all.within j h).1) in
    let in_a = part_of_round t t.a is all.once (λ j h. (all.within j h).0) in
    let in_b = part_of_round t t.b is all.once (λ j h. (all.within j h).0) in
    omega arith

-- and so one at most for each meeting
pub looks_few : (t : Two) → Sound t → looks_of (look t) ≤ t.many
looks_few t sound =
    let all = looked_at t sound in
    once_short ((look t).passed ++ (look t).taken) t.many all.once (λ j h. (all.within j h).0)

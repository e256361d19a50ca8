-- A plan that is made again: all that wait are put in and then the rounds are evened out, so each meeting that is there has a
-- round and no other has one, and the rounds are even. Assumes nothing.
use Rattle.std.proofs.Common.{◌≡◌, ℕ, ◌+◌, ◌*◌, ◌<◌, ◌≤◌, Bool, true, false, not, List, length, get_or, map, refl, ap, ◌∙◌, ⊎_elim, arith}
use Rattle.std.proofs.lemmas.Bool.{both_ways, eq-eqb, ne_eqb}
use Rattle.std.proofs.lemmas.List.{ext_get_or, get_or-map, length-map}
use Rattle.meetings.specs.Lists.{Exist}
use Rattle.fewest.specs.Plans.{none}
use Rattle.chains.specs.Partial.{Partial, round_of}
use Rattle.chains.proofs.Members.{none_held}
use Rattle.placing.specs.Putting.{Placed, placed}
use Rattle.balance.specs.Sizes.{size, far}
use Rattle.balance.specs.Statements.{Evened, EvenedOut}
use Rattle.balance.proofs.EvenedOut.{evens_out}
use Rattle.changes.specs.Days.{has_round}
use Rattle.changes.specs.Making.{made_again, put_waiting, waiting}
use Rattle.changes.specs.Numbered.{Numbered}
use Rattle.changes.specs.Waiting.{Spared, WhilePutting, is_there}
use Rattle.changes.proofs.PuttingEach.{PutEach, waiting_puts}

-- what is left of the rounds xs: those that are there have a round, those that are not have none, and the rounds are even
pub record MadeAgain (n k r : ℕ) (v : Numbered) (xs : List ℕ) (q : Placed) : Type 0 where
  pub plan : Partial r v.list.meetings q.rounds
  pub even : Evened r q.rounds
  pub has : (i : ℕ) → i < length v.list.meetings → is_there v i ≡ true → round_of q.rounds i < r
  pub list : map has_round q.rounds ≡ v.there
  pub looks : q.looks ≤ length (waiting v.there xs) * (1 + n + k) + far r (size (put_waiting r v xs).rounds) * (n + k)

-- whether a meeting has a round
round_is : (b : Bool) (x r : ℕ) → r ≤ none → (b ≡ true → x < r) → (b ≡ false → x ≡ none) → has_round x ≡ b
round_is true x r le some out = ap not (ne_eqb x none (λ e. omega (arith, some refl)))
round_is false x r le some out = ap not (eq-eqb x none (out refl))

module _ (n k r : ℕ) (v : Numbered) (exist : Exist n k v.list.meetings) (few : length v.list.meetings ≤ none) (le : r ≤ none) (spared : Spared r v) (xs : List ℕ) (waits : WhilePutting r v (waiting v.there xs) xs) where
  pub puts_waiting : PutEach n k r v (waiting v.there xs) (placed xs 0) (put_waiting r v xs)
  puts_waiting = waiting_puts n k r v exist few le spared (waiting v.there xs) (placed xs 0) waits

  evens_again : EvenedOut n k r v.list.meetings (put_waiting r v xs) (made_again r v xs)
  evens_again = evens_out n k r v.list.meetings (put_waiting r v xs) exist le few puts_waiting.after.plan

  -- who is there was put in, and still has a round
  has_one : (i : ℕ) → i < length v.list.meetings → is_there v i ≡ true → round_of (made_again r v xs).rounds i < r
  has_one i h there =
      ⊎_elim
      (λ out. absurd (none_held i (puts_waiting.after.all i h there out)))
      (λ low. evens_again.still i h low)
      (puts_waiting.after.plan.round i h)

  -- who is not was not
  has_no : (i : ℕ) → i < length v.list.meetings → is_there v i ≡ false → round_of (made_again r v xs).rounds i ≡ none
  has_no i h away =
      ⊎_elim
      (λ out. evens_again.out i out)
      (λ low. absurd (both_ways (is_there v i) away (puts_waiting.after.there i h low)))
      (puts_waiting.after.plan.round i h)

  -- MADE AGAIN
  pub again_is : length v.there ≡ length v.list.meetings → MadeAgain n k r v xs (made_again r v xs)
  again_is long = record {
    plan = evens_again.plan;
    even = evens_again.even;
    has = has_one;
    list = ext_get_or false (map has_round (made_again r v xs).rounds) v.there (omega (arith, length-map (made_again r v xs).rounds has_round, evens_again.plan.each)) each;
    looks = omega (arith, evens_again.looks, puts_waiting.looks);
  }
    where
      each : (i : ℕ) → i < length (map has_round (made_again r v xs).rounds) → get_or (map has_round (made_again r v xs).rounds) i false ≡ is_there v i
      each i h =
          let long' = length-map (made_again r v xs).rounds has_round in
          let here : i < length v.list.meetings = omega (arith, evens_again.plan.each) in
          get_or-map has_round (made_again r v xs).rounds i none false (omega arith)
          ∙ round_is (is_there v i) (round_of (made_again r v xs).rounds i) r le (has_one i here) (has_no i here)

-- The rule's plan of a proper list keeps the promise: the fewest rounds suffice, so they hold a plan that is within the rooms and
-- even, and no plan has fewer. Assumes nothing.
use Rattle.std.proofs.Common.{◌≡◌, ℕ, ◌≤◌, List, ◌++◌, length, drop, Result, Ok, Err, IfOk, MatchResult, refl, ap, subst, arith}
use Rattle.std.proofs.lemmas.List.{take_at}
use Rattle.meetings.specs.declared.list.MeetingList.{MeetingList}
use Rattle.meetings.specs.declared.refusal.Refusal.{Refusal}
use Rattle.meetings.specs.Held.{contents}
use Rattle.meetings.specs.Lists.{Contents, Proper}
use Rattle.meetings.specs.Refusals.{Answers, accepted}
use Rattle.meetings.proofs.Holds.{proper}
use Rattle.meetings.proofs.Outcomes.{accepted_from_ok, then_accepted}
use Rattle.fewest.specs.Plans.{none}
use Rattle.fewest.specs.Rounds.{fewest}
use Rattle.fewest.proofs.NoFewer.{fewest_suffices, no_fewer_said}
use Rattle.chains.specs.Shapes.{lent_shape}
use Rattle.placing.specs.Putting.{placed, put_all}
use Rattle.placing.proofs.PutAll.{none_busier, puts_all}
use Rattle.balance.specs.declared.planned.Planned.{Planned}
use Rattle.balance.specs.Lent.{PlannedLent, PlansDay, Unchanged, looks_at_most, plan_of, planned_of}
use Rattle.balance.proofs.EnoughRooms.{as_partial, planned_all}
use Rattle.balance.proofs.EvenedOut.{evens_out}
use Rattle.balance.proofs.LentEnough.{fewest_below}
use Rattle.balance.proofs.WholePlan.{plan_is}

module _ (d : Contents) (p : Proper d) where
  few : length d.meetings ≤ none
  few = omega (arith, p.few)

  le : fewest d ≤ none
  le = omega (arith, fewest_below d p, few)

  -- the looks of putting in, and those of evening out
  looks_bounded : (plan_of d).looks ≤ looks_at_most d
  looks_bounded =
      let r = fewest d in
      let put = puts_all d.groups d.stations r d.meetings p.exist few le (none_busier d r p.exist (fewest_suffices d p.rooms_within.0).0) in
      let even = evens_out d.groups d.stations r d.meetings (placed (put_all r d.meetings).rounds 0) p.exist le few (as_partial r d.meetings (put_all r d.meetings).rounds put.plan) in
      omega (arith, ap (λ q. q.looks) (plan_is r d.meetings), put.looks, even.looks)

  plans_day : (rest : List ℕ) → PlansDay d ((plan_of d).rounds ++ rest) (record { rounds = fewest d; looks = (plan_of d).looks })
  plans_day rest =
      let all = planned_all d (fewest d) p.exist few le (fewest_suffices d p.rooms_within.0) in
      let front = take_at (plan_of d).rounds rest (length d.meetings) all.plan.each in
      record {
        plan = rw front all.plan;
        within = rw front all.within;
        even = rw front all.even;
        no_fewer = no_fewer_said d (fewest d) p.rooms_within.0 refl;
        looks = looks_bounded;
      }

-- what is answered, and what the lent rounds hold then, keep the promise
pub day_planned : (l : MeetingList) (xs xs' gs gs' ss ss' : List ℕ) (o : Result Planned Refusal) → Answers (λ p. p) o (planned_of (contents l) (length xs) (length gs) (length ss)) → MatchResult o (λ p. PlannedLent (contents l) xs xs' gs gs' ss ss') (λ e. Unchanged xs xs' gs gs' ss ss') → IfOk o (PlansDay (contents l) xs')
day_planned l xs xs' gs gs' ss ss' (Ok p) answer lent =
    let d = contents l in
    let told : Planned = record { rounds = fewest d; looks = (plan_of d).looks } in
    let said = then_accepted (lent_shape d (fewest d) (length xs) (length gs) (length ss)) (λ z. accepted told) p (accepted_from_ok (λ q. q) p answer) in
    rw lent.rounds (subst (PlansDay d ((plan_of d).rounds ++ drop (length d.meetings) xs)) (same_accepted told p said.2) (plans_day d (proper l) (drop (length d.meetings) xs)))
  where
    same_accepted : (p q : Planned) → accepted p ≡ accepted q → p ≡ q
    same_accepted p q e = cc
day_planned l xs xs' gs gs' ss ss' (Err e) answer lent = tt

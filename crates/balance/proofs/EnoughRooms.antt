-- As many rounds are enough as the busiest has meetings and as have rooms for all: all meetings are put in, and the rounds are
-- evened out, so that none has more than there are rooms. Assumes nothing.
use Rattle.std.proofs.Common.{◌≡◌, ℕ, zero, suc, ◌*◌, ◌<◌, ◌≤◌, eqb, List, length, inr, ⊎_elim, ◌∙◌, mul_comm, suc-mul, zero-mul, arith}
use Rattle.std.proofs.lemmas.Bool.{cases_lt, ne_eqb}
use Rattle.meetings.specs.declared.numbers.Meeting.{Meeting}
use Rattle.meetings.specs.Lists.{Contents, Exist}
use Rattle.fewest.specs.Plans.{none, Plan, Rooms, in_round}
use Rattle.fewest.specs.Statements.{Suffices}
use Rattle.fewest.proofs.Counting.{count_none}
use Rattle.chains.specs.Partial.{Partial, round_of}
use Rattle.placing.specs.Putting.{put_all}
use Rattle.placing.proofs.PutAll.{puts_all, none_busier, plan_for_more, busiest_below}
use Rattle.balance.specs.Sizes.{size}
use Rattle.balance.specs.Evening.{plan_all}
use Rattle.balance.specs.Statements.{Evened, Enough, Even}
use Rattle.balance.proofs.Far.{even_within}
use Rattle.balance.proofs.FirstPart.{count_round}
use Rattle.balance.proofs.OneExchange.{sizes_together}
use Rattle.balance.proofs.EvenedOut.{evens_out}

-- a plan for r rounds, within the rooms and even
pub record EvenPlan (d : Contents) (r : ℕ) (xs : List ℕ) : Type 0 where
  pub plan : Plan r d.meetings xs
  pub within : Rooms d.rooms r xs
  pub even : Evened r xs

-- in a plan each meeting has a round
pub as_partial : (r : ℕ) (ms : List Meeting) (xs : List ℕ) → Plan r ms xs → Partial r ms xs
as_partial r ms xs plan = record { each = plan.each; round = λ i h. inr (plan.round i h); apart = plan.apart }

-- A WHOLE PLAN is one, where so many rounds suffice
pub planned_all : (d : Contents) (r : ℕ) → Exist d.groups d.stations d.meetings → length d.meetings ≤ none → r ≤ none → Suffices d r → EvenPlan d r (plan_all r d.meetings).rounds
unfolding plan_all
planned_all d r exist few le enough =
    let before = (puts_all d.groups d.stations r d.meetings exist few le (none_busier d r exist enough.0)).plan in
    let after = evens_out d.groups d.stations r d.meetings (put_all r d.meetings) exist le few (as_partial r d.meetings (put_all r d.meetings).rounds before) in
    record {
      plan = record { each = after.plan.each; round = λ i h. after.still i h (before.round i h); apart = after.plan.apart };
      within = even_within r d.rooms (size (plan_all r d.meetings).rounds) after.even (omega (arith, sizes_together r d.meetings (plan_all r d.meetings).rounds after.plan, enough.1));
      even = after.even;
    }

-- what has rooms in r rounds has rooms in as many rounds as there are meetings
rooms_for_each : (m r q : ℕ) → m ≤ r * q → m ≤ m * q
rooms_for_each m r zero h = omega (arith, mul_comm r 0, zero-mul r)
rooms_for_each m r (suc q) h = omega (arith, mul_comm m (suc q), suc-mul q m)

-- a plan has no meeting in a round beyond its rounds
none_beyond : (r : ℕ) (ms : List Meeting) (xs : List ℕ) → Plan r ms xs → (c : ℕ) → r ≤ c → in_round c xs ≡ 0
none_beyond r ms xs plan c past =
    count_round r ms xs c (as_partial r ms xs plan)
    ∙ count_none (λ i. eqb (round_of xs i) c) (length ms) (λ i h. ne_eqb (round_of xs i) c (λ e. omega (arith, plan.round i h)))

-- with more rounds than meetings: as many rounds as meetings have one meeting each at most, and the others none
planned_more : (d : Contents) (r : ℕ) (xs : List ℕ) → length d.meetings < r → EvenPlan d (length d.meetings) xs → EvenPlan d r xs
planned_more d r xs more p = record {
  plan = plan_for_more m r d.meetings xs (omega arith) p.plan;
  within = λ c h. ⊎_elim (p.within c) (λ past. omega (arith, none_beyond m d.meetings xs p.plan c past)) (cases_lt c m);
  even = λ a b ha hb. omega (arith, one_each a);
}
  where
    m : ℕ
    m = length d.meetings

    one_each : (c : ℕ) → in_round c xs ≤ 1
    one_each c =
        ⊎_elim
        (even_within m 1 (size xs) p.even (omega (arith, sizes_together m d.meetings xs (as_partial m d.meetings xs p.plan))) c)
        (λ past. omega (arith, none_beyond m d.meetings xs p.plan c past))
        (cases_lt c m)

-- there is such a plan for any number of rounds that suffices
planned_for : (d : Contents) (r : ℕ) → Exist d.groups d.stations d.meetings → length d.meetings ≤ none → Suffices d r → (xs : List ℕ) × EvenPlan d r xs
planned_for d r exist few enough =
    let m = length d.meetings in
    ⊎_elim
    (λ more. ((plan_all m d.meetings).rounds, planned_more d r (plan_all m d.meetings).rounds more (planned_all d m exist few few (busiest_below d, rooms_for_each m r d.rooms enough.1))))
    (λ le. ((plan_all r d.meetings).rounds, planned_all d r exist few (omega arith) enough))
    (cases_lt m r)

-- AN EVEN PLAN within the rooms
pub even_plan : Even
even_plan d r exist few enough = let p = planned_for d r exist few enough in (p.0, p.1.plan, p.1.within, p.1.even)

-- SO MANY ROUNDS ARE ENOUGH with so many rooms
pub enough_rooms : Enough
enough_rooms d r exist few enough = let p = planned_for d r exist few enough in (p.0, p.1.plan, p.1.within)

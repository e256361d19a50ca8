-- All meetings can be put in, one after the other: each finds a partial plan in which those before it have a round, and leaves
-- such a one. So as many rounds are enough as the busiest has meetings. Assumes nothing.
use Rattle.std.proofs.Common.{◌≡◌, ℕ, zero, suc, ◌+◌, ◌-◌, ◌*◌, ◌<◌, ◌≤◌, eqb, List, length, replicate, ap, ◌∙◌, inl, ⊎_elim, suc-mul, arith}
use Rattle.std.proofs.lemmas.List.{length-replicate}
use Rattle.std.proofs.lemmas.List.Sums.{count_by-le-length}
use Rattle.std.proofs.lemmas.Bool.{cases_eq}
use Rattle.meetings.specs.declared.numbers.Meeting.{Meeting}
use Rattle.meetings.specs.Lists.{Contents, Exist, party}
use Rattle.fewest.specs.Plans.{none, Plan}
use Rattle.fewest.specs.Rounds.{busiest}
use Rattle.fewest.proofs.Busiest.{busiest_is}
use Rattle.chains.specs.Partial.{Partial, round_of, party_of}
use Rattle.chains.proofs.EmptyBoard.{none_at}
use Rattle.placing.specs.Putting.{Placed, placed, put, put_from, put_all}
use Rattle.placing.specs.Statements.{Ready, NoneBusier, PutIn, PlacedAll, PutsAll, Enough}
use Rattle.placing.proofs.FreeRounds.{spare_for}
use Rattle.placing.proofs.PutOne.{puts}

-- where meeting i comes: those before it have a round below r, it and those behind it have none
pub record PutBefore (n k r : ℕ) (ms : List Meeting) (i : ℕ) (p : Placed) : Type 0 where
  pub plan : Partial r ms p.rounds
  pub done : (j : ℕ) → j < i → round_of p.rounds j < r
  pub todo : (j : ℕ) → i ≤ j → round_of p.rounds j ≡ none
  pub looks : p.looks ≤ i * (1 + n + k)

-- at the start nobody has a round
pub none_before : (n k r : ℕ) (ms : List Meeting) → r ≤ none → PutBefore n k r ms 0 (placed (replicate (length ms) none) 0)
none_before n k r ms le = record {
  plan = record {
    each = length-replicate (length ms) none;
    round = λ j h. inl (none_at (length ms) j);
    apart = λ s i j hi hj l e p. absurd (omega (arith, none_at (length ms) i));
  };
  done = λ j h. absurd (omega arith);
  todo = λ j h. none_at (length ms) j;
  looks = omega arith;
}

-- and one more is put in
pub one_before : (n k r : ℕ) (ms : List Meeting) (i : ℕ) (p q : Placed) → i < length ms → PutBefore n k r ms i p → PutIn n k r ms p.rounds i q → PutBefore n k r ms (suc i) (placed q.rounds (p.looks + q.looks))
one_before n k r ms i p q here before put = record {
  plan = put.plan;
  done = λ j h. ⊎_elim (λ this. rw this put.placed) (λ other. put.still j (omega arith) (before.done j (omega arith))) (cases_eq j i);
  todo = λ j h. put.others j (λ this. omega arith) (before.todo j (omega arith));
  looks = let more = suc-mul i (1 + n + k) in omega (arith, before.looks, put.looks);
}

-- when all are put in it is a plan
all_before : (n k r : ℕ) (ms : List Meeting) (p : Placed) → PutBefore n k r ms (length ms) p → PlacedAll n k r ms p
all_before n k r ms p before = record {
  plan = record { each = before.plan.each; round = before.done; apart = before.plan.apart };
  looks = before.looks;
}

-- what is known where meeting i is put in
pub ready_at : (n k r : ℕ) (ms : List Meeting) (i : ℕ) (p : Placed) → Exist n k ms → length ms ≤ none → r ≤ none → i < length ms → NoneBusier r ms → PutBefore n k r ms i p → Ready n k r ms p.rounds i
ready_at n k r ms i p exist few le here most before = record {
  rounds = le;
  few = few;
  exist = exist;
  plan = before.plan;
  here = here;
  out = before.todo i (omega arith);
  spare = λ s. spare_for ms p.rounds i s r le here (before.todo i (omega arith)) (most i here s);
}

-- no party has more meetings than the busiest
pub none_busier : (d : Contents) (r : ℕ) → Exist d.groups d.stations d.meetings → busiest d ≤ r → NoneBusier r d.meetings
none_busier d r exist enough i here s = omega (arith, (busiest_is d).0 s (party_of d.meetings s i) (exist s i here))

-- the rule from meeting i on: one meeting more
pub put_from_more : (r : ℕ) (ms : List Meeting) (i : ℕ) (p : Placed) → i < length ms → put_from r ms (length ms - i) i p ≡ put_from r ms (length ms - (i + 1)) (i + 1) (placed (put r ms p.rounds i).rounds (p.looks + (put r ms p.rounds i).looks))
put_from_more r ms i p h =
    let one : length ms - i ≡ suc (length ms - (i + 1)) = omega arith in
    let next : suc i ≡ i + 1 = omega arith in
    ap (λ left. put_from r ms left i p) one ∙ ap (λ i'. put_from r ms (length ms - (i + 1)) i' (placed (put r ms p.rounds i).rounds (p.looks + (put r ms p.rounds i).looks))) next

-- a plan for fewer rounds is one for more
pub plan_for_more : (r more : ℕ) (ms : List Meeting) (xs : List ℕ) → r ≤ more → Plan r ms xs → Plan more ms xs
plan_for_more r more ms xs le plan = record {
  each = plan.each;
  round = λ i h. omega (arith, plan.round i h);
  apart = λ s i j hi hj l e p. plan.apart s i j hi hj (plan.round i hi) e p;
}

-- nobody has more meetings than there are
pub busiest_below : (d : Contents) → busiest d ≤ length d.meetings
busiest_below d =
    ⊎_elim
    (λ idle. omega arith)
    (λ some. omega (arith, some.3, count_by-le-length (λ m. eqb (party some.0 m) some.1) d.meetings))
    (busiest_is d).1

pub puts_all : PutsAll
puts_all n k r ms exist few le most = all_before n k r ms (put_all r ms) (from (length ms) 0 _ (omega arith) (none_before n k r ms le))
  where
    from : (left i : ℕ) (p : Placed) → i + left ≡ length ms → PutBefore n k r ms i p → PutBefore n k r ms (length ms) (put_from r ms left i p)
    from zero i p e before = let end : i ≡ length ms = omega arith in rw (← end) before
    from (suc left) i p e before =
        let here : i < length ms = omega arith in
        let one = puts n k r ms p.rounds i (ready_at n k r ms i p exist few le here most before) in
        from left (suc i) _ (omega arith) (one_before n k r ms i p (put r ms p.rounds i) here before one)

-- the same of what was left on a board, and counted
pub placed_all_as : (n k r : ℕ) (ms : List Meeting) (p : Placed) (ys : List ℕ) (looks : ℕ) → ys ≡ p.rounds → looks ≡ p.looks → PlacedAll n k r ms p → PlacedAll n k r ms (placed ys looks)
placed_all_as n k r ms p ys looks e f h = rw (e, f) h

-- SO MANY ROUNDS AS THE BUSIEST HAS MEETINGS, OR MORE
pub enough : Enough
enough d r exist few le =
    let b = busiest d in
    let all = puts_all d.groups d.stations b d.meetings exist few (omega (arith, busiest_below d)) (none_busier d b exist (omega arith)) in
    ((put_all b d.meetings).rounds, plan_for_more b r d.meetings _ le all.plan)

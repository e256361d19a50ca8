-- What an answer says that is what the rule says: a plan of the fewest rounds, or the first fault. Assumes nothing.
use Rattle.std.proofs.Common.{Err, Ok, Result, ◌≡◌, ℕ, ◌+◌, ◌*◌, ◌≤◌, ltb, List, length, get_or, sym, ap, subst, ◌∙◌, ⊎_elim, arith}
use Rattle.meetings.specs.declared.refusal.Refusal.{Refusal}
use Rattle.meetings.specs.declared.refusal.Refusal.TheVariants.{Memory}
use Rattle.meetings.specs.declared.list.MeetingList.{MeetingList}
use Rattle.meetings.specs.Held.{contents}
use Rattle.meetings.specs.Lists.{Contents, Proper}
use Rattle.meetings.specs.Refusals.{Answers, accepted, number_of, place_of, then}
use Rattle.meetings.specs.RoundTrips.{AllBytes}
use Rattle.meetings.proofs.Accepted.{read_then_written}
use Rattle.meetings.proofs.Holds.{proper}
use Rattle.meetings.proofs.Outcomes.{accepted_from_ok, accepted_same, unless_refused}
use Rattle.fewest.specs.Plans.{none}
use Rattle.plans.specs.Bytes.{long_for, read_plan}
use Rattle.plans.specs.Checking.{checked, checked_bytes}
use Rattle.plans.specs.Faults.{PlanOrFault}
use Rattle.plans.specs.Given.{Given}
use Rattle.plans.specs.Statements.{OfPlan}
use Rattle.plans.proofs.Accepted.{accepts_fewest}
use Rattle.plans.proofs.FirstFault.{refuses_first}

module _ {X : Type 0} where
  pub verdict_said : (d : Contents) (r : ℕ) (xs : List ℕ) → Proper d → r ≤ none → (o : Result X Refusal) → Answers (λ _. tt) o (checked d r xs) → PlanOrFault d r xs o
  verdict_said d r xs good le (Ok x) answer = (accepts_fewest d r xs good le).0 (accepted_from_ok (λ _. tt) x answer)
  verdict_said d r xs good le (Err e) answer =
      λ has. ⊎_elim (λ no_memory. absurd (has (for_memory no_memory))) (λ is. (refuses_first d r xs (number_of e) (place_of e)).0 (sym is)) answer
    where
      for_memory : ◌≡◌ {A = Result X Refusal} (Err e) (Err Memory) → e ≡ Memory
      for_memory is = cc is

  -- the same of a list that is held
  pub verdict_of_list : (l : MeetingList) (r : ℕ) (xs : List ℕ) → r ≤ none → (o : Result X Refusal) → Answers (λ _. tt) o (checked (contents l) r xs) → PlanOrFault (contents l) r xs o
  verdict_of_list l r xs le o answer = verdict_said (contents l) r xs (proper l) le o answer

-- a plan that bytes say has rounds that fit two bytes
rounds_fit : (many : ℕ) (bs : List ℕ) (p : Given) → AllBytes bs → read_plan many bs ≡ accepted p → p.rounds ≤ none
rounds_fit many bs p byte e =
    let long = unless_refused (ltb (length bs) (long_for many)) 1 (length bs) _ p e in
    let short = unless_refused (ltb (long_for many) (length bs)) 1 (long_for many) _ p long.1 in
    let is : get_or bs 0 0 + 256 * get_or bs 1 0 ≡ p.rounds = ap (λ (p : Given). p.rounds) (accepted_same _ _ short.1) in
    omega (arith, is, byte 0, byte 1)

-- of the list and the plan that bytes say
pub verdict_of_bytes : {X : Type 0} (day plan : List ℕ) → AllBytes day → AllBytes plan → (o : Result X Refusal) → Answers (λ _. tt) o (checked_bytes day plan) → OfPlan day plan (λ d p. PlanOrFault d p.rounds p.at o)
verdict_of_bytes day plan bytes_of_day bytes_of_plan o answer d p is_list is_plan =
    let of_list = ap (λ o. then o (λ d. then (read_plan (length d.meetings) plan) (λ p. checked d p.rounds p.at))) is_list in
    let of_plan = ap (λ o. then o (λ p. checked d p.rounds p.at)) is_plan in
    verdict_said d p.rounds p.at (read_then_written day d bytes_of_day is_list).0 (rounds_fit (length d.meetings) plan p bytes_of_plan is_plan) o
    (subst (Answers (λ _. tt) o) (of_list ∙ of_plan) answer)

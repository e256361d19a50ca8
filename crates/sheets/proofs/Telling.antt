-- The report is that of the list: slices just as long as the rounds ask for are never refused, and they hold the rule's rounds.
-- Assumes nothing.
use Rattle.std.proofs.Common.{◌≡◌, ℕ, ◌*◌, List, ◌++◌, length, Ok, Err, Result, sym, ap, ◌∙◌, arith, MatchResult}
use Rattle.std.proofs.lemmas.List.{append-nil, drop_all}
use Rattle.meetings.specs.declared.list.MeetingList.{MeetingList}
use Rattle.meetings.specs.declared.refusal.Refusal.{Refusal}
use Rattle.meetings.specs.Held.{contents}
use Rattle.meetings.specs.Refusals.{Answers, IfMemory}
use Rattle.meetings.proofs.Outcomes.{accepted_from_ok}
use Rattle.fewest.specs.Rounds.{fewest}
use Rattle.balance.specs.declared.planned.Planned.{Planned}
use Rattle.balance.specs.Lent.{PlannedLent, Unchanged, plan_of, planned_of}
use Rattle.balance.proofs.LentEnough.{lent_enough}
use Rattle.plans.proofs.OnlyMemory.{only_memory}
use Rattle.sheets.specs.Reports.{ToldBy}

pub told_exactly : (l : MeetingList) (xs xs' gs gs' ss ss' : List ℕ) → length xs ≡ length (contents l).meetings → length gs ≡ (contents l).groups * fewest (contents l) → length ss ≡ (contents l).stations * fewest (contents l) → (r : Result Planned Refusal) → Answers (λ p. p) r (planned_of (contents l) (length xs) (length gs) (length ss)) → MatchResult r (λ p. PlannedLent (contents l) xs xs' gs gs' ss ss') (λ e. Unchanged xs xs' gs gs' ss ss') → IfMemory r (λ p. ToldBy (contents l) p xs')
told_exactly l xs xs' gs gs' ss ss' er eg es (Ok p) answer lent =
    let d = contents l in
    let said = sym (accepted_from_ok (λ q. q) p answer) ∙ lent_enough l (length xs) (length gs) (length ss) er eg es in
    let rounds : p.rounds ≡ fewest d = cc in
    let looks : p.looks ≡ (plan_of d).looks = cc in
    let held : xs' ≡ (plan_of d).rounds = lent.rounds ∙ ap (λ l. (plan_of d).rounds ++ l) (drop_all (length d.meetings) xs (omega arith)) ∙ append-nil _ in
    cc
told_exactly l xs xs' gs gs' ss ss' er eg es (Err e) answer lent = only_memory (λ p. p) e _ _ (lent_enough l (length xs) (length gs) (length ss) er eg es) answer

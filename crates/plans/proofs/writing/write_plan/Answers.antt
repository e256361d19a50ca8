-- What was written is read as the plan.
use Rattle.std.proofs.Common.{◌++◌, append-nil, ap, sym, ◌∙◌}
use Rattle.std.proofs.lemmas.List.{drop_all}
use Rattle.plans.specs.Bytes.{bytes_of_numbers}
use Rattle.plans.proofs.BytesRead.{said_by}
use Rattle.plans.proofs.writing.write_plan.Goals as goal

pub returns-clause-answer : goal.returns-clause-answer
returns-clause-answer c =
    sym (append-nil c.loop-round.bytes.items)
    ∙ ap (λ l. c.loop-round.bytes.items ++ bytes_of_numbers l) (sym (drop_all c.loop-round.round-index c.args.of_meetings.now c.loop-round-test.false))
    ∙ c.loop-round.invariant

pub returns-clause-back : goal.returns-clause-back
returns-clause-back c =
    said_by (record { rounds = c.args.rounds; at = c.args.of_meetings.now }) _ (returns-clause-answer c)

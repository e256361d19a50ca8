-- The bytes are as long as they should be, and each number is written by the two that it was read from.
use Rattle.std.proofs.Common.{rules}
use Rattle.plans.proofs.BytesRead.{plan_back}
use Rattle.plans.proofs.reading.read_plan.Goals as goal

pub returns-clause-back : goal.returns-clause-back
returns-clause-back c =
    plan_back c.args.bytes.now (λ i. (c.type_inv.bytes i).fits) _ c.number.result c.in_ok-of_meetings.of_meetings.items (search rules) c.number.ensures (c.in_ok-of_meetings.ensures)

use Rattle.std.proofs.Common.{◌≡◌, subst}
use Rattle.meetings.specs.Held.{contents}
use Rattle.meetings.specs.Refusals.{IfMemory}
use Rattle.meetings.proofs.Holds.{proper}
use Rattle.plans.specs.Bytes.{bytes_of_plan}
use Rattle.plans.specs.Given.{Given}
use Rattle.day.proofs.Last.{plan_said}
use Rattle.day.proofs.making.plan_told.Goals as goal

pub returns : goal.returns
returns c =
    subst (λ (p : Given). IfMemory c.write_plan.result (λ v. v.items ≡ bytes_of_plan p))
    (plan_said (contents c.args.list.now) c.args.changes.now (proper c.args.list.now) c.requires.can c.args.each.now c.args.rounds.now c.in_ok-number.number c.numbers-many.result c.requires.told c.requires.last c.in_ok-number.ensures c.numbers-many.ensures.all)
    c.write_plan.ensures.answer

use Rattle.day.proofs.Telling.{list_accepted, made_accepted}
use Rattle.day.proofs.making.made_of.Goals as goal

pub returns-clause-accepted : goal.returns-clause-accepted
returns-clause-accepted c =
    made_accepted c.args.day.now c.args.changes.now (λ i. (c.type_inv.day i).fits) (λ i. (c.type_inv.changes i).fits) c.made_by_rule.result c.made_by_rule.ensures.plan

pub returns-clause-checked : goal.returns-clause-checked
returns-clause-checked c =
    list_accepted c.args.day.now c.args.changes.now (λ i. (c.type_inv.day i).fits) (λ i. (c.type_inv.changes i).fits) c.made_by_rule.result c.made_by_rule.ensures.plan c.made_by_rule.ensures.list

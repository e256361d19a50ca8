use Rattle.checker.proofs.Telling.{only_the_fewest}
use Rattle.checker.proofs.verdict.told_of.Goals as goal

pub returns-clause-fewest : goal.returns-clause-fewest
returns-clause-fewest g c =
    only_the_fewest c.args.day.now c.args.plan.now (λ i. (c.type_inv.day i).fits) (λ i. (c.type_inv.plan i).fits) c.told_by_rule.result c.told_by_rule.ensures

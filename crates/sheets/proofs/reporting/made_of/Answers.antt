use Rattle.sheets.proofs.Accepting.{made_accepted}
use Rattle.sheets.proofs.reporting.made_of.Goals as goal

pub returns-clause-accepted : goal.returns-clause-accepted
returns-clause-accepted c =
    made_accepted c.args.bytes.now (λ i. (c.type_inv.bytes i).fits) c.made_by_rule.result c.made_by_rule.ensures.told c.made_by_rule.ensures.plan

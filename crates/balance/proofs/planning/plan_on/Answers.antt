-- What was put in and then evened out is the rule's plan.
use Rattle.std.proofs.Common.{rules, ◌≡◌, length}
use Rattle.balance.proofs.WholePlan.{plan_looks, plan_rounds}
use Rattle.balance.proofs.planning.plan_on.Goals as goal

pub returns-clause-board : goal.returns-clause-board
returns-clause-board c =
    let long : length c.deref_mut-2.result.now ≡ c.args.rounds = search rules in
    plan_rounds _ _ _ _ _ _ _ _ c.args.rounds _ _ c.put_in_all-put.ensures.rule c.even_out.ensures.rule long

pub returns-clause-looks : goal.returns-clause-looks
returns-clause-looks c =
    let long : length c.deref_mut-2.result.now ≡ c.args.rounds = search rules in
    plan_looks _ _ _ _ _ _ _ _ c.args.rounds _ _ c.put_in_all-put.ensures.rule c.even_out.ensures.rule long

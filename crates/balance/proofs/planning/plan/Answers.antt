-- What is answered by the rule keeps the promise.
use Rattle.balance.proofs.DayPlanned.{day_planned}
use Rattle.balance.proofs.planning.plan.Goals as goal

pub returns-clause-planned : goal.returns-clause-planned
returns-clause-planned c =
    day_planned c.args.list.now c.args.rounds.now _ c.args.group_rows.now _ c.args.station_rows.now _ c.plan_by_rule.result c.plan_by_rule.ensures.answer c.plan_by_rule.ensures.lent

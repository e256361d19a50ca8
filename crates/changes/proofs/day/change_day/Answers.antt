-- What the rule leaves keeps the promise.
use Rattle.changes.proofs.DayLent.{day_promised}
use Rattle.changes.proofs.day.change_day.Goals as goal

pub returns-clause-promised : goal.returns-clause-promised
returns-clause-promised c = day_promised c.args.list.now c.args.changes.now _ _ _ _ _ _ _ c.change_by_rule.ensures.answer c.change_by_rule.ensures.lent

-- The list is proper and the slices were found long enough.
use Rattle.balance.proofs.Entering.{enters}
use Rattle.balance.proofs.planning.plan_by_rule.Goals as goal

pub plan_lent-looks-requires-clause-lent : goal.plan_lent-looks-requires-clause-lent
plan_lent-looks-requires-clause-lent c =
    enters c.args.list.now _ _ _ _ _ _ c.meetings-meetings.ensures c.in_ok-many.ensures.answer c.in_ok-shape.ensures

use Rattle.sheets.proofs.Telling.{told_exactly}
use Rattle.sheets.proofs.reporting.plan_exactly.Goals as goal

pub returns-clause-told : goal.returns-clause-told
returns-clause-told c =
    told_exactly c.args.list.now c.args.of_meetings.now _ c.args.group_rows.now _ c.args.station_rows.now _ c.requires.each c.requires.groups c.requires.stations _ c.plan.ensures.answer c.plan.ensures.lent

use Rattle.day.proofs.Telling.{told_exactly}
use Rattle.day.proofs.making.changed_in.Goals as goal

pub returns-clause-told : goal.returns-clause-told
returns-clause-told c =
    told_exactly c.args.list.now c.args.changes.now c.requires.can _ _ _ c.requires.rounds c.requires.groups c.requires.stations c.change_day.result c.change_day.ensures.answer

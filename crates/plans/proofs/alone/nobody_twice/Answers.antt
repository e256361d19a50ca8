-- Nobody was seen yet.
use Rattle.std.proofs.Common.{rules}
use Rattle.meetings.specs.declared.numbers.Side.TheVariants.{Groups, Stations}
use Rattle.meetings.specs.Held.{contents}
use Rattle.plans.proofs.Marking.{marks_none}
use Rattle.plans.proofs.alone.nobody_twice.Goals as goal

pub all_alone-requires-clause-groups : goal.all_alone-requires-clause-groups
all_alone-requires-clause-groups c =
    marks_none (contents c.args.list.now).groups (contents c.args.list.now).stations c.meetings.result.now c.args.of_meetings.now Groups c.args.rounds c.deref_mut.result.now (search rules) (search rules)

pub all_alone-requires-clause-stations : goal.all_alone-requires-clause-stations
all_alone-requires-clause-stations c =
    marks_none (contents c.args.list.now).groups (contents c.args.list.now).stations c.meetings.result.now c.args.of_meetings.now Stations c.args.rounds c.deref_mut-2.result.now (search rules) (search rules)

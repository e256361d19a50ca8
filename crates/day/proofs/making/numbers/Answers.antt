use Rattle.std.proofs.Common.{length, ap, arith}
use Rattle.meetings.specs.Held.{contents}
use Rattle.meetings.proofs.Holds.{proper}
use Rattle.day.proofs.Last.{numbers_few, numbers_last}
use Rattle.day.proofs.making.numbers.Goals as goal

pub overflow_add-result : goal.overflow_add-result
overflow_add-result c =
    let few = numbers_few (contents c.args.list.now) c.args.changes.now (proper c.args.list.now) c.requires in
    omega (arith, few, c.added.ensures, ap length c.meetings.ensures)

pub returns-clause-all : goal.returns-clause-all
returns-clause-all c =
    let all = numbers_last (contents c.args.list.now) c.args.changes.now (proper c.args.list.now) c.requires in
    omega (arith, all, c.added.ensures, ap length c.meetings.ensures)

pub returns-clause-few : goal.returns-clause-few
returns-clause-few c =
    let few = numbers_few (contents c.args.list.now) c.args.changes.now (proper c.args.list.now) c.requires in
    omega (arith, few, c.added.ensures, ap length c.meetings.ensures)

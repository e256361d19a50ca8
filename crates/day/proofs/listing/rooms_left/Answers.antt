-- The rooms that were got and not given up are those that there are in the end.
use Rattle.meetings.specs.Held.{contents}
use Rattle.meetings.proofs.Holds.{proper}
use Rattle.day.proofs.Listed.{gives_fewer, rooms_are, rooms_fit}
use Rattle.day.proofs.listing.rooms_left.Goals as goal

pub overflow_sub-result : goal.overflow_sub-result
overflow_sub-result c =
    gives_fewer (contents c.args.list.now) c.args.changes.now (proper c.args.list.now) c.requires c.rooms.result c.got.result c.given_up.result c.rooms.ensures c.got.ensures c.given_up.ensures

pub overflow_cast-result-4 : goal.overflow_cast-result-4
overflow_cast-result-4 c = record {
  fits = rooms_fit (contents c.args.list.now) c.args.changes.now (proper c.args.list.now) c.requires c.rooms.result c.got.result c.given_up.result c.rooms.ensures c.got.ensures c.given_up.ensures;
}

pub returns : goal.returns
returns c =
    rooms_are (contents c.args.list.now) c.args.changes.now (proper c.args.list.now) c.requires c.rooms.result c.got.result c.given_up.result c.rooms.ensures c.got.ensures c.given_up.ensures

-- The lent rounds are those of the first day, and then the changes are made.
use Rattle.std.proofs.Common.{◌≡◌, ◌-◌, ◌++◌, length, replicate, take, ap, ◌∙◌, subst, arith}
use Rattle.meetings.specs.Held.{contents}
use Rattle.fewest.specs.Plans.{none}
use Rattle.balance.specs.Sizes.{sizes_of}
use Rattle.changes.specs.RowOn.{most_rounds}
use Rattle.changes.proofs.RowFirst.{beside_first, each_below, few_meetings, few_rounds, row_ready}
use Rattle.changes.proofs.rows.make_row.Goals as goal

pub begin-requires-clause-few : goal.begin-requires-clause-few
begin-requires-clause-few c =
    let filled : c.no_rounds_from.new.rounds ≡ take (length (contents c.args.row.now.list.now).meetings) c.args.rounds.now ++ replicate (length c.args.rounds.now - length (contents c.args.row.now.list.now).meetings) none = subst (λ ms. c.no_rounds_from.new.rounds ≡ take (length ms) c.args.rounds.now ++ replicate (length c.args.rounds.now - length ms) none) c.meetings.ensures c.no_rounds_from.ensures in
    omega (arith, few_meetings c.args.row.now c.args.shape c.args.rounds.now c.no_rounds_from.new.rounds c.requires.row c.requires.planned filled c.requires.held.groups.narrow, c.no_rounds_from.auto.rounds)

pub make_each-requires-clause-row : goal.make_each-requires-clause-row
make_each-requires-clause-row c =
    let filled : c.no_rounds_from.new.rounds ≡ take (length (contents c.args.row.now.list.now).meetings) c.args.rounds.now ++ replicate (length c.args.rounds.now - length (contents c.args.row.now.list.now).meetings) none = subst (λ ms. c.no_rounds_from.new.rounds ≡ take (length ms) c.args.rounds.now ++ replicate (length c.args.rounds.now - length ms) none) c.meetings.ensures c.no_rounds_from.ensures in
    row_ready c.args.row.now c.args.shape c.args.rounds.now c.no_rounds_from.new.rounds c.requires.row c.requires.planned filled c.requires.held.groups.narrow

pub make_each-requires-clause-beside : goal.make_each-requires-clause-beside
make_each-requires-clause-beside c =
    let filled : c.no_rounds_from.new.rounds ≡ take (length (contents c.args.row.now.list.now).meetings) c.args.rounds.now ++ replicate (length c.args.rounds.now - length (contents c.args.row.now.list.now).meetings) none = subst (λ ms. c.no_rounds_from.new.rounds ≡ take (length ms) c.args.rounds.now ++ replicate (length c.args.rounds.now - length ms) none) c.meetings.ensures c.no_rounds_from.ensures in
    let room = c.begin.ensures.room c.args.shape (length c.args.rounds.now) (most_rounds c.args.row.now) c.requires.kept in
    let beside = beside_first c.args.row.now c.args.shape c.args.rounds.now c.no_rounds_from.new.rounds c.requires.row c.requires.planned filled c.requires.held.groups.narrow c.begin.new.self room (c.begin.ensures.sizes ∙ ap (λ n. sizes_of n c.no_rounds_from.new.rounds) c.requires.kept.rounds) c.begin.ensures.before in
    rw (room.meetings, room.rounds) beside

pub make_each-requires-clause-from : goal.make_each-requires-clause-from
make_each-requires-clause-from c =
    let room = c.begin.ensures.room c.args.shape (length c.args.rounds.now) (most_rounds c.args.row.now) c.requires.kept in
    omega (arith, room.rounds)

pub make_each-requires-clause-to : goal.make_each-requires-clause-to
make_each-requires-clause-to c =
    let filled : c.no_rounds_from.new.rounds ≡ take (length (contents c.args.row.now.list.now).meetings) c.args.rounds.now ++ replicate (length c.args.rounds.now - length (contents c.args.row.now.list.now).meetings) none = subst (λ ms. c.no_rounds_from.new.rounds ≡ take (length ms) c.args.rounds.now ++ replicate (length c.args.rounds.now - length ms) none) c.meetings.ensures c.no_rounds_from.ensures in
    let room = c.begin.ensures.room c.args.shape (length c.args.rounds.now) (most_rounds c.args.row.now) c.requires.kept in
    λ i h. omega (arith, room.rounds, each_below c.args.row.now c.args.shape c.args.rounds.now c.no_rounds_from.new.rounds c.requires.row c.requires.planned filled c.requires.held.groups.narrow i h)

pub make_each-requires-clause-few : goal.make_each-requires-clause-few
make_each-requires-clause-few c =
    let filled : c.no_rounds_from.new.rounds ≡ take (length (contents c.args.row.now.list.now).meetings) c.args.rounds.now ++ replicate (length c.args.rounds.now - length (contents c.args.row.now.list.now).meetings) none = subst (λ ms. c.no_rounds_from.new.rounds ≡ take (length ms) c.args.rounds.now ++ replicate (length c.args.rounds.now - length ms) none) c.meetings.ensures c.no_rounds_from.ensures in
    let room = c.begin.ensures.room c.args.shape (length c.args.rounds.now) (most_rounds c.args.row.now) c.requires.kept in
    omega (arith, room.rounds, few_rounds c.args.row.now c.args.shape c.args.rounds.now c.no_rounds_from.new.rounds c.requires.row c.requires.planned filled c.requires.held.groups.narrow)

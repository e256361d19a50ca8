-- Round by round the meeting that the group has there goes.
use Rattle.std.proofs.Common.{◌≡◌, ◌<◌, ◌∙◌, subst, arith}
use Rattle.chains.specs.Rows.{parties_of, width_of}
use Rattle.meetings.specs.declared.numbers.Side.TheVariants.{Groups}
use Rattle.changes.specs.OnBoard.{TakesOut, goes_of}
use Rattle.changes.proofs.TakingOut.{met_here, met_some, room_left, row_none, row_some}
use Rattle.changes.proofs.taking.take_out_of_row.Goals as goal
use Rattle.changes.proofs.taking.take_out_of_row.Goals.{in-Some, in_default}

pub push_reserved-requires : goal.push_reserved-requires
push_reserved-requires c =
    let so_far = c.loop-round.invariant.0 in
    let g : c.args.group.0 < parties_of Groups c.loop-round.board.shape = rw so_far.board.shape c.requires.group in
    let w : c.loop-round.round < width_of Groups c.loop-round.board.shape = rw so_far.board.shape (omega (arith, c.loop-round-test.true, c.requires.within)) in
    let here = met_here _ _ _ _ _ _ _ c.loop-round.auto.round g w so_far _ c.in-Some.ensures.0 c.in-Some.ensures.1 in
    let some = met_some _ _ _ _ _ _ _ c.loop-round.auto.round g w so_far _ c.in-Some.ensures.0 c.in-Some.ensures.1 in
    let left = room_left _ _ _ _ _ _ _ so_far here some c.take_out.ensures in
    omega (arith, left, c.requires.room, c.loop-round.invariant.1, c.loop-round.out.ok.0)

pub loop-round-preserved : goal.loop-round-preserved
loop-round-preserved c =
    let so_far = c.loop-round.invariant.0 in
    let g : c.args.group.0 < parties_of Groups c.loop-round.board.shape = rw so_far.board.shape c.requires.group in
    let w : c.loop-round.round < width_of Groups c.loop-round.board.shape = rw so_far.board.shape (omega (arith, c.loop-round-test.true, c.requires.within)) in
    elim c.match-met.branch [
      | in-Some v ↦ rw (v.board-is, v.out-is, v.push_reserved.ensures.items) (row_some _ _ _ _ _ _ _ c.loop-round.auto.round g w so_far _ v.in-Some.ensures.0 v.in-Some.ensures.1 _ v.take_out.ensures, v.push_reserved.ensures.capacity ∙ c.loop-round.invariant.1)
      | in_default v ↦ rw (v.board-is, v.out-is) (row_none _ _ _ _ _ _ _ c.loop-round.auto.round g w so_far v.in_default.ensures, c.loop-round.invariant.1)
    ]

pub returns-clause-taken : goal.returns-clause-taken
returns-clause-taken c =
    let done : c.loop-round.round ≡ c.args.end = omega (arith, c.loop-round-test.false, c.loop-round.auto.round-end c.requires.order) in
    subst (λ r. TakesOut c.args.board.now c.loop-round.board c.args.out.now.items c.loop-round.out.items (goes_of c.args.board.now c.args.first r c.args.group.0)) done c.loop-round.invariant.0

-- Each turn puts in the first meeting that waits.
use Rattle.std.proofs.Common.{◌+◌, ◌*◌, ◌≤◌, mul-le-mul_right, arith}
use Rattle.fewest.specs.Plans.{none}
use Rattle.placing.proofs.AllTurns.{still_unused}
use Rattle.changes.proofs.PuttingTurns.{few_wait, first_ready, putting_more, unused_also, waits_first}
use Rattle.changes.proofs.putting.put_in_each.Goals as goal

pub put_in_counted-looks-requires-clause-ready : goal.put_in_counted-looks-requires-clause-ready
put_in_counted-looks-requires-clause-ready c =
    let so_far = c.loop-meeting.invariant in
    let first = waits_first _ _ _ _ _ _ _ _ _ _ _ so_far c.loop-meeting-test.true in
    record { ready = first_ready _ _ _ _ first; within = first.within; unused = unused_also _ _ _ so_far.board.meetings (still_unused _ _ _ c.requires.unused so_far.forgotten) }

pub overflow_add-looks : goal.overflow_add-looks
overflow_add-looks c =
    let t = c.loop-meeting.meeting-index in
    let most : t * (1 + none) ≤ none * (1 + none) = mul-le-mul_right {n = none} (1 + none) (omega (arith, c.loop-meeting-test.true, few_wait _ _ _ c.requires.can)) in
    omega (arith, most, c.loop-meeting.invariant.few, c.put_in_counted-looks.ensures.few)

pub loop-meeting-preserved : goal.loop-meeting-preserved
loop-meeting-preserved c =
    let w = c.put_in_counted-looks in
    putting_more _ _ _ _ _ _ _ _ _ _ _ c.loop-meeting.invariant c.loop-meeting-test.true _ _ _ _ _ w.ensures.rule w.ensures.placed w.ensures.counted w.ensures.forgotten w.ensures.touched w.ensures.few

-- Each turn looks at one meeting, and notes its round.
use Rattle.std.proofs.Common.{sym, ◌∙◌, arith}
use Rattle.chains.proofs.Members.{place_held}
use Rattle.changes.proofs.MovingTurns.{few_counted, moving_ends, moving_no, moving_starts, moving_yes}
use Rattle.changes.proofs.moving.count_moved.Goals as goal
use Rattle.changes.proofs.moving.count_moved.Goals.{then-was_moved, else-was_moved}

pub loop-meeting-init : goal.loop-meeting-init
loop-meeting-init c = moving_starts _ _ _

pub bounds-before-at : goal.bounds-before-at
bounds-before-at c =
    omega (arith, c.requires.here _ (place_held c.args.touched.now c.loop-meeting.meeting-index 0 c.loop-meeting-test.true), c.requires.long, c.loop-meeting.invariant.noted.long)

pub bounds-rounds-at : goal.bounds-rounds-at
bounds-rounds-at c = c.requires.here _ (place_held c.args.touched.now c.loop-meeting.meeting-index 0 c.loop-meeting-test.true)

pub overflow_add-many : goal.overflow_add-many
overflow_add-many c = omega (arith, few_counted _ _ _ _ _ _ c.loop-meeting.invariant c.loop-meeting-test.true, c.requires.few, c.loop-meeting-test.true)

pub bounds-before-at-in-loop-meeting : goal.bounds-before-at-in-loop-meeting
bounds-before-at-in-loop-meeting c =
    omega (arith, c.requires.here _ (place_held c.args.touched.now c.loop-meeting.meeting-index 0 c.loop-meeting-test.true), c.requires.long, c.loop-meeting.invariant.noted.long)

pub loop-meeting-preserved : goal.loop-meeting-preserved
loop-meeting-preserved c =
    let below = c.requires.here _ (place_held c.args.touched.now c.loop-meeting.meeting-index 0 c.loop-meeting-test.true) in
    elim c.if-was_moved.branch [
      | then-was_moved w ↦ rw w.many-is (moving_yes _ _ _ _ _ _ c.loop-meeting.invariant c.loop-meeting-test.true below c.requires.long c.requires.once (sym c.was_moved.ensures ∙ w.if-was_moved.true))
      | else-was_moved w ↦ rw w.many-is (moving_no _ _ _ _ _ _ c.loop-meeting.invariant c.loop-meeting-test.true below c.requires.long c.requires.once (sym c.was_moved.ensures ∙ w.if-was_moved.false))
    ]

pub returns-clause-moved : goal.returns-clause-moved
returns-clause-moved c = (moving_ends _ _ _ _ _ _ c.loop-meeting-test.false c.loop-meeting.invariant).0

pub returns-clause-noted : goal.returns-clause-noted
returns-clause-noted c = (moving_ends _ _ _ _ _ _ c.loop-meeting-test.false c.loop-meeting.invariant).1

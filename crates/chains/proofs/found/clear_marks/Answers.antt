-- Each turn clears the mark of one.
use Rattle.std.proofs.Common.{arith}
use Rattle.chains.proofs.Members.{place_held}
use Rattle.chains.proofs.Marks.{clearing_starts, clearing_ends}
use Rattle.chains.proofs.found.clear_marks.Goals as goal

pub loop-meeting-init : goal.loop-meeting-init
loop-meeting-init c = clearing_starts _ _ c.requires.marked

pub mark-requires : goal.mark-requires
mark-requires c =
    let t = c.loop-meeting.meeting-index in
    record { within = omega (arith, c.requires.within _ (place_held c.args.list.now t 0 c.loop-meeting-test.true), c.loop-meeting.auto.marks) }

pub returns : goal.returns
returns c = clearing_ends _ c.args.list.now _ c.loop-meeting.meeting-index c.loop-meeting-test.false c.loop-meeting.auto.marks c.loop-meeting.invariant

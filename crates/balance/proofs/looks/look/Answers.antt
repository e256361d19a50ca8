-- Each turn looks at the part of one meeting, unless the meeting is in a part passed over.
use Rattle.std.proofs.Common.{length, sym, ap, ◌∙◌}
use Rattle.chains.specs.Boards.{two_on}
use Rattle.balance.proofs.LookTurns.{seen_before, passed_over, taken_here, none_taken}
use Rattle.balance.proofs.looks.look.Goals as goal
use Rattle.balance.proofs.looks.look.Goals.{then-not-has+in_default, else-not-has}

pub returns-in-Some : goal.returns-in-Some
returns-in-Some c =
    taken_here (two_on c.args.board.now c.args.rounds) c.args.found.now _ c.args.ordered.now c.loop-meeting.meeting-index c.requires.order c.loop-meeting.invariant c.loop-meeting-test.true _ (sym c.has.ensures ∙ c.if-not-has.true) c.in-Some.ensures.found c.in-Some.start c.in-Some.ensures.start.0 c.in-Some.ensures.start.1

pub loop-meeting-preserved : goal.loop-meeting-preserved
loop-meeting-preserved c =
    let t = two_on c.args.board.now c.args.rounds in
    let i = c.loop-meeting.meeting-index in
    let so_far = c.loop-meeting.invariant in
    elim c.if-not-has.branch [
      | then-not-has+in_default w ↦ rw w.found-is (passed_over t c.args.found.now _ c.args.ordered.now i c.requires.order so_far c.loop-meeting-test.true _ (sym c.has.ensures ∙ w.if-not-has.true) w.in_default.ensures.found w.in_default.ensures.start)
      | else-not-has w ↦ rw w.found-is (seen_before t c.args.found.now _ c.args.ordered.now i c.requires.order so_far c.loop-meeting-test.true (sym c.has.ensures ∙ w.if-not-has.false))
    ]

pub returns : goal.returns
returns c =
    none_taken (two_on c.args.board.now c.args.rounds) c.args.found.now _ c.args.ordered.now c.loop-meeting.meeting-index c.requires.order c.loop-meeting.invariant c.loop-meeting-test.false (length c.list.result.now) (ap length c.list.ensures)

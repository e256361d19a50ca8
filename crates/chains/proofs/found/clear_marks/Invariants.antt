use Rattle.chains.proofs.Marks.{MarkedFrom}
use Rattle.chains.proofs.found.clear_marks.Given as goal

-- the marks of those before this one are cleared
abbrev pub invariant-loop-meeting : goal.invariant-loop-meeting
invariant-loop-meeting l = MarkedFrom l.marks l.list l.meeting-index

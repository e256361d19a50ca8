use Rattle.placing.proofs.AllTurns.{Putting}
use Rattle.placing.proofs.all.put_in_all.Given as goal

-- those before this one are put in
abbrev pub invariant-loop-meeting : goal.invariant-loop-meeting
invariant-loop-meeting l = Putting l.rounds l.initial.board l.board l.initial.found l.found l.meeting l.looks

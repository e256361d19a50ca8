use Rattle.changes.proofs.PuttingTurns.{PuttingOn}
use Rattle.changes.proofs.putting.put_in_each.Given as goal

-- the meetings before this one are put in
abbrev pub invariant-loop-meeting : goal.invariant-loop-meeting
invariant-loop-meeting l =
    PuttingOn l.initial.board l.board l.initial.found l.found l.initial.touched l.touched l.rounds l.waiting l.sizes l.meeting-index l.looks

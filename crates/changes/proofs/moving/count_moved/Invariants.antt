use Rattle.changes.proofs.MovingTurns.{Moving}
use Rattle.changes.proofs.moving.count_moved.Given as goal

-- the meetings before this one were looked at
abbrev pub invariant-loop-meeting : goal.invariant-loop-meeting
invariant-loop-meeting l = Moving l.rounds l.initial.before l.before l.touched l.meeting-index l.many

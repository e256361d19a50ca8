use Rattle.chains.specs.Boards.{two_on}
use Rattle.balance.proofs.LookTurns.{LookingAt}
use Rattle.balance.proofs.looks.look.Given as goal

-- the meetings before this one are in the parts passed over
abbrev pub invariant-loop-meeting : goal.invariant-loop-meeting
invariant-loop-meeting l = LookingAt (two_on l.board l.rounds) l.initial.found l.found l.ordered l.meeting-index

use Rattle.std.proofs.Common.{length}
use Rattle.chains.specs.Chains.{holds, left_of}
use Rattle.chains.specs.Boards.{two_on}
use Rattle.chains.specs.Finding.{found_in}
use Rattle.chains.proofs.ChainTurns.{Following}
use Rattle.chains.proofs.board.Board.follow.Given as goal

-- what was found and what is followed from here is the whole
abbrev pub invariant-chain : goal.invariant-chain
invariant-chain l =
    Following (two_on l.self l.rounds) l.initial.found l.initial.through l.initial.at.0 l.found l.through l.at.0

-- the meetings that are left
abbrev pub decreases-chain : goal.decreases-chain
decreases-chain l = left_of (holds (found_in l.found)) (length l.self.meetings.now)

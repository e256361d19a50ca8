use Rattle.std.proofs.Common.{take}
use Rattle.chains.specs.Boards.{Becomes}
use Rattle.chains.specs.Exchanges.{shifted}
use Rattle.chains.specs.Given.{entry_of}
use Rattle.chains.proofs.board.Board.shift.Given as goal

-- the members so far have their other round
abbrev pub invariant-loop-member : goal.invariant-loop-member
invariant-loop-member l =
    Becomes l.initial.self l.self (shifted (entry_of l.from) (entry_of l.to) (take l.member-index l.members) l.initial.self.rounds.now)

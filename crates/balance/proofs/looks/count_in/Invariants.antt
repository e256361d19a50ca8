use Rattle.std.proofs.Common.{◌≡◌, take}
use Rattle.chains.specs.Boards.{rounds_on}
use Rattle.chains.specs.Exchanges.{among}
use Rattle.balance.proofs.looks.count_in.Given as goal

-- the members so far are counted
abbrev pub invariant-loop-member : goal.invariant-loop-member
invariant-loop-member l = l.many ≡ among (take l.member-index l.members) l.round.0 (rounds_on l.board)

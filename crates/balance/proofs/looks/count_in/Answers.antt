use Rattle.std.proofs.Common.{arith}
use Rattle.chains.proofs.Members.{place_held}
use Rattle.balance.proofs.looks.count_in.Goals as goal

pub round_of-requires : goal.round_of-requires
round_of-requires c =
    record { here = omega (arith, c.requires.exist _ (place_held c.args.members.now c.loop-member.member-index 0 c.loop-member-test.true), c.args.board.now.held.each) }

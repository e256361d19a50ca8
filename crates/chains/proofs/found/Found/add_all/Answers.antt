-- Each meeting has a mark.
use Rattle.std.proofs.Common.{arith}
use Rattle.chains.proofs.Members.{place_held}
use Rattle.chains.proofs.found.Found.add_all.Goals as goal

pub has-requires : goal.has-requires
has-requires c =
    record { within = omega (arith, c.requires.within _ (place_held c.args.members.now c.loop-member.member-index 0 c.loop-member-test.true), c.loop-member.invariant.0) }

pub add-requires-clause-within : goal.add-requires-clause-within
add-requires-clause-within c =
    omega (arith, c.requires.within _ (place_held c.args.members.now c.loop-member.member-index 0 c.loop-member-test.true), c.loop-member.invariant.0)

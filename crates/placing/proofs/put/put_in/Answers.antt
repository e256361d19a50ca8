-- Into the common free round that was found; where there is none, by the chain of the two rounds that were found.
use Rattle.std.proofs.Common.{◌<◌, ◌≤◌, refl, sym, ◌∙◌, arith}
use Rattle.meetings.specs.declared.numbers.Side.TheVariants.{Groups, Stations}
use Rattle.chains.specs.Boards.{meetings_on, rounds_on}
use Rattle.chains.proofs.Unless.{some_is, there_is}
use Rattle.placing.specs.Putting.{common_free}
use Rattle.placing.proofs.ByChain.{chained_is, chained_none, common_below, common_vacant, found_opens, opens_on, own_there, put_common_is, put_in_on, put_by_chain_is, put_on_as}
use Rattle.placing.proofs.put.put_in.Goals as goal

pub put_into-requires : goal.put_into-requires
put_into-requires c =
    let d = c.args.board.now in
    let ready = c.requires.ready in
    let r = c.args.rounds in
    let below : c.in-Some.common.0 < r = omega (arith, c.in-Some.ensures.0, common_below _ _ r (meetings_on d) _ c.args.meeting.0 ready c.in-Some.ensures.1) in
    let free = common_vacant _ _ r (meetings_on d) _ c.args.meeting.0 ready _ c.in-Some.ensures.0 below in
    record {
      here = ready.here;
      out = ready.out;
      within = (omega (arith, c.requires.within.0), omega (arith, c.requires.within.1));
      group_free = free Groups;
      station_free = free Stations;
    }

pub returns-in-Some-clause-rule : goal.returns-in-Some-clause-rule
returns-in-Some-clause-rule c =
    let d = c.args.board.now in
    put_on_as _ _ _ _ _ c.put_into.ensures.rule (put_common_is _ _ c.args.rounds (meetings_on d) (rounds_on d) c.args.meeting.0 c.requires.ready c.in-Some.common.0 c.in-Some.ensures.0 c.in-Some.ensures.1)

pub returns-in-Some-clause-chain : goal.returns-in-Some-clause-chain
returns-in-Some-clause-chain c =
    let d = c.args.board.now in
    record { among = refl; list = c.requires.unused.empty ∙ sym (chained_none _ _ c.args.rounds (meetings_on d) (rounds_on d) c.args.meeting.0 c.requires.ready c.in-Some.ensures.1) }

pub unwrap-a-requires : goal.unwrap-a-requires
unwrap-a-requires c = there_is _ _ _ _ c.own_free.ensures (own_there _ _ _ _ c.requires c.in_default.ensures Groups)

pub unwrap-b-requires : goal.unwrap-b-requires
unwrap-b-requires c = there_is _ _ _ _ c.own_free-2.ensures (own_there _ _ _ _ c.requires c.in_default.ensures Stations)

pub put_by_chain-requires : goal.put_by_chain-requires
put_by_chain-requires c =
    let a = (some_is _ _ _ _ _ c.own_free.ensures c.unwrap-a.ensures).0 in
    let b = (some_is _ _ _ _ _ c.own_free-2.ensures c.unwrap-b.ensures).0 in
    opens_on _ _ _ _ c.requires c.in_default.ensures _ _ a b

pub returns-clause-rule : goal.returns-clause-rule
returns-clause-rule c =
    let d = c.args.board.now in
    let r = c.args.rounds in
    let i = c.args.meeting.0 in
    let a = (some_is _ _ _ _ _ c.own_free.ensures c.unwrap-a.ensures).0 in
    let b = (some_is _ _ _ _ _ c.own_free-2.ensures c.unwrap-b.ensures).0 in
    let none_common : r ≤ common_free r (meetings_on d) (rounds_on d) i = omega (arith, c.in_default.ensures) in
    put_on_as _ _ _ _ _ c.put_by_chain.ensures.rule (put_by_chain_is _ _ r (meetings_on d) (rounds_on d) i c.requires.ready _ _ none_common a b)

pub returns-clause-chain : goal.returns-clause-chain
returns-clause-chain c =
    let d = c.args.board.now in
    let r = c.args.rounds in
    let i = c.args.meeting.0 in
    let a = (some_is _ _ _ _ _ c.own_free.ensures c.unwrap-a.ensures).0 in
    let b = (some_is _ _ _ _ _ c.own_free-2.ensures c.unwrap-b.ensures).0 in
    let none_common : r ≤ common_free r (meetings_on d) (rounds_on d) i = omega (arith, c.in_default.ensures) in
    let found = c.put_by_chain.ensures.chain in
    record { among = found.among; list = found.list ∙ chained_is _ _ r (meetings_on d) (rounds_on d) i c.requires.ready _ _ none_common a b }

pub returns-in-Some-clause-placed : goal.returns-in-Some-clause-placed
returns-in-Some-clause-placed c = put_in_on _ _ c.args.rounds c.args.meeting.0 _ c.requires.ready (returns-in-Some-clause-rule c)

pub returns-clause-placed : goal.returns-clause-placed
returns-clause-placed c = put_in_on _ _ c.args.rounds c.args.meeting.0 _ c.requires.ready (returns-clause-rule c)

pub returns-in-Some-clause-below : goal.returns-in-Some-clause-below
returns-in-Some-clause-below c =
    omega (arith, c.put_into.ensures.there, c.in-Some.ensures.0, common_below _ _ c.args.rounds (meetings_on c.args.board.now) _ c.args.meeting.0 c.requires.ready c.in-Some.ensures.1)

pub returns-clause-below : goal.returns-clause-below
returns-clause-below c =
    let a = (some_is _ _ _ _ _ c.own_free.ensures c.unwrap-a.ensures).0 in
    let b = (some_is _ _ _ _ _ c.own_free-2.ensures c.unwrap-b.ensures).0 in
    let rounds = found_opens _ _ _ _ c.requires c.in_default.ensures _ _ a b in
    c.put_by_chain.ensures.below c.args.rounds rounds.0 rounds.1

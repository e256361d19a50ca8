-- The chain is found and exchanged.
use Rattle.std.proofs.Common.{◌<◌, length, ap, ◌∙◌, arith}
use Rattle.meetings.specs.declared.numbers.Side.TheVariants.{Groups, Stations}
use Rattle.fewest.specs.Plans.{none}
use Rattle.chains.specs.Boards.{meetings_on, rounds_on}
use Rattle.chains.specs.Exchanges.{exchanged}
use Rattle.chains.proofs.BoardKept.{becomes_also}
use Rattle.chains.proofs.Members.{once_short}
use Rattle.placing.specs.Putting.{chain_for}
use Rattle.placing.proofs.ByChain.{chain_is, exchangeable, then_vacant, then_out}
use Rattle.placing.proofs.put.open_round.Goals as goal

pub exchange-requires : goal.exchange-requires
exchange-requires c =
    let d = c.args.board.now in
    let i = c.args.meeting.0 in
    let a = c.args.rounds.a.0 in
    let b = c.args.rounds.b.0 in
    let is = c.list.ensures ∙ chain_is (meetings_on d) (rounds_on d) i a b _ _ _ _ _ c.requires.unused.empty c.party_of-station.ensures c.met.ensures c.unwrap-first.ensures c.find_chain.ensures.list in
    record { closed = exchangeable (meetings_on d) (rounds_on d) i a b _ _ d.shape _ is c.requires.opens c.requires.one c.requires.other }

pub returns : goal.returns
returns c =
    let d = c.args.board.now in
    let i = c.args.meeting.0 in
    let a = c.args.rounds.a.0 in
    let b = c.args.rounds.b.0 in
    let found = chain_is (meetings_on d) (rounds_on d) i a b _ _ _ _ _ c.requires.unused.empty c.party_of-station.ensures c.met.ensures c.unwrap-first.ensures c.find_chain.ensures.list in
    let is = c.list.ensures ∙ found in
    let long = ap length (c.list-2.ensures ∙ found) in
    let la : a < none = omega (arith, c.requires.one.0, d.held.groups.narrow) in
    let lb : b < none = omega (arith, c.requires.other.0, d.held.groups.narrow) in
    let free = then_vacant (meetings_on d) (rounds_on d) i a b _ _ d.shape _ is c.requires.opens d.held.each _ c.exchange.ensures.rounds in
    record {
      board = becomes_also _ _ _ _ c.exchange.ensures (ap (λ l. exchanged a b l (rounds_on d)) is);
      counted = long;
      short = omega (arith, long, c.requires.opens.short);
      few = omega (arith, long, once_short (chain_for (meetings_on d) (rounds_on d) i a b) (length (meetings_on d)) c.requires.opens.whole.once (λ j h. (c.requires.opens.whole.within j h).0), d.held.few);
      out = then_out (meetings_on d) (rounds_on d) i a b _ _ d.shape _ is c.requires.opens la lb c.requires.out _ c.exchange.ensures.rounds;
      group_free = free Groups;
      station_free = free Stations;
      found = record { among = c.find_chain.ensures.among; list = found };
    }

-- The round that gets one more is counted, and the chain and the meeting are touched.
use Rattle.std.proofs.Common.{length, ap, sym, ◌∙◌, arith}
use Rattle.chains.specs.Boards.{meetings_on, rounds_on}
use Rattle.chains.specs.Chains.{holds}
use Rattle.changes.proofs.Named.{chained_below, one_more_fits, one_more_size, put_touches}
use Rattle.changes.proofs.putting.put_in_counted.Goals as goal

pub add_one-requires-clause-few : goal.add_one-requires-clause-few
add_one-requires-clause-few c =
    let e = c.put_in-put.new.board in
    one_more_fits (length c.args.sizes.now) (rounds_on c.args.board.now) (rounds_on e) c.args.sizes.now c.put_in-put.result.fuller.0 c.requires.counted c.requires.few (omega (arith, c.put_in-put.ensures.below, c.requires.within)) c.put_in-put.ensures.fuller (omega (arith, e.held.each, e.held.few))

pub add_all-requires : goal.add_all-requires
add_all-requires c = record {
  within = λ i h. omega (arith, c.requires.touched, chained_below c.args.rounds (meetings_on c.args.board.now) (rounds_on c.args.board.now) c.args.meeting.0 _ _ c.requires.ready.ready i (ap (λ l. holds l i) (sym c.put_in-put.ensures.chain.list ∙ sym c.list.ensures) ∙ h));
}

pub returns-clause-counted : goal.returns-clause-counted
returns-clause-counted c =
    c.add_one.ensures
    ∙ one_more_size (length c.args.sizes.now) (rounds_on c.args.board.now) (rounds_on c.put_in-put.new.board) c.args.sizes.now c.put_in-put.result.fuller.0 c.requires.counted c.requires.few (omega (arith, c.put_in-put.ensures.below, c.requires.within)) c.put_in-put.ensures.fuller

pub returns-clause-touched : goal.returns-clause-touched
returns-clause-touched c =
    put_touches _ _ _ c.args.rounds (meetings_on c.args.board.now) (rounds_on c.args.board.now) c.args.meeting.0 c.list.result.now (c.list.ensures ∙ c.put_in-put.ensures.chain.list) c.add_all.ensures c.add_all-2.ensures

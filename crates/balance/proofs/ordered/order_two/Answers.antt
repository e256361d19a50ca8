-- Group by group the meetings of the two rounds are gathered, and then they are sorted.
use Rattle.std.proofs.Common.{◌≤◌, ◌∙◌, arith}
use Rattle.meetings.specs.declared.numbers.Side.TheVariants.{Groups}
use Rattle.chains.specs.Boards.{two_on}
use Rattle.chains.specs.Rows.{parties_of}
use Rattle.chains.proofs.RowsRead.{side_rows}
use Rattle.balance.proofs.InOrder.{gathered_more, sorted_in_order}
use Rattle.balance.proofs.ordered.order_two.Goals as goal

pub loop-group-preserved : goal.loop-group-preserved
loop-group-preserved c =
    let t = two_on c.args.board.now c.args.rounds in
    (gathered_more t c.requires.sound c.loop-group.group _ _ _ c.loop-group.invariant.0 c.add_met.ensures.added c.add_met-in-loop-group.ensures.added, c.add_met-in-loop-group.ensures.room ∙ c.add_met.ensures.room ∙ c.loop-group.invariant.1)

pub returns-clause-order : goal.returns-clause-order
returns-clause-order c =
    let d = c.args.board.now in
    let all : parties_of Groups d.shape ≤ c.loop-group.group = omega (arith, c.loop-group-test.false, c.parties-group-end.ensures) in
    sorted_in_order (two_on d c.args.rounds) c.loop-group.group _ _ (λ i h. omega (arith, all, (side_rows d Groups).parties i h)) c.loop-group.invariant.0 c.sort.ensures.permutation c.sort.ensures.sorted

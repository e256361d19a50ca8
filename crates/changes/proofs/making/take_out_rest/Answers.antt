-- Whoever is in a round that is no more goes, and then those that wait are sorted.
use Rattle.std.proofs.Common.{◌≤◌, ◌∙◌, arith, length}
use Rattle.fewest.specs.Plans.{none}
use Rattle.chains.specs.Boards.{meetings_on, rounds_on}
use Rattle.changes.proofs.TakingRest.{cleared_sizes, rest_goes, rest_stays}
use Rattle.changes.proofs.making.take_out_rest.Goals as goal
use Rattle.changes.proofs.making.take_out_rest.Goals.{then-to-from, else-to-from}

pub returns-clause-taken : goal.returns-clause-taken
returns-clause-taken c =
    let d = c.args.board.now in
    let few : c.args.from ≤ none = omega (arith, c.requires.within, d.held.groups.narrow) in
    elim c.if-to-from.branch [
      | then-to-from w ↦ rw (w.board-is, w.sizes-is) (rest_goes d _ c.args.from c.args.to _ _ _ _ _ few c.requires.plan w.take_out.ensures.taken (w.clear_from.ensures ∙ cleared_sizes c.args.to c.args.from (length c.args.sizes.now) (meetings_on d) (rounds_on d) c.args.sizes.now (omega (arith, w.if-to-from.true)) c.requires.rounds c.requires.few c.requires.plan c.requires.counted) (rw (← w.waiting-is) c.sort_unstable.ensures.permutation) c.sort_unstable.ensures.sorted)
      | else-to-from w ↦ rw (w.board-is, w.sizes-is) (rest_stays d c.args.from c.args.to _ _ _ few w.if-to-from.false c.requires.plan c.requires.out c.requires.counted (rw (← w.waiting-is) c.sort_unstable.ensures.permutation) c.sort_unstable.ensures.sorted)
    ]

-- Group by group the meetings of its row go.
use Rattle.std.proofs.Common.{◌≤◌, refl, ◌∙◌, arith}
use Rattle.fewest.specs.Plans.{none}
use Rattle.changes.proofs.TakingOut.{group_done, groups_done, no_group, takes_none}
use Rattle.changes.proofs.taking.take_out.Goals as goal

pub loop-group-init : goal.loop-group-init
loop-group-init c = (takes_none _ _ _ c.requires.out (no_group c.args.board.now c.args.first c.args.end), refl)

pub loop-group-preserved : goal.loop-group-preserved
loop-group-preserved c =
    let few : c.args.end ≤ none = omega (arith, c.requires.within, c.args.board.now.held.groups.narrow) in
    (group_done _ _ _ _ _ _ c.args.first c.args.end c.loop-group.group few c.loop-group.invariant.0 c.take_out_of_row.ensures.taken, c.take_out_of_row.ensures.room ∙ c.loop-group.invariant.1)

pub returns-clause-taken : goal.returns-clause-taken
returns-clause-taken c =
    groups_done _ _ _ _ c.args.first c.args.end c.loop-group.group (omega (arith, c.loop-group-test.false, c.parties-group-end.ensures)) c.loop-group.invariant.0

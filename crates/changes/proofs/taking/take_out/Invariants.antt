use Rattle.std.proofs.Common.{◌≡◌, vec_capacity}
use Rattle.changes.specs.OnBoard.{TakesOut}
use Rattle.changes.proofs.TakingOut.{goes_before}
use Rattle.changes.proofs.taking.take_out.Given as goal

-- the meetings of the groups before this one have gone
abbrev pub invariant-loop-group : goal.invariant-loop-group
invariant-loop-group l =
    TakesOut l.initial.board l.board l.initial.out.items l.out.items (goes_before l.initial.board l.first l.end l.group)
    × (vec_capacity l.out ≡ vec_capacity l.initial.out)

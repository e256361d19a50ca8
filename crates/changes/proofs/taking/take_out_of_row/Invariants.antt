use Rattle.std.proofs.Common.{◌≡◌, vec_capacity}
use Rattle.changes.specs.OnBoard.{TakesOut, goes_of}
use Rattle.changes.proofs.taking.take_out_of_row.Given as goal

-- the meetings of the rounds before this one have gone
abbrev pub invariant-loop-round : goal.invariant-loop-round
invariant-loop-round l =
    TakesOut l.initial.board l.board l.initial.out.items l.out.items (goes_of l.initial.board l.first l.round l.group.0)
    × (vec_capacity l.out ≡ vec_capacity l.initial.out)

use Rattle.std.proofs.Common.{◌≡◌, vec_capacity}
use Rattle.chains.specs.Boards.{two_on}
use Rattle.balance.proofs.InOrder.{Gathered}
use Rattle.balance.proofs.ordered.order_two.Given as goal

-- the meetings of the groups before this one, and room for those that are left
abbrev pub invariant-loop-group : goal.invariant-loop-group
invariant-loop-group l = Gathered (two_on l.board l.rounds) l.group l.ordered.items × (vec_capacity l.ordered ≡ vec_capacity l.initial.ordered)

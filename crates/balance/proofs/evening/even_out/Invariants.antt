use Rattle.std.proofs.Common.{◌≡◌, length, vec_capacity}
use Rattle.chains.specs.Boards.{rounds_on}
use Rattle.balance.specs.Searching.{Searched}
use Rattle.balance.specs.Sizes.{size, far}
use Rattle.balance.proofs.EvenTurns.{Evening}
use Rattle.balance.proofs.Touched.{Touching}
use Rattle.balance.proofs.evening.even_out.Given as goal

-- the rounds are so far evened out, what that touched is told, and the fullest and the emptiest are searched so far
abbrev pub invariant-loop-rounds : goal.invariant-loop-rounds
invariant-loop-rounds l =
    Evening l.initial.board l.board l.initial.found l.found l.initial.sizes l.sizes (vec_capacity l.ordered) l.looks
    × (vec_capacity l.ordered ≡ vec_capacity l.initial.ordered)
    × Touching l.initial.board l.board l.initial.touched l.touched l.initial.sizes l.sizes l.looks
    × Searched l.sizes l.search

-- how far they are from even
abbrev pub decreases-loop-rounds : goal.decreases-loop-rounds
decreases-loop-rounds l = far (length l.sizes) (size (rounds_on l.board))

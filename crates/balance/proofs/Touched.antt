-- What evening out has touched: what was touched so far, with the meetings of the steps that are left, gives what the whole
-- gives. Assumes nothing.
use Rattle.std.proofs.Common.{◌≡◌, ℕ, List, [], ◌++◌, length, sym, refl, ap, ◌∙◌}
use Rattle.chains.specs.declared.board.Board.{Board}
use Rattle.chains.specs.declared.found.Found.{Found}
use Rattle.chains.specs.Boards.{meetings_on, rounds_on}
use Rattle.chains.specs.Finding.{Finds, among_all, found_in, with_new}
use Rattle.chains.proofs.WithNew.{new_append}
use Rattle.placing.specs.Putting.{placed}
use Rattle.placing.specs.Steps.{all_named}
use Rattle.balance.specs.Evening.{even_steps}

-- the board d has become e, with so many looks, and v has become w, which has what was touched
pub record Touching (d e : Board) (v w : Found) (before ns : List ℕ) (looks : ℕ) : Type 0 where
  pub among : among_all w ≡ among_all v
  pub rule : with_new (found_in w) (all_named (even_steps (length ns) (meetings_on e) (placed (rounds_on e) looks))) ≡ with_new (found_in v) (all_named (even_steps (length before) (meetings_on d) (placed (rounds_on d) 0)))

pub touching_starts : (d : Board) (v : Found) (ns : List ℕ) → Touching d d v v ns ns 0
touching_starts d v ns = record { among = refl; rule = refl }

-- one step more, on these meetings
pub touching_more : (d e e' : Board) (v w w' : Found) (before ns ns' : List ℕ) (looks more : ℕ) (is : List ℕ) → Touching d e v w before ns looks → Finds w w' (with_new (found_in w) is) → all_named (even_steps (length ns) (meetings_on e) (placed (rounds_on e) looks)) ≡ is ++ all_named (even_steps (length ns') (meetings_on e') (placed (rounds_on e') more)) → Touching d e' v w' before ns' more
touching_more d e e' v w w' before ns ns' looks more is so_far told named =
    let after = all_named (even_steps (length ns') (meetings_on e') (placed (rounds_on e') more)) in
    record {
      among = told.among ∙ so_far.among;
      rule = ap (λ l. with_new l after) told.list ∙ sym (new_append (found_in w) is after) ∙ ap (with_new (found_in w)) (sym named) ∙ so_far.rule;
    }

-- at the end no step is left
pub touching_ends : (d e : Board) (v w : Found) (before ns : List ℕ) (looks : ℕ) → Touching d e v w before ns looks → all_named (even_steps (length ns) (meetings_on e) (placed (rounds_on e) looks)) ≡ [] → Finds v w (with_new (found_in v) (all_named (even_steps (length before) (meetings_on d) (placed (rounds_on d) 0))))
touching_ends d e v w before ns looks so_far none_left = record {
  among = so_far.among;
  list = ap (with_new (found_in w)) (sym none_left) ∙ so_far.rule;
}

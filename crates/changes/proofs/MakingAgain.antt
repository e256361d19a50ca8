-- What was put in on one board and evened out on the next is a plan made again: the looks of the two are added, and the steps of the
-- one come before those of the other. Assumes nothing.
use Rattle.std.proofs.Common.{◌≡◌, ℕ, ◌+◌, ◌*◌, ◌≤◌, List, ◌++◌, length, sym, ap, ◌∙◌, subst, mul-le-mul_right, arith}
use Rattle.meetings.specs.declared.numbers.Meeting.{Meeting}
use Rattle.meetings.specs.Lists.{Exist}
use Rattle.fewest.specs.Plans.{none}
use Rattle.chains.specs.declared.board.Board.{Board}
use Rattle.chains.specs.declared.found.Found.{Found}
use Rattle.chains.specs.Boards.{meetings_on, rounds_on}
use Rattle.chains.specs.Finding.{found_in, with_new}
use Rattle.chains.specs.Partial.{Partial}
use Rattle.chains.proofs.BoardKept.{becomes_then}
use Rattle.chains.proofs.RowsRead.{side_rows}
use Rattle.chains.proofs.WithNew.{new_append}
use Rattle.placing.specs.OnBoard.{PutOn}
use Rattle.placing.specs.Putting.{Placed, placed}
use Rattle.placing.specs.Steps.{Step, all_named}
use Rattle.balance.specs.Evening.{even_out, even_steps}
use Rattle.balance.proofs.WholePlan.{even_out_looks}
use Rattle.changes.specs.Making.{put_each, put_each_steps, steps_putting}
use Rattle.changes.specs.OnBoard.{CanPut, Touches}
use Rattle.changes.proofs.Named.{named_append}
use Rattle.changes.proofs.PuttingEach.{waiting_puts}
use Rattle.changes.proofs.PuttingTurns.{few_wait}

-- more steps name more meetings
pub touches_then : (u v w : Found) (ts us : List Step) → Touches u v ts → Touches v w us → Touches u w (ts ++ us)
touches_then u v w ts us one two = record {
  among = two.among ∙ one.among;
  list =
      two.list
      ∙ ap (λ l. with_new l (all_named us)) one.list
      ∙ sym (new_append (found_in u) (all_named ts) (all_named us))
      ∙ ap (with_new (found_in u)) (sym (named_append ts us));
}

module _ (d e : Board) (r l : ℕ) (is : List ℕ) (can : CanPut d r is) (puts : PutOn d e (put_each r (meetings_on d) is (placed (rounds_on d) 0)) l) where
  abbrev ms : List Meeting
  ms = meetings_on d

  abbrev p : Placed
  p = put_each r ms is (placed (rounds_on d) 0)

  -- what was put in is a partial plan
  pub put_plan : Partial r (meetings_on e) (rounds_on e)
  put_plan = subst (λ xs. Partial r (meetings_on e) xs) (sym puts.board.rounds) (subst (λ ms. Partial r ms p.rounds) (sym puts.board.meetings) (subst (λ ms. Partial r ms (put_each r ms is (placed (rounds_on d) 0)).rounds) (sym can.meetings) (waiting_puts d.shape.groups d.shape.stations r can.v exist few le can.spared is (placed (rounds_on d) 0) can.waiting).after.plan))
    where
      few : length can.v.list.meetings ≤ none
      few = omega (arith, d.held.few, ap length can.meetings)

      le : r ≤ none
      le = omega (arith, can.within.0, d.held.groups.narrow)

      exist : Exist d.shape.groups d.shape.stations can.v.list.meetings
      exist = subst (Exist d.shape.groups d.shape.stations) can.meetings (λ s. (side_rows d s).parties)

  evened_is : even_out r (meetings_on e) (placed (rounds_on e) 0) ≡ even_out r ms (placed p.rounds 0)
  evened_is = ap (λ ms. even_out r ms (placed (rounds_on e) 0)) puts.board.meetings ∙ ap (λ xs. even_out r ms (placed xs 0)) puts.board.rounds

  pub both_put : (f : Board) (l' : ℕ) → PutOn e f (even_out r (meetings_on e) (placed (rounds_on e) 0)) l' → PutOn d f (even_out r (meetings_on d) p) (l + l')
  both_put f l' evens = record {
    board = becomes_then d e f _ _ _ puts.board evens.board (ap (λ (q : Placed). q.rounds) evened_is ∙ ap (λ (q : Placed). q.rounds) (sym (even_out_looks r ms p)));
    looks = ap (λ n. n + l') puts.looks ∙ ap (λ n. p.looks + n) (evens.looks ∙ ap (λ (q : Placed). q.looks) evened_is) ∙ ap (λ (q : Placed). q.looks) (sym (even_out_looks r ms p));
  }

  pub both_touch : (u v w : Found) → Touches u v (put_each_steps r ms is (rounds_on d)) → Touches v w (even_steps r (meetings_on e) (placed (rounds_on e) 0)) → Touches u w (steps_putting r ms is (rounds_on d))
  both_touch u v w one two =
      touches_then u v w (put_each_steps r ms is (rounds_on d)) (even_steps r ms (placed p.rounds 0)) one
      (subst (λ ts. Touches v w ts) (ap (λ ms. even_steps r ms (placed (rounds_on e) 0)) puts.board.meetings ∙ ap (λ xs. even_steps r ms (placed xs 0)) puts.board.rounds) two)

-- the looks fit
pub looks_fit : (d : Board) (r l l' : ℕ) (is : List ℕ) → CanPut d r is → l ≤ length is * (1 + none) → l' ≤ none * none → l + l' ≤ none * (1 + none) + none * none
looks_fit d r l l' is can one two = let most : length is * (1 + none) ≤ none * (1 + none) = mul-le-mul_right {n = none} (1 + none) (few_wait d r is can) in omega (arith, one, two, most)

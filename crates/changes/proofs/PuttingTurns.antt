-- One turn of putting in those that wait: what is left gives, by the rule, what the whole gives, and touches what the whole touches.
-- Assumes nothing.
use Rattle.std.proofs.Common.{◌≡◌, ℕ, ◌+◌, ◌*◌, ◌<◌, ◌≤◌, List, [], ◌∷◌, ◌++◌, length, get_or, drop, sym, refl, ap, ◌∙◌, subst, suc-mul, arith}
use Rattle.std.proofs.lemmas.List.{at_drop_more}
use Rattle.meetings.specs.declared.numbers.Meeting.{Meeting}
use Rattle.meetings.specs.Lists.{Exist}
use Rattle.fewest.specs.Plans.{none}
use Rattle.chains.specs.declared.board.Board.{Board}
use Rattle.chains.specs.declared.found.Found.{Found}
use Rattle.chains.specs.Boards.{Becomes, meetings_on, rounds_on}
use Rattle.chains.specs.Finding.{Finds, Unused, among_all, found_in, with_new}
use Rattle.chains.specs.Rows.{ManyWithin}
use Rattle.chains.proofs.BoardKept.{becomes_then}
use Rattle.chains.proofs.ChainTurns.{finds_then}
use Rattle.chains.proofs.RowsRead.{side_rows}
use Rattle.chains.proofs.WithNew.{new_append}
use Rattle.placing.specs.OnBoard.{PutOn}
use Rattle.placing.specs.Putting.{Placed, placed, put}
use Rattle.placing.specs.Statements.{PutIn, Ready}
use Rattle.placing.specs.Steps.{all_named, put_steps}
use Rattle.balance.specs.Sizes.{sizes_of}
use Rattle.balance.proofs.Counted.{sizes_long}
use Rattle.changes.specs.Making.{put_each, put_each_steps}
use Rattle.changes.specs.OnBoard.{CanPut}
use Rattle.changes.proofs.Named.{named_append}
use Rattle.changes.proofs.PuttingEach.{each_ready, one_put}
use Rattle.chains.proofs.Members.{once_short}

-- the board d has become e, those from place t on wait still, with so many looks so far
pub record PuttingOn (d e : Board) (v w tv tw : Found) (r : ℕ) (is ns : List ℕ) (t looks : ℕ) : Type 0 where
  pub board : Becomes d e (rounds_on e)
  pub can : CanPut e r (drop t is)
  pub rule : put_each r (meetings_on d) (drop t is) (placed (rounds_on e) looks) ≡ put_each r (meetings_on d) is (placed (rounds_on d) 0)
  pub counted : ns ≡ sizes_of (length ns) (rounds_on e)
  pub forgotten : Finds v w []
  pub among : among_all tw ≡ among_all tv
  pub touched : with_new (found_in tw) (all_named (put_each_steps r (meetings_on d) (drop t is) (rounds_on e))) ≡ with_new (found_in tv) (all_named (put_each_steps r (meetings_on d) is (rounds_on d)))
  pub few : looks ≤ t * (1 + none)

-- the first that waits can be put in
pub first_ready : (e : Board) (r i : ℕ) (is : List ℕ) → CanPut e r (i ∷ is) → Ready e.shape.groups e.shape.stations r (meetings_on e) (rounds_on e) i
first_ready e r i is can = subst (λ ms. Ready e.shape.groups e.shape.stations r ms (rounds_on e) i) (sym can.meetings) (each_ready e.shape.groups e.shape.stations r can.v exist few le can.spared i is (rounds_on e) can.waiting)
  where
    few : length can.v.list.meetings ≤ none
    few = omega (arith, e.held.few, ap length can.meetings)

    le : r ≤ none
    le = omega (arith, can.within.0, e.held.groups.narrow)

    exist : Exist e.shape.groups e.shape.stations can.v.list.meetings
    exist = subst (Exist e.shape.groups e.shape.stations) can.meetings (λ s. (side_rows e s).parties)

-- no more wait than there are meetings
pub few_wait : (d : Board) (r : ℕ) (is : List ℕ) → CanPut d r is → length is ≤ none
few_wait d r is can = omega (arith, once_short is (length (meetings_on d)) can.waiting.once (λ i h. omega (arith, (can.waiting.waits i h).0, ap length can.meetings)), d.held.few)

-- what is said of the board's meetings, said of the list's
put_in_also : (n k r : ℕ) (ms ms' : List Meeting) (xs : List ℕ) (i : ℕ) (p : Placed) → ms ≡ ms' → PutIn n k r ms xs i p → PutIn n k r ms' xs i p
put_in_also n k r ms ms' xs i p e put = subst (λ l. PutIn n k r l xs i p) e put

pub unused_also : (w : Found) (ms ms' : List Meeting) → ms' ≡ ms → Unused w (length ms) → Unused w (length ms')
unused_also w ms ms' e unused = subst (λ l. Unused w (length l)) (sym e) unused

within_also : (d e : Board) (xs : List ℕ) (r : ℕ) → Becomes d e xs → ManyWithin d.shape r → ManyWithin e.shape r
within_also d e xs r board within = subst (λ z. ManyWithin z r) (sym board.shape) within

-- when it is in, the others can be put in
can_still : (e e' : Board) (r i : ℕ) (is : List ℕ) (p : Placed) (l : ℕ) → (can : CanPut e r (i ∷ is)) → Becomes e e' p.rounds → PutIn e.shape.groups e.shape.stations r (meetings_on e) (rounds_on e) i (placed (rounds_on e') l) → CanPut e' r is
can_still e e' r i is p l can board put = record {
  v = can.v;
  meetings = board.meetings ∙ can.meetings;
  within = within_also e e' p.rounds r board can.within;
  spared = can.spared;
  waiting = one_put e.shape.groups e.shape.stations r can.v exist few le can.spared i is (rounds_on e) (placed (rounds_on e') l) can.waiting (put_in_also e.shape.groups e.shape.stations r (meetings_on e) can.v.list.meetings (rounds_on e) i (placed (rounds_on e') l) can.meetings put);
}
  where
    few : length can.v.list.meetings ≤ none
    few = omega (arith, e.held.few, ap length can.meetings)

    le : r ≤ none
    le = omega (arith, can.within.0, e.held.groups.narrow)

    exist : Exist e.shape.groups e.shape.stations can.v.list.meetings
    exist = subst (Exist e.shape.groups e.shape.stations) can.meetings (λ s. (side_rows e s).parties)

module _ (r : ℕ) (d e : Board) (v w tv tw : Found) (is ns : List ℕ) (t looks : ℕ) (so_far : PuttingOn d e v w tv tw r is ns t looks) (here : t < length is) where
  abbrev i : ℕ
  i = get_or is t 0

  -- the meeting is the first that waits
  pub waits_first : CanPut e r (i ∷ drop (t + 1) is)
  waits_first = subst (CanPut e r) (at_drop_more (λ l. l) is t 0 here) so_far.can

  ms : List Meeting
  ms = meetings_on d

  pub putting_more : (e' : Board) (w' tw' : Found) (ns' : List ℕ) (l : ℕ) → PutOn e e' (put r (meetings_on e) (rounds_on e) i) l → PutIn e.shape.groups e.shape.stations r (meetings_on e) (rounds_on e) i (placed (rounds_on e') l) → ns' ≡ sizes_of (length ns) (rounds_on e') → Finds w w' [] → Finds tw tw' (with_new (found_in tw) (all_named (put_steps r (meetings_on e) (rounds_on e) i))) → l ≤ 1 + none → PuttingOn d e' v w' tv tw' r is ns' (t + 1) (looks + l)
  unfolding ms
  putting_more e' w' tw' ns' l done one counted forgotten touched few = record {
    board = becomes_then d e e' _ _ _ so_far.board done.board (sym done.board.rounds);
    can = can_still e e' r i (drop (t + 1) is) (put r (meetings_on e) (rounds_on e) i) l waits_first done.board one;
    rule = ap (put_each r ms (drop (t + 1) is)) same ∙ sym (at_drop_more (λ l. put_each r ms l (placed (rounds_on e) looks)) is t 0 here) ∙ so_far.rule;
    counted = counted ∙ ap (λ n. sizes_of n (rounds_on e')) (sym (ap length counted ∙ sizes_long (length ns) (rounds_on e')));
    forgotten = finds_then v w w' [] [] [] so_far.forgotten forgotten refl;
    among = touched.among ∙ so_far.among;
    touched =
        ap (λ l. with_new l (all_named (put_each_steps r ms (drop (t + 1) is) (rounds_on e')))) touched.list
        ∙ sym (new_append (found_in tw) (all_named (put_steps r (meetings_on e) (rounds_on e) i)) (all_named (put_each_steps r ms (drop (t + 1) is) (rounds_on e'))))
        ∙ ap (with_new (found_in tw)) (sym (named_append (put_steps r (meetings_on e) (rounds_on e) i) (put_each_steps r ms (drop (t + 1) is) (rounds_on e'))))
        ∙ ap (λ ts. with_new (found_in tw) (all_named ts)) steps
        ∙ so_far.touched;
    few = let more = suc-mul t (1 + none) in omega (arith, so_far.few, few, more);
  }
    where
      by_rule : put r (meetings_on e) (rounds_on e) i ≡ put r (meetings_on d) (rounds_on e) i
      by_rule = ap (λ ms. put r ms (rounds_on e) i) so_far.board.meetings

      same : placed (rounds_on e') (looks + l) ≡ placed (put r (meetings_on d) (rounds_on e) i).rounds (looks + (put r (meetings_on d) (rounds_on e) i).looks)
      same =
          ap (λ xs. placed xs (looks + l)) (done.board.rounds ∙ ap (λ (p : Placed). p.rounds) by_rule)
          ∙ ap (λ n. placed (put r (meetings_on d) (rounds_on e) i).rounds (looks + n)) (done.looks ∙ ap (λ (p : Placed). p.looks) by_rule)

      steps : put_steps r (meetings_on e) (rounds_on e) i ++ put_each_steps r (meetings_on d) (drop (t + 1) is) (rounds_on e') ≡ put_each_steps r (meetings_on d) (drop t is) (rounds_on e)
      steps =
          ap (λ xs. put_steps r (meetings_on e) (rounds_on e) i ++ put_each_steps r (meetings_on d) (drop (t + 1) is) xs) (done.board.rounds ∙ ap (λ (p : Placed). p.rounds) by_rule)
          ∙ ap (λ ms. put_steps r ms (rounds_on e) i ++ put_each_steps r (meetings_on d) (drop (t + 1) is) (put r (meetings_on d) (rounds_on e) i).rounds) so_far.board.meetings
          ∙ sym (at_drop_more (λ l. put_each_steps r (meetings_on d) l (rounds_on e)) is t 0 here)

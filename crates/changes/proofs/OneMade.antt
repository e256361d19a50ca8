-- A change that was made on a board, step by step, left the rule's next day; what is told of it is the rule's, and what is kept beside
-- the board is ready for the next change. Assumes nothing.
use Rattle.std.proofs.Common.{◌≡◌, ℕ, ◌<◌, ◌≤◌, true, List, [], length, count_by, sym, refl, ap, ◌∙◌, subst, arith}
use Rattle.meetings.specs.declared.numbers.Meeting.{Meeting}
use Rattle.chains.specs.declared.board.Board.{Board}
use Rattle.chains.specs.declared.found.Found.{Found}
use Rattle.chains.specs.Boards.{meetings_on, rounds_on}
use Rattle.chains.specs.Chains.{holds}
use Rattle.chains.specs.Finding.{found_in, with_new}
use Rattle.chains.specs.Partial.{round_of}
use Rattle.chains.specs.Statements.{Once}
use Rattle.placing.specs.OnBoard.{PutOn}
use Rattle.placing.specs.Putting.{Placed, placed}
use Rattle.placing.specs.Steps.{all_named}
use Rattle.chains.specs.declared.shapes.Shape.{Shape}
use Rattle.balance.specs.Evening.{even_out}
use Rattle.balance.specs.OnBoard.{RoomForTwo}
use Rattle.changes.specs.declared.change.Change.{Change}
use Rattle.changes.specs.Days.{Day, moved, number_moved, numbered, rounds_of}
use Rattle.changes.specs.Making.{after, again_steps, grown, made_again, noted, put_each, start_of, steps_putting, waiting}
use Rattle.changes.specs.MakingOn.{AfterChange, BeforeChange}
use Rattle.changes.specs.Numbered.{Numbered, can, changed, rounds_for}
use Rattle.changes.specs.OnBoard.{CopiedFor, Notes, TakesRest, Touches, newcomer}
use Rattle.changes.specs.Told.{told_of}
use Rattle.changes.proofs.AfterMaking.{dropped_agree, moved_counted, noted_then, touched_below, touched_once}
use Rattle.changes.proofs.BeforeMaking.{drop_there}
use Rattle.changes.proofs.CanMake.{start_is, start_then, waiting_is}
use Rattle.changes.proofs.NextDay.{next_stands}
use Rattle.changes.proofs.Noted.{Dropped}

-- what waits before and after it, said of lists that are the same
pub rest_is : (d e : Board) (from to : ℕ) (ns ns' ws ws' js js' : List ℕ) → ws ≡ ws' → js' ≡ js → TakesRest d e from to ns ns' ws js → TakesRest d e from to ns ns' ws' js'
rest_is d e from to ns ns' ws ws' js js' f g rest = subst (λ ws. TakesRest d e from to ns ns' ws js') f (subst (TakesRest d e from to ns ns' ws) (sym g) rest)

pub room_also : (z z' : Shape) (room room' : ℕ) → z' ≡ z → room' ≡ room → RoomForTwo z room → RoomForTwo z' room'
room_also z z' room room' e f enough = rw (e, f) enough

-- the meeting that is dropped is one of the board
dropped_here : (d : Day) (c : Change) → can (numbered d) c ≡ true → (j : ℕ) → Dropped c j → j < length d.at
dropped_here d c may j drop = omega (arith, (drop_there d drop.0.0 (subst (λ c. can (numbered d) c ≡ true) drop.1 may)).0, drop.2)

grown_long : (xs : List ℕ) (c : Change) (j : ℕ) → Dropped c j → j < length xs → j < length (grown xs c)
grown_long xs c j drop h = subst (λ c. j < length (grown xs c)) (sym drop.1) h

module _ (d : Day) (c : Change) (e e1 e2 f : Board) (from to : ℕ) (b : BeforeChange d c (meetings_on e) e.shape (rounds_on e) from to) (ns ns1 ns1' ns2 bs bs1 ws js : List ℕ) (notes : Notes e e1 c ns ns1 bs bs1 ws) (rest : TakesRest e1 e2 from to ns1' ns2 ws js) (looks : ℕ) (tv tw : Found) (again : PutOn e2 f (even_out to (meetings_on e2) (put_each to (meetings_on e2) js (placed (rounds_on e2) 0))) looks) (touches : Touches tv tw (steps_putting to (meetings_on e2) js (rounds_on e2))) (empty : found_in tv ≡ []) where
  abbrev v : Numbered
  v = changed (numbered d) c

  taken : TakesRest e1 e2 from to ns1' ns2 (newcomer (length (meetings_on e)) c) js
  taken = subst (λ ws. TakesRest e1 e2 from to ns1' ns2 ws js) notes.waiting rest

  waits : js ≡ waiting v.there (start_of d c)
  waits = waiting_is d c e from to b e1 notes.board e2 ns1' ns2 js taken

  same_meetings : meetings_on e2 ≡ v.list.meetings
  same_meetings = rest.board.meetings ∙ notes.board.meetings ∙ b.meetings

  same_start : rounds_on e2 ≡ start_of d c
  same_start = rest.board.rounds ∙ start_then d c e from to b e1 notes.board

  abbrev out_of : ℕ → List Meeting → List ℕ → List ℕ → Placed
  out_of r ms is xs = even_out r ms (put_each r ms is (placed xs 0))

  made_is : out_of to (meetings_on e2) js (rounds_on e2) ≡ made_again (rounds_for v) v (start_of d c)
  made_is =
      ap (λ r. out_of r (meetings_on e2) js (rounds_on e2)) b.then
      ∙ ap (λ ms. out_of (rounds_for v) ms js (rounds_on e2)) same_meetings
      ∙ ap (λ is. out_of (rounds_for v) v.list.meetings is (rounds_on e2)) waits
      ∙ ap (out_of (rounds_for v) v.list.meetings (waiting v.there (start_of d c))) same_start

  steps_are : steps_putting to (meetings_on e2) js (rounds_on e2) ≡ again_steps (rounds_for v) v (start_of d c)
  steps_are =
      ap (λ r. steps_putting r (meetings_on e2) js (rounds_on e2)) b.then
      ∙ ap (λ ms. steps_putting (rounds_for v) ms js (rounds_on e2)) same_meetings
      ∙ ap (λ is. steps_putting (rounds_for v) v.list.meetings is (rounds_on e2)) waits
      ∙ ap (steps_putting (rounds_for v) v.list.meetings (waiting v.there (start_of d c))) same_start

  rounds_then : rounds_on f ≡ (after d c).day.at
  unfolding after
  rounds_then = again.board.rounds ∙ ap (λ (p : Placed). p.rounds) made_is

  looks_then : looks ≡ (after d c).looks
  unfolding after
  looks_then = again.looks ∙ ap (λ (p : Placed). p.looks) made_is

  pub touched_is : found_in tw ≡ with_new [] (all_named (after d c).steps)
  unfolding after
  touched_is = touches.list ∙ ap (λ l. with_new l (all_named (steps_putting to (meetings_on e2) js (rounds_on e2)))) empty ∙ ap (λ ts. with_new [] (all_named ts)) steps_are

  pub touched_here : (i : ℕ) → holds (found_in tw) i ≡ true → i < length (meetings_on f)
  touched_here i h = omega (arith, touched_below d c b.stands b.may _ (λ i. refl) (found_in tw) touched_is i h, ap length again.board.meetings, ap length same_meetings)

  pub touched_each : Once (found_in tw)
  touched_each = touched_once d c b.stands b.may _ (λ i. refl) (found_in tw) touched_is

  -- the rounds before are those that are noted
  module _ (before : (i : ℕ) → round_of bs i ≡ round_of (rounds_on e) i) (long : length (meetings_on e) ≤ length bs) where
    pub before_so : (i : ℕ) → round_of bs1 i ≡ round_of (noted d.at c) i
    before_so i =
        ap (λ l. round_of l i) notes.before
        ∙ dropped_agree bs (rounds_on e) c (λ j drop. let here = grown_long d.at c j drop (dropped_here d c b.may j drop) in (omega (arith, here, ap length b.rounds, e.held.each, long), omega (arith, here, ap length b.rounds))) before i
        ∙ ap (λ l. round_of l i) (start_is d c e from to b)

    pub made_told : (many : ℕ) → many ≡ count_by (λ i. moved (round_of bs1 i) (round_of (rounds_on f) i)) (found_in tw) → AfterChange d c (rounds_on f) (record { rounds = to; looks = looks; moved = many })
    made_told many counted = record {
      rounds = rounds_then;
      told = same to looks many (b.then ∙ sym next_rounds) looks_then (counted ∙ ap (λ ys. count_by (λ i. moved (round_of bs1 i) (round_of ys i)) (found_in tw)) rounds_then ∙ moved_counted d c b.stands b.may bs1 before_so (found_in tw) touched_is);
    }
      where
        next_rounds : rounds_of (after d c).day ≡ rounds_for v
        next_rounds = ap rounds_for (next_stands d c b.stands b.may).list

        same : (r l m : ℕ) → r ≡ rounds_of (after d c).day → l ≡ (after d c).looks → m ≡ number_moved d.at (after d c).day.at → record { rounds = r; looks = l; moved = m } ≡ told_of d (after d c).day (after d c).looks
        same r l m e f g = rw (e, f, g) refl

    pub noted_for_next : (bs2 : List ℕ) → CopiedFor bs1 bs2 (rounds_on f) (found_in tw) → (i : ℕ) → round_of bs2 i ≡ round_of (rounds_on f) i
    noted_for_next bs2 n i = noted_then d c b.stands b.may bs1 before_so (found_in tw) touched_is bs2 (subst (λ ys. CopiedFor bs1 bs2 ys (found_in tw)) rounds_then n) i ∙ ap (λ l. round_of l i) (sym rounds_then)

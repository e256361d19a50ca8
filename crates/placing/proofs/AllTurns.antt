-- One turn of putting in all: what is left gives, by the rule, what the whole gives. Assumes nothing.
use Rattle.std.proofs.Common.{◌≡◌, ℕ, suc, ◌+◌, ◌-◌, ◌*◌, ◌<◌, ◌≤◌, List, [], length, sym, refl, ap, ◌∙◌, suc-mul, arith}
use Rattle.meetings.specs.declared.numbers.Meeting.{Meeting}
use Rattle.fewest.specs.Plans.{none}
use Rattle.chains.specs.declared.board.Board.{Board}
use Rattle.chains.specs.declared.found.Found.{Found}
use Rattle.chains.specs.declared.shapes.Shape.{Shape}
use Rattle.chains.specs.Boards.{Becomes, meetings_on, rounds_on}
use Rattle.chains.specs.Finding.{Finds, Unused}
use Rattle.chains.proofs.BoardKept.{becomes_then}
use Rattle.chains.proofs.ChainTurns.{finds_then}
use Rattle.placing.specs.OnBoard.{PutOn}
use Rattle.placing.specs.Putting.{Placed, placed, put, put_from, put_all}
use Rattle.placing.specs.Statements.{PutIn, Ready}
use Rattle.placing.proofs.PutAll.{PutBefore, one_before, put_from_more}

-- before meeting i: the board d has become e, with so many looks
pub record Putting (r : ℕ) (d e : Board) (v w : Found) (i looks : ℕ) : Type 0 where
  pub before : PutBefore d.shape.groups d.shape.stations r (meetings_on d) i (placed (rounds_on e) looks)
  pub board : Becomes d e (rounds_on e)
  pub rule : put_from r (meetings_on d) (length (meetings_on d) - i) i (placed (rounds_on e) looks) ≡ put_all r (meetings_on d)
  pub forgotten : Finds v w []
  pub few : looks ≤ i * (1 + none)

pub finds_same : (v : Found) (m : ℕ) → Unused v m → Finds v v []
finds_same v m u = record { among = refl; list = u.empty }

pub still_unused : (v w : Found) (m : ℕ) → Unused v m → Finds v w [] → Unused w m
still_unused v w m u f = record { empty = f.list; enough = omega (arith, f.among, u.enough) }

-- what is said of the meetings and the shape of one board, said of another with the same
pub ready_also : (z z' : Shape) (r : ℕ) (ms ms' : List Meeting) (xs : List ℕ) (i : ℕ) → z' ≡ z → ms' ≡ ms → Ready z.groups z.stations r ms xs i → Ready z'.groups z'.stations r ms' xs i
ready_also z z' r ms ms' xs i same also ready = rw (same, also) ready

put_also : (z z' : Shape) (r : ℕ) (ms ms' : List Meeting) (xs : List ℕ) (i : ℕ) (p : Placed) → z' ≡ z → ms' ≡ ms → PutIn z'.groups z'.stations r ms' xs i p → PutIn z.groups z.stations r ms xs i p
put_also z z' r ms ms' xs i p same also put = rw (← same, ← also) put

module _ (r : ℕ) (d e : Board) (v w : Found) (i looks : ℕ) (now_at : Putting r d e v w i looks) (here : i < length (meetings_on d)) where
  pub putting_more : (e' : Board) (u w' : Found) (is : List ℕ) (l : ℕ) → PutOn e e' (put r (meetings_on e) (rounds_on e) i) l → Finds w u is → Finds u w' [] → PutIn e.shape.groups e.shape.stations r (meetings_on e) (rounds_on e) i (placed (rounds_on e') l) → l ≤ 1 + none → Putting r d e' v w' (i + 1) (looks + l)
  putting_more e' u w' is l done chain cleared one few = record {
    before = let next : suc i ≡ i + 1 = omega arith in rw (← next) (one_before d.shape.groups d.shape.stations r (meetings_on d) i (placed (rounds_on e) looks) (placed (rounds_on e') l) here now_at.before (put_also d.shape e.shape r (meetings_on d) (meetings_on e) (rounds_on e) i _ now_at.board.shape now_at.board.meetings one));
    board = becomes_then d e e' _ _ _ now_at.board done.board (sym done.board.rounds);
    rule = ap (put_from r (meetings_on d) (length (meetings_on d) - (i + 1)) (i + 1)) same ∙ sym (put_from_more r (meetings_on d) i (placed (rounds_on e) looks) here) ∙ now_at.rule;
    forgotten = finds_then v u w' is [] [] (finds_then v w u [] is is now_at.forgotten chain refl) cleared refl;
    few = let more = suc-mul i (1 + none) in omega (arith, now_at.few, few, more);
  }
    where
      by_rule : put r (meetings_on e) (rounds_on e) i ≡ put r (meetings_on d) (rounds_on e) i
      by_rule = ap (λ ms. put r ms (rounds_on e) i) now_at.board.meetings

      same : placed (rounds_on e') (looks + l) ≡ placed (put r (meetings_on d) (rounds_on e) i).rounds (looks + (put r (meetings_on d) (rounds_on e) i).looks)
      same =
          ap (λ xs. placed xs (looks + l)) (done.board.rounds ∙ ap (λ (p : Placed). p.rounds) by_rule)
          ∙ ap (λ n. placed (put r (meetings_on d) (rounds_on e) i).rounds (looks + n)) (done.looks ∙ ap (λ (p : Placed). p.looks) by_rule)

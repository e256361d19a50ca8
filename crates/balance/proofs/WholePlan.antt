-- A whole plan: what was put in is evened out, and the looks of the two are added. Assumes nothing.
use Rattle.std.proofs.Common.{◌≡◌, ℕ, zero, suc, ◌+◌, Bool, true, false, List, length, sym, refl, ap, ◌∙◌, cond, arith}
use Rattle.meetings.specs.declared.numbers.Meeting.{Meeting}
use Rattle.chains.specs.declared.board.Board.{Board}
use Rattle.chains.specs.declared.found.Found.{Found}
use Rattle.chains.specs.Boards.{Becomes, meetings_on, rounds_on}
use Rattle.chains.proofs.BoardKept.{becomes_then}
use Rattle.placing.specs.OnBoard.{PutsOn}
use Rattle.placing.specs.Putting.{Placed, placed, put_all}
use Rattle.balance.specs.Evening.{exchanges, even_out, one_exchange, plan_all}
use Rattle.balance.specs.OnBoard.{EvensOn}
use Rattle.balance.specs.Sizes.{size, uneven}

-- looks from before, and those of evening out
abbrev pub with_looks : ℕ → Placed → Placed
with_looks n p = placed p.rounds (n + p.looks)

added_if : (b : Bool) (n : ℕ) (p q p' q' : Placed) → p ≡ with_looks n p' → q ≡ with_looks n q' → cond b p q ≡ with_looks n (cond b p' q')
added_if true n p q p' q' e f = e
added_if false n p q p' q' e f = f

looks_added : (r : ℕ) (ms : List Meeting) (left : ℕ) (xs : List ℕ) (n m : ℕ) → exchanges r ms left (placed xs (n + m)) ≡ with_looks n (exchanges r ms left (placed xs m))
looks_added r ms zero xs n m = refl
looks_added r ms (suc left) xs n m =
    let one = one_exchange r ms (placed xs m) in
    let sum : (one_exchange r ms (placed xs (n + m))).looks ≡ n + one.looks = omega arith in
    let later = ap (λ l. exchanges r ms left (placed one.rounds l)) sum ∙ looks_added r ms left one.rounds n one.looks in
    added_if (uneven r (size xs)) n (exchanges r ms left (one_exchange r ms (placed xs (n + m)))) (placed xs (n + m)) (exchanges r ms left one) (placed xs m) later refl

-- evening out goes on counting from the looks that there were
pub even_out_looks : (r : ℕ) (ms : List Meeting) (p : Placed) → even_out r ms p ≡ with_looks p.looks (even_out r ms (placed p.rounds 0))
even_out_looks r ms p = let none_more : p.looks ≡ p.looks + 0 = omega arith in ap (λ l. even_out r ms (placed p.rounds l)) none_more ∙ looks_added r ms _ p.rounds p.looks 0

-- a whole plan is that of evening out, from no looks on, with those of putting in added
pub plan_is : (r : ℕ) (ms : List Meeting) → plan_all r ms ≡ with_looks (put_all r ms).looks (even_out r ms (placed (put_all r ms).rounds 0))
unfolding plan_all
plan_is r ms = even_out_looks r ms (put_all r ms)

-- what was put in on one board and evened out on the next is the whole plan
module _ (d e f : Board) (v w u : Found) (ns ns' : List ℕ) (r put l : ℕ) (puts : PutsOn d e v w (put_all r (meetings_on d)) put) (evens : EvensOn e f ns ns' w u (even_out (length ns) (meetings_on e) (placed (rounds_on e) 0)) l) (long : length ns ≡ r) where
  evened_is : even_out (length ns) (meetings_on e) (placed (rounds_on e) 0) ≡ even_out r (meetings_on d) (placed (put_all r (meetings_on d)).rounds 0)
  evened_is =
      ap (λ n. even_out n (meetings_on e) (placed (rounds_on e) 0)) long
      ∙ ap (λ ms. even_out r ms (placed (rounds_on e) 0)) puts.board.meetings
      ∙ ap (λ xs. even_out r (meetings_on d) (placed xs 0)) puts.board.rounds

  pub plan_rounds : Becomes d f (plan_all r (meetings_on d)).rounds
  plan_rounds =
      becomes_then d e f _ _ _ puts.board evens.board (ap (λ (p : Placed). p.rounds) evened_is ∙ ap (λ (p : Placed). p.rounds) (sym (plan_is r (meetings_on d))))

  pub plan_looks : put + l ≡ (plan_all r (meetings_on d)).looks
  plan_looks =
      ap (λ n. n + l) puts.looks
      ∙ ap (λ n. (put_all r (meetings_on d)).looks + n) (evens.looks ∙ ap (λ (p : Placed). p.looks) evened_is)
      ∙ ap (λ (p : Placed). p.looks) (sym (plan_is r (meetings_on d)))

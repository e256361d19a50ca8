-- Two parts that share a meeting have the same meetings, and so as many in each round: from the shared meeting one comes back to
-- where the one part starts, and from there to each of its meetings. Assumes nothing.
use Rattle.std.proofs.Common.{◌≡◌, ℕ, Bool, true, ◌&&◌, eqb, List, sym, ap, ◌∙◌}
use Rattle.std.specs.Cmp.{both_ways}
use Rattle.fewest.proofs.Counting.{count_ext}
use Rattle.chains.specs.Chains.{Two, Closed, Linked, itself, next, holds}
use Rattle.chains.specs.Statements.{in_part, PartOf}
use Rattle.chains.proofs.Members.{count_members}
use Rattle.chains.proofs.Parts.{beside_back}

-- a closed set that has a meeting has all to which one comes from it
pub linked_on : (t : Two) (C : ℕ → Bool) → Closed t C → (i j : ℕ) → Linked t i j → C i ≡ true → C j ≡ true
linked_on t C closed i j itself h = h
linked_on t C closed i j (next k l way beside) h = closed k l beside (linked_on t C closed i k way h)

-- and all from which one comes to it
linked_back : (t : Two) (C : ℕ → Bool) → Closed t C → (i j : ℕ) → Linked t i j → C j ≡ true → C i ≡ true
linked_back t C closed i j itself h = h
linked_back t C closed i j (next k l way beside) h = linked_back t C closed i k way (closed l k (beside_back t k l beside) h)

-- two parts, and a meeting of both
module _ (t : Two) (x y k : ℕ) (is js : List ℕ) (one : PartOf t x is) (other : PartOf t y js) (in_one : holds is k ≡ true) (in_other : holds js k ≡ true) where
  member_of_other : (j : ℕ) → holds is j ≡ true → holds js j ≡ true
  member_of_other j h =
      linked_on t (holds js) other.closed x j (one.linked j h)
      (linked_back t (holds js) other.closed x k (one.linked k in_one) in_other)

same_members : (t : Two) (x y k : ℕ) (is js : List ℕ) → PartOf t x is → PartOf t y js → holds is k ≡ true → holds js k ≡ true → (j : ℕ) → holds is j ≡ holds js j
same_members t x y k is js one other in_one in_other j =
    both_ways (holds is j) (holds js j)
    (member_of_other t x y k is js one other in_one in_other j)
    (member_of_other t y x k js is other one in_other in_one j)

pub same_numbers : (t : Two) (x y k : ℕ) (is js : List ℕ) → PartOf t x is → PartOf t y js → holds is k ≡ true → holds js k ≡ true → (c : ℕ) → in_part t c is ≡ in_part t c js
same_numbers t x y k is js one other in_one in_other c =
    let first = count_members (λ j. eqb (t.round j) c) is t.many one.once (λ j h. (one.within j h).0) in
    let second = count_members (λ j. eqb (t.round j) c) js t.many other.once (λ j h. (other.within j h).0) in
    first
    ∙ count_ext (λ j. holds is j && eqb (t.round j) c) (λ j. holds js j && eqb (t.round j) c) t.many
    (λ j h. ap (λ b. b && eqb (t.round j) c) (same_members t x y k is js one other in_one in_other j))
    ∙ sym second

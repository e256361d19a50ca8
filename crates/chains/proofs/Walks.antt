-- Following ends: each step takes one of the meetings that are left, and where none is left it stops by itself. What is
-- followed is the one run from the meeting, said with no number of steps. Assumes nothing.
use Rattle.std.proofs.Common.{◌≡◌, ℕ, zero, suc, ◌+◌, ◌<◌, ◌≤◌, Bool, true, false, cond, ltb, ◌⊎◌, List, [], ◌∷◌, sym, refl, ap, ◌∙◌, inl, inr, ⊎_elim, arith}
use Rattle.std.proofs.lemmas.Bool.{both_ways, cases_Bool, cases_lt, cond_both, ltb-true, ltb-false}
use Rattle.meetings.specs.declared.numbers.Side.{Side}
use Rattle.meetings.specs.Lists.{other_side}
use Rattle.chains.specs.Chains.{Two, near, with_one, left_of, walk, walked}
use Rattle.chains.specs.Statements.{Ends}
use Rattle.chains.proofs.Members.{left_with_one}

-- the meetings that come one after the other from j: each is near the one before and not in V, until there is none such
abbrev pub Run : Two → (ℕ → Bool) → Side → ℕ → List ℕ → Type 0
Run t V s j [] = (t.many ≤ near t s j) ⊎ (V (near t s j) ≡ true)
Run t V s j (z ∷ zs) = (z ≡ near t s j) × (z < t.many) × (V z ≡ false) × Run t (with_one V z) (other_side s) z zs

-- where nothing is left, the next is none or in V
stops : (t : Two) (V : ℕ → Bool) (z : ℕ) → left_of V t.many ≤ 0 → (t.many ≤ z) ⊎ (V z ≡ true)
stops t V z empty =
    ⊎_elim
    (λ below. ⊎_elim inr (λ out. absurd (omega (arith, left_with_one V z t.many below out))) (cases_Bool (V z)))
    inl
    (cases_lt z t.many)

pub runs : (t : Two) (left : ℕ) (V : ℕ → Bool) (s : Side) (j : ℕ) → left_of V t.many ≤ left → Run t V s j (walk t left V s j)
runs t zero V s j enough = stops t V (near t s j) enough
runs t (suc left) V s j enough =
    let z = near t s j in
    let rest = walk t left (with_one V z) (other_side s) z in
    cond_both
    (ltb z t.many)
    (cond (V z) [] (z ∷ rest))
    []
    (Run t V s j)
    (λ below. cond_both
    (V z)
    []
    (z ∷ rest)
    (Run t V s j)
    inr
    (λ out. (refl, ltb-true z t.many below, out, runs t left (with_one V z) (other_side s) z (omega (arith, left_with_one V z t.many (ltb-true z t.many below) out)))))
    (λ past. inl (ltb-false z t.many past))

pub followed : (t : Two) (V : ℕ → Bool) (s : Side) (j : ℕ) → Run t V s j (walked t V s j)
followed t V s j = runs t (left_of V t.many) V s j (omega arith)

-- a run that has stopped does not go on
halted : (t : Two) (V : ℕ → Bool) (s : Side) (j z : ℕ) → (t.many ≤ near t s j) ⊎ (V (near t s j) ≡ true) → z ≡ near t s j → z < t.many → V z ≡ false → ⊥
halted t V s j z stop e below out = ⊎_elim (λ past. omega arith) (λ there. both_ways (V z) out (ap V e ∙ there)) stop

pub run_same : (t : Two) (V : ℕ → Bool) (s : Side) (j : ℕ) (xs ys : List ℕ) → Run t V s j xs → Run t V s j ys → xs ≡ ys
run_same t V s j [] [] one two = refl
run_same t V s j [] (y ∷ ys) one two = absurd (halted t V s j y one two.0 two.1 two.2)
run_same t V s j (x ∷ xs) [] one two = absurd (halted t V s j x two one.0 one.1 one.2)
run_same t V s j (x ∷ xs) (y ∷ ys) one two =
    let e : y ≡ x = two.0 ∙ sym one.0 in
    let rest : Run t (with_one V x) (other_side s) x ys = rw e at two.3 in
    let tail = run_same t (with_one V x) (other_side s) x xs ys one.3 rest in
    cc

pub ends : Ends
ends t V s j more = run_same t V s j (walk t (left_of V t.many + more) V s j) (walked t V s j) (runs t (left_of V t.many + more) V s j (omega arith)) (followed t V s j)

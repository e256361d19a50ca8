-- The numbers of a row that pass a test, by rising number: these and no others, each once. A list of rising numbers is settled by
-- its members, since the first of each is the lowest. Assumes nothing.
use Rattle.std.proofs.Common.{◌≡◌, ℕ, zero, suc, ◌+◌, ◌<◌, ◌≤◌, Bool, true, List, [], ◌∷◌, sym, refl, ap, ◌∙◌, ⊎_elim, arith}
use Rattle.std.proofs.lemmas.Bool.{both_ways, cases_eq, cond_both}
use Rattle.std.specs.List.Sorted.{IsNonDecreasing}
use Rattle.fewest.specs.Plans.{none}
use Rattle.chains.specs.Chains.{holds}
use Rattle.chains.specs.Statements.{Once}
use Rattle.chains.proofs.Members.{Fresh, first_held, fresh_from_once, held_cases, none_held, place_of, rest_held, unless}
use Rattle.changes.specs.Making.{passing}

-- each number is below all that come after it
abbrev pub Rising : List ℕ → Type 0
Rising [] = Unit {0}
Rising (z ∷ zs) = ((j : ℕ) → holds zs j ≡ true → z < j) × Rising zs

-- what is among the numbers that pass is in the row, and passes
pub passing_within : (p : ℕ → Bool) (more i j : ℕ) → holds (passing p more i) j ≡ true → (i ≤ j) × (j < i + more) × (p j ≡ true)
passing_within p zero i j = λ h. absurd (none_held j h)
passing_within p (suc more) i j =
    let later : holds (passing p more (suc i)) j ≡ true → (i ≤ j) × (j < i + suc more) × (p j ≡ true) = λ h. let rest = passing_within p more (suc i) j h in (omega (arith, rest.0), omega (arith, rest.1), rest.2) in
    cond_both (p i) (i ∷ passing p more (suc i)) (passing p more (suc i)) (λ is. holds is j ≡ true → (i ≤ j) × (j < i + suc more) × (p j ≡ true))
    (λ passes h. ⊎_elim (λ e. (omega arith, omega arith, ap p e ∙ passes)) later (held_cases i (passing p more (suc i)) j h))
    (λ fails h. later h)

-- and what is in the row and passes is among them
pub passing_has : (p : ℕ → Bool) (more i j : ℕ) → i ≤ j → j < i + more → p j ≡ true → holds (passing p more i) j ≡ true
passing_has p zero i j le l e = absurd (omega arith)
passing_has p (suc more) i j le l e =
    let later : (j ≡ i → ⊥) → holds (passing p more (suc i)) j ≡ true = λ other. passing_has p more (suc i) j (omega arith) (omega arith) e in
    cond_both (p i) (i ∷ passing p more (suc i)) (passing p more (suc i)) (λ is. holds is j ≡ true)
    (λ passes. ⊎_elim (λ this. ap (holds (i ∷ passing p more (suc i))) this ∙ first_held i (passing p more (suc i))) (λ other. rest_held i (passing p more (suc i)) j (later other)) (cases_eq j i))
    (λ fails. later (λ this. both_ways (p i) fails (ap p (sym this) ∙ e)))

pub passing_rises : (p : ℕ → Bool) (more i : ℕ) → Rising (passing p more i)
passing_rises p zero i = tt
passing_rises p (suc more) i =
    cond_both (p i) (i ∷ passing p more (suc i)) (passing p more (suc i)) Rising
    (λ passes. (λ j h. omega (arith, (passing_within p more (suc i) j h).0), passing_rises p more (suc i)))
    (λ fails. passing_rises p more (suc i))

pub rising_fresh : (is : List ℕ) → Rising is → Fresh is
rising_fresh [] up = tt
rising_fresh (z ∷ zs) up = (unless (holds zs z) (λ again. omega (arith, up.0 z again)), rising_fresh zs up.1)

pub passing_fresh : (p : ℕ → Bool) (more i : ℕ) → Fresh (passing p more i)
passing_fresh p more i = rising_fresh (passing p more i) (passing_rises p more i)

-- with the same members, the first of each list is a member of the other, so they are the same
same_first : (i j : ℕ) (is js : List ℕ) → Rising (i ∷ is) → Rising (j ∷ js) → holds (j ∷ js) i ≡ true → holds (i ∷ is) j ≡ true → i ≡ j
same_first i j is js up up' there back =
    ⊎_elim (λ e. e) (λ later. ⊎_elim (λ e. sym e) (λ again. absurd (omega (arith, up'.0 i later, up.0 j again))) (held_cases i is j back)) (held_cases j js i there)

-- and what is behind the first of the one is behind that of the other
same_rest : (i j : ℕ) (is js : List ℕ) → i ≡ j → Rising (i ∷ is) → ((k : ℕ) → holds (i ∷ is) k ≡ true → holds (j ∷ js) k ≡ true) → (k : ℕ) → holds is k ≡ true → holds js k ≡ true
same_rest i j is js e up there k h = ⊎_elim (λ f. absurd (omega (arith, up.0 k h))) (λ later. later) (held_cases j js k (there k (rest_held i is k h)))

-- A LIST OF RISING NUMBERS IS SETTLED BY ITS MEMBERS
pub rising_same : (is js : List ℕ) → Rising is → Rising js → ((i : ℕ) → holds is i ≡ true → holds js i ≡ true) → ((i : ℕ) → holds js i ≡ true → holds is i ≡ true) → is ≡ js
rising_same [] [] up up' there back = refl
rising_same [] (j ∷ js) up up' there back = absurd (none_held j (back j (first_held j js)))
rising_same (i ∷ is) [] up up' there back = absurd (none_held i (there i (first_held i is)))
rising_same (i ∷ is) (j ∷ js) up up' there back =
    let e = same_first i j is js up up' (there i (first_held i is)) (back j (first_held j js)) in
    let rest = rising_same is js up.1 up'.1 (same_rest i j is js e up there) (same_rest j i js is (sym e) up' back) in
    ap (λ z. z ∷ is) e ∙ ap (λ zs. j ∷ zs) rest

-- numbers that do not fall, each once, rise
pub sorted_rises : (is : List ℕ) → IsNonDecreasing is → Fresh is → Rising is
sorted_rises [] up fresh = tt
sorted_rises (z ∷ zs) up fresh = (
  λ j h.
      let p = place_of zs j h in
      let least = up 0 (suc p.0) none (omega arith) (omega (arith, p.1)) in
      ⊎_elim (λ e. absurd (both_ways (holds zs z) fresh.0 (ap (holds zs) (sym e) ∙ h))) (λ other. omega (arith, least, p.2)) (cases_eq j z),
  sorted_rises zs (λ i j d le l. up (suc i) (suc j) d (omega arith) (omega arith)) fresh.1,
)

pub once_rises : (is : List ℕ) → IsNonDecreasing is → Once is → Rising is
once_rises is up once = sorted_rises is up (fresh_from_once is once)

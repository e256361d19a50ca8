-- The register of a list, of whose meetings those up to a place are dropped that have no round. Where the place is the end, it is
-- that of the meetings that have one. Assumes nothing.
use Rattle.std.proofs.Common.{◌≡◌, ℕ, zero, suc, ◌+◌, ◌<◌, ◌≤◌, Bool, true, false, List, [], ◌∷◌, length, get_or, set, map, replicate, sym, refl, ap, ◌∙◌, not, ◌≢◌, arith}
use Rattle.std.proofs.lemmas.List.{get_or_default}
use Rattle.std.proofs.lemmas.Bool.{eq-eqb, ne_eqb}
use Rattle.meetings.specs.Lists.{Contents}
use Rattle.fewest.specs.Plans.{none}
use Rattle.chains.specs.Partial.{round_of}
use Rattle.changes.specs.declared.change.Change.TheVariants.{Drop}
use Rattle.changes.specs.Bytes.{meeting_id}
use Rattle.changes.specs.Days.{has_round}
use Rattle.changes.specs.Numbered.{Numbered, changed, whole}
use Rattle.plans.specs.Given.{marked}

-- the marks after the first i rounds
abbrev pub marks_up_to : List ℕ → ℕ → List Bool
marks_up_to xs zero = replicate (length xs) true
marks_up_to [] (suc i) = []
marks_up_to (x ∷ xs) (suc i) = has_round x ∷ marks_up_to xs i

abbrev pub dropped_up_to : Contents → List ℕ → ℕ → Numbered
dropped_up_to d xs i = record { list = d; there = marks_up_to xs i }

pub none_yet : (d : Contents) (xs : List ℕ) → length xs ≡ length d.meetings → whole d ≡ dropped_up_to d xs 0
none_yet d xs each = ap (λ n. record { list = d; there = replicate n true }) (sym each)

all_marked : (xs : List ℕ) (i : ℕ) → length xs ≤ i → marks_up_to xs i ≡ map has_round xs
all_marked [] zero h = refl
all_marked [] (suc i) h = refl
all_marked (x ∷ xs) zero h = absurd (omega arith)
all_marked (x ∷ xs) (suc i) h = ap (λ l. has_round x ∷ l) (all_marked xs i (omega arith))

pub all_dropped : (d : Contents) (xs : List ℕ) (i : ℕ) → length xs ≤ i → dropped_up_to d xs i ≡ marked d xs
all_dropped d xs i h = ap (λ bs. record { list = d; there = bs }) (all_marked xs i h)

-- the next is there
next_there : (xs : List ℕ) (i : ℕ) → i < length xs → get_or (marks_up_to xs i) i false ≡ true
next_there [] i h = absurd (omega arith)
next_there (x ∷ xs) zero h = refl
next_there (x ∷ xs) (suc i) h = next_there xs i (omega arith)

-- and is so still, or not, as it has a round
next_marked : (xs : List ℕ) (i : ℕ) → i < length xs → marks_up_to xs (suc i) ≡ set (marks_up_to xs i) i (has_round (round_of xs i))
next_marked [] i h = absurd (omega arith)
next_marked (x ∷ xs) zero h = refl
next_marked (x ∷ xs) (suc i) h = ap (λ l. has_round x ∷ l) (next_marked xs i (omega arith))

set_same : (xs : List ℕ) (i : ℕ) → i < length xs → set (marks_up_to xs i) i true ≡ marks_up_to xs i
set_same [] i h = absurd (omega arith)
set_same (x ∷ xs) zero h = refl
set_same (x ∷ xs) (suc i) h = ap (λ l. has_round x ∷ l) (set_same xs i (omega arith))

-- of a register that says so
module _ (d : Contents) (xs : List ℕ) (i : ℕ) (here : i < length xs) (v : Numbered) (is : v ≡ dropped_up_to d xs i) where
  round_here : round_of xs i ≡ get_or xs i 0
  round_here = get_or_default xs i none 0 here

  on : dropped_up_to d xs (suc i) ≡ dropped_up_to d xs (i + 1)
  on = let one : suc i ≡ i + 1 = omega arith in ap (dropped_up_to d xs) one

  as_marked : (b : Bool) → b ≡ has_round (round_of xs i) → record { list = d; there = set (marks_up_to xs i) i b } ≡ dropped_up_to d xs (i + 1)
  as_marked b e = ap (λ bs. record { list = d; there = bs }) (ap (set (marks_up_to xs i) i) e ∙ sym (next_marked xs i here)) ∙ on

  -- a meeting without a round may be dropped
  pub may_drop : get_or v.there i false ≡ true
  may_drop = ap (λ (v : Numbered). get_or v.there i false) is ∙ next_there xs i here

  pub one_dropped : (w : Numbered) → w ≡ changed v (Drop (meeting_id i)) → get_or xs i 0 ≡ none → w ≡ dropped_up_to d xs (i + 1)
  one_dropped w made out =
      made ∙ ap (λ v. changed v (Drop (meeting_id i))) is ∙ as_marked false (sym (ap not (eq-eqb _ _ (round_here ∙ out))))

  -- one with a round stays
  pub one_kept : (get_or xs i 0 ≢ none) → v ≡ dropped_up_to d xs (i + 1)
  one_kept has =
      is ∙ ap (λ bs. record { list = d; there = bs }) (sym (set_same xs i here)) ∙ as_marked true (sym (ap not (ne_eqb _ _ (λ e. has (sym round_here ∙ e)))))

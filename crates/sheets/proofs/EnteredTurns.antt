-- The rows of a side have the meetings so far: at first none, a meeting with a round adds one entry, and one without adds none.
-- Assumes nothing.
use Rattle.std.proofs.Common.{◌≡◌, ℕ, ◌+◌, ◌*◌, ◌<◌, ◌≤◌, Option, Some, None, List, length, set, sym, refl, ⊎_elim, subst, arith}
use Rattle.std.proofs.lemmas.Bool.{cases_eq}
use Rattle.meetings.specs.declared.numbers.Meeting.{Meeting}
use Rattle.meetings.specs.declared.numbers.Side.{Side}
use Rattle.meetings.specs.Lists.{other_side}
use Rattle.fewest.specs.Plans.{none}
use Rattle.chains.specs.Partial.{party_of, round_of}
use Rattle.plans.proofs.Entries.{none_written, one_written}
use Rattle.sheets.specs.Entered.{Entered, Has, Tells}

module _ (ms : List Meeting) (xs : List ℕ) (s : Side) (i : ℕ) where
  -- an entry tells the same of one meeting more that is not there
  tells_on : (p c : ℕ) (o : Option ℕ) → (Has ms xs s p c i → ⊥) → Tells ms xs s p c i o → Tells ms xs s p c (i + 1) o
  tells_on p c None other before = λ j h has. ⊎_elim (λ same. other (subst (Has ms xs s p c) same has)) (λ apart. before j (omega arith) has) (cases_eq j i)
  tells_on p c (Some v) other told = (told.0, omega (arith, told.1), told.2, told.3)

  module _ (w : ℕ) (es : List (Option ℕ)) (entered : Entered ms xs s w i es) where
    -- a meeting without a round
    pub entered_passed : w ≤ none → round_of xs i ≡ none → Entered ms xs s w (i + 1) es
    entered_passed narrow out =
        none_written None ms s w (λ p c o. Tells ms xs s p c i o) (λ p c o. Tells ms xs s p c (i + 1) o) es entered
        (λ p c o within told. tells_on p c o (λ has. omega (arith, has.0)) told)

    -- a meeting with a round
    pub entered_more : (es' : List (Option ℕ)) → i < length ms → round_of xs i < w → es' ≡ set es (party_of ms s i * w + round_of xs i) (Some (party_of ms (other_side s) i)) → Entered ms xs s w (i + 1) es'
    entered_more es' here below is =
        one_written None ms s w (λ p c o. Tells ms xs s p c i o) (λ p c o. Tells ms xs s p c (i + 1) o) es entered es' i (round_of xs i) (Some (party_of ms (other_side s) i)) here below is
        (i, omega arith, (refl, refl), refl)
        (λ p c o within other told. tells_on p c o (λ has. other (sym has.1, sym has.0)) told)

-- What tests say that go one after the other: all of them are fine, or the first that refuses is what they say, and all before it
-- are fine. Assumes nothing.
use Rattle.std.proofs.Common.{◌≡◌, ℕ, zero, suc, ◌+◌, ◌<◌, ◌≤◌, Bool, true, false, sym, refl, ap, ◌∙◌, ⊎_elim, arith}
use Rattle.std.proofs.lemmas.Bool.{cases_eq}
use Rattle.meetings.specs.Refusals.{Outcome, accepted, refused, then}
use Rattle.meetings.proofs.Outcomes.{never_accepted}
use Rattle.plans.specs.Checking.{Verdict, each, fine, refused_if}

pub same_refusal : {T : Type 0} (a b number place : ℕ) → ◌≡◌ {A = Outcome T} (refused a b) (refused number place) → (a ≡ number) × (b ≡ place)
same_refusal a b number place e = (cc e, cc e)

-- a test by a Bool
pub if_refused : (b : Bool) (number place n p : ℕ) → refused_if b number place ≡ refused n p → (b ≡ true) × (number ≡ n) × (place ≡ p)
if_refused true number place n p e = let same = same_refusal number place n p e in (refl, same.0, same.1)
if_refused false number place n p e = absurd (never_accepted (sym e))

pub if_fine : (b : Bool) (number place : ℕ) → refused_if b number place ≡ fine → b ≡ false
if_fine true number place e = absurd (never_accepted e)
if_fine false number place e = refl

-- two tests
pub then_refused : (o : Verdict) (next : Unit {0} → Verdict) (number place : ℕ) (P : Type 0) → (o ≡ refused number place → P) → (o ≡ fine → next tt ≡ refused number place → P) → then o next ≡ refused number place → P
then_refused (accepted x) next number place P first second e = second refl e
then_refused (refused n p) next number place P first second e = first e

pub then_fine : (o : Verdict) (next : Unit {0} → Verdict) → then o next ≡ fine → (o ≡ fine) × (next tt ≡ fine)
then_fine (accepted x) next e = (refl, e)
then_fine (refused n p) next e = absurd (never_accepted e)

-- so many tests from i on: the first that refuses
pub record Stops (test : ℕ → Verdict) (n i number place : ℕ) : Type 0 where
  pub at : ℕ
  pub from : i ≤ at
  pub below : at < i + n
  pub says : test at ≡ refused number place
  pub before : (k : ℕ) → i ≤ k → k < at → test k ≡ fine

pub each_refused : (test : ℕ → Verdict) (n i number place : ℕ) → each test n i ≡ refused number place → Stops test n i number place
each_refused test zero i number place e = absurd (never_accepted (sym e))
each_refused test (suc n) i number place e =
    then_refused (test i) (λ _. each test n (suc i)) number place (Stops test (suc n) i number place)
    (λ here. record { at = i; from = omega arith; below = omega arith; says = here; before = λ k from below. absurd (omega arith) })
    (λ one more.
    let rest = each_refused test n (suc i) number place more in
    record {
      at = rest.at;
      from = omega (arith, rest.from);
      below = omega (arith, rest.below);
      says = rest.says;
      before = λ k from below. ⊎_elim (λ same. ap test same ∙ one) (λ other. rest.before k (omega arith) below) (cases_eq k i);
    })
    e

pub each_fine : (test : ℕ → Verdict) (n i : ℕ) → each test n i ≡ fine → (k : ℕ) → i ≤ k → k < i + n → test k ≡ fine
each_fine test zero i e k from below = absurd (omega arith)
each_fine test (suc n) i e k from below =
    let both = then_fine (test i) (λ _. each test n (suc i)) e in
    ⊎_elim (λ same. ap test same ∙ both.0) (λ other. each_fine test n (suc i) both.1 k (omega arith) (omega arith)) (cases_eq k i)

-- What an answer says, and what a rule accepts that goes on from another. Assumes nothing.
use Rattle.std.proofs.Common.{◌≡◌, ℕ, Bool, true, false, cond, Ok, Err, Result, sym, refl, ⊎_elim, arith}
use Rattle.meetings.specs.declared.refusal.Refusal.{Refusal}
use Rattle.meetings.specs.declared.refusal.Refusal.TheVariants.{Memory}
use Rattle.meetings.specs.Refusals.{Outcome, accepted, refused, then, Answers}

-- a value that is answered is what the rule says
pub accepted_from_ok : {X T : Type 0} (means : X → T) (x : X) {o : Outcome T} → Answers means (Ok x) o → o ≡ accepted (means x)
accepted_from_ok means x {o} a = ⊎_elim (λ e. absurd (never e)) (λ e. sym e) a
  where
    never : ◌≡◌ {A = Result _ Refusal} (Ok x) (Err Memory) → ⊥
    never e = let z : ◌≡◌ {A = ℕ} 0 1 = cc in omega arith

-- nothing is refused and accepted
pub never_accepted : {T : Type 0} {x : T} {number place : ℕ} → refused number place ≡ accepted x → ⊥
never_accepted e = let z : ◌≡◌ {A = ℕ} 0 1 = cc e in omega arith

pub accepted_same : {T : Type 0} (x y : T) → accepted x ≡ accepted y → x ≡ y
accepted_same x y e = cc

-- what a rule in two steps accepts, both steps accepted
pub then_accepted : {S T : Type 0} (o : Outcome S) (next : S → Outcome T) (y : T) → then o next ≡ accepted y → (x : S) × (o ≡ accepted x) × (next x ≡ accepted y)
then_accepted (accepted x) next y e = (x, refl, e)
then_accepted (refused number place) next y e = absurd (never_accepted e)

pub unless_refused : {T : Type 0} (b : Bool) (number place : ℕ) (o : Outcome T) (y : T) → cond b (refused number place) o ≡ accepted y → (b ≡ false) × (o ≡ accepted y)
unless_refused true number place o y e = absurd (never_accepted e)
unless_refused false number place o y e = (refl, e)

pub only_if : {T : Type 0} (b : Bool) (number place : ℕ) (o : Outcome T) (y : T) → cond b o (refused number place) ≡ accepted y → (b ≡ true) × (o ≡ accepted y)
only_if true number place o y e = (refl, e)
only_if false number place o y e = absurd (never_accepted e)

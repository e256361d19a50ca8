-- Where the rule accepts, only memory can be wanting. Assumes nothing.
use Rattle.std.proofs.Common.{Err, ◌≡◌, ℕ, ⊎_elim, arith}
use Rattle.meetings.specs.declared.refusal.Refusal.{Refusal}
use Rattle.meetings.specs.declared.refusal.Refusal.TheVariants.{Memory}
use Rattle.meetings.specs.Refusals.{Answers, Outcome, accepted}

pub only_memory : {X T : Type 0} (means : X → T) (e : Refusal) (y : T) (o : Outcome T) → o ≡ accepted y → Answers means (Err e) o → e ≡ Memory
only_memory means e y o ok answer = ⊎_elim (λ m. cc) (λ m. absurd (let z : ◌≡◌ {A = ℕ} 0 1 = cc in omega arith)) answer

-- What ends with the status 0 has printed sheets. Assumes nothing.
use Rattle.std.proofs.Common.{◌≡◌, ℕ, List, Ok, Err, Result, String, Global, IfOk, MatchResult, string_bytes, arith}
use Rattle.std.specs.Process.{exit_status}
use Rattle.std.specs.declared.process.ExitCode.{ExitCode}
use Rattle.meetings.specs.declared.refusal.Refusal.{Refusal}
use Rattle.meetings.specs.Refusals.{Answers, accepted}
use Rattle.meetings.proofs.Outcomes.{accepted_from_ok}
use Rattle.sheets.specs.Texts.{printed}

pub only_printed : {E : Type 0} (day plan : List ℕ) (answer : Result (String Global) Refusal) (end : Result ExitCode E) → Answers string_bytes answer (printed day plan) → IfOk end (λ e. MatchResult answer (λ _. exit_status e ≡ 0) (λ _. exit_status e ≡ 1)) → IfOk end (λ e. exit_status e ≡ 0 → (text : List ℕ) × (printed day plan ≡ accepted text))
only_printed day plan (Ok text) (Ok e) answers told = λ zero. (string_bytes text, accepted_from_ok string_bytes text answers)
only_printed day plan (Err refusal) (Ok e) answers told = λ zero. absurd (omega (arith, told, zero))
only_printed day plan answer (Err e) answers told = tt

-- A plan that is told of by the status 0 is one of the fewest rounds. Assumes nothing.
use Rattle.std.proofs.Common.{◌≡◌, ℕ, List, Ok, Err, Result, IfOk, inr, sym}
use Rattle.std.specs.Process.{exit_status}
use Rattle.std.specs.declared.process.ExitCode.{ExitCode}
use Rattle.meetings.specs.RoundTrips.{AllBytes}
use Rattle.plans.specs.Checking.{checked_bytes, fine}
use Rattle.plans.specs.Given.{FewestPlan}
use Rattle.plans.specs.Statements.{OfPlan}
use Rattle.plans.proofs.Verdicts.{verdict_of_bytes}

pub only_the_fewest : {E : Type 0} (day plan : List ℕ) → AllBytes day → AllBytes plan → (end : Result ExitCode E) → IfOk end (λ e. exit_status e ≡ 0 → checked_bytes day plan ≡ fine) → IfOk end (λ e. exit_status e ≡ 0 → OfPlan day plan (λ d p. FewestPlan d p.rounds p.at))
only_the_fewest day plan bytes_of_day bytes_of_plan (Ok e) told =
    λ zero. verdict_of_bytes {X = Unit {0}} day plan bytes_of_day bytes_of_plan (Ok tt) (inr (sym (told zero)))
only_the_fewest day plan bytes_of_day bytes_of_plan (Err e) told = tt

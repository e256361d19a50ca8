-- The plan that is told is accepted. Assumes nothing.
use Rattle.std.proofs.Common.{◌≡◌, ℕ, List, Ok, Err, Result, IfOk, vec_items, ap, sym, ◌∙◌}
use Rattle.meetings.specs.declared.refusal.Refusal.{Refusal}
use Rattle.meetings.specs.Bytes.{read_list}
use Rattle.meetings.specs.Refusals.{Answers, accepted, then}
use Rattle.meetings.specs.RoundTrips.{AllBytes}
use Rattle.meetings.proofs.Accepted.{read_then_written}
use Rattle.meetings.proofs.Outcomes.{accepted_from_ok, accepted_same, then_accepted}
use Rattle.plans.specs.Bytes.{bytes_of_plan}
use Rattle.plans.specs.Checking.{checked_bytes, fine}
use Rattle.plans.proofs.MadeWritten.{planned_written}
use Rattle.sheets.specs.declared.report.Made.{Made}
use Rattle.sheets.specs.Reports.{Told, plan_told, told, told_of}

pub told_accepted : (day plan : List ℕ) (t : Told) → AllBytes day → then (read_list day) (λ d. accepted (told_of d)) ≡ accepted t → plan ≡ bytes_of_plan (plan_told t) → checked_bytes day plan ≡ fine
told_accepted day plan t byte said is =
    let read = then_accepted (read_list day) (λ d. accepted (told_of d)) t said in
    let d = read.0 in
    let written = planned_written day d (read_then_written day d byte read.1).0 read.1 in
    let bytes : plan ≡ bytes_of_plan (plan_told (told_of d)) = is ∙ ap (λ u. bytes_of_plan (plan_told u)) (sym (accepted_same (told_of d) t read.2)) in
    ap (checked_bytes day) bytes ∙ written

pub made_accepted : (day : List ℕ) → AllBytes day → (o : Result Made Refusal) → Answers (λ m. told m.report) o (then (read_list day) (λ d. accepted (told_of d))) → IfOk o (λ m. vec_items m.plan ≡ bytes_of_plan (plan_told (told m.report))) → IfOk o (λ m. checked_bytes day (vec_items m.plan) ≡ fine)
made_accepted day byte (Ok m) answer is = told_accepted day _ (told m.report) byte (accepted_from_ok (λ (m : Made). told m.report) m answer) is
made_accepted day byte (Err e) answer is = tt

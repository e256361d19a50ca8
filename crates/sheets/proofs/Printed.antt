-- What is answered where the sheets of a plan are printed. Assumes nothing.
use Rattle.std.proofs.Common.{Err, Ok, Result, String, Global, ◌≡◌, ℕ, List, inl, inr, ap, sym, ◌∙◌, string_bytes}
use Rattle.meetings.specs.declared.refusal.Refusal.{Refusal}
use Rattle.meetings.specs.Lists.{Contents}
use Rattle.meetings.specs.Refusals.{Answers, IfMemory, accepted, then}
use Rattle.plans.specs.Checking.{checked, fine}
use Rattle.sheets.specs.declared.sheets.Sheets.{Sheets}
use Rattle.sheets.specs.Texts.{both_text, plan_text}
use Rattle.sheets.specs.Told.{SheetsOf, row_in}
use Rattle.sheets.proofs.SheetTurns.{printed_as_plan}

pub printed_answers : (d : Contents) (r : ℕ) (xs : List ℕ) (v : Sheets) (o : Result (String Global) Refusal) → checked d r xs ≡ fine → SheetsOf d r xs v → IfMemory o (λ text. string_bytes text ≡ both_text d.groups d.stations (row_in v)) → Answers string_bytes o (then (checked d r xs) (λ _. accepted (plan_text d r xs)))
printed_answers d r xs v (Ok text) is of printed =
    inr (ap accepted (printed ∙ printed_as_plan d r xs v of) ∙ sym (ap (λ o. then o (λ _. accepted (plan_text d r xs))) is))
printed_answers d r xs v (Err e) is of no_memory = inl (ap Err no_memory)

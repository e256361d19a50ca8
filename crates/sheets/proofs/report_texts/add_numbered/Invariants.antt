use Rattle.std.proofs.Common.{◌≡◌, ◌++◌, drop, string_bytes}
use Rattle.sheets.specs.ReportTexts.{numbered_lines}
use Rattle.sheets.proofs.report_texts.add_numbered.Given as goal

-- what was added and what is left are the whole
abbrev pub invariant-loop-place : goal.invariant-loop-place
invariant-loop-place l =
    string_bytes l.text ++ numbered_lines l.one l.other l.place-counter (drop l.place-counter l.numbers) ≡ string_bytes l.initial.text ++ numbered_lines l.one l.other 0 l.numbers

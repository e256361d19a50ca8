use Rattle.std.proofs.Common.{◌≡◌, ◌++◌, drop, string_bytes}
use Rattle.sheets.specs.ReportTexts.{changes_text}
use Rattle.sheets.proofs.report_texts.changes_text.Given as goal

-- what was added and what is left are the whole
abbrev pub invariant-loop-changed : goal.invariant-loop-changed
invariant-loop-changed l = string_bytes l.text ++ changes_text (drop l.changed-index l.told) ≡ changes_text l.told

use Rattle.std.proofs.Common.{◌≡◌, ◌++◌, drop, string_bytes}
use Rattle.sheets.specs.Texts.{lines_text}
use Rattle.sheets.proofs.texts.add_lines.Given as goal

-- what was added and what is left are the whole
abbrev pub invariant-loop-round : goal.invariant-loop-round
invariant-loop-round l =
    string_bytes l.text ++ lines_text l.round (drop l.round l.row) ≡ string_bytes l.initial.text ++ lines_text 0 l.row

use Rattle.std.proofs.Common.{◌≡◌, ◌++◌, ◌-◌, string_bytes}
use Rattle.sheets.specs.Texts.{side_text}
use Rattle.sheets.specs.Told.{row_in}
use Rattle.sheets.proofs.texts.add_side.Given as goal

-- what was added and what is left are the whole
abbrev pub invariant-loop-party : goal.invariant-loop-party
invariant-loop-party l =
    string_bytes l.text ++ side_text l.side (row_in l.sheets l.side) (l.many - l.party) l.party
    ≡ string_bytes l.initial.text ++ side_text l.side (row_in l.sheets l.side) l.many 0

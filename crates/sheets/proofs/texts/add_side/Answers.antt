-- A sheet more is added.
use Rattle.std.proofs.Common.{◌++◌, string_bytes, ap, ◌∙◌}
use Rattle.sheets.specs.Texts.{sheet_text}
use Rattle.sheets.specs.Told.{row_in}
use Rattle.sheets.proofs.SheetTurns.{sheet_added}
use Rattle.sheets.proofs.texts.add_side.Goals as goal

pub loop-party-preserved : goal.loop-party-preserved
loop-party-preserved c =
    sheet_added c.args.side (row_in c.args.sheets.now c.args.side) c.args.many c.loop-party.party (string_bytes c.loop-party.text) (string_bytes c.add_sheet.new.text) c.loop-party-test.true c.loop-party.invariant
    (c.in_ok-add_sheet.ensures ∙ ap (λ row. string_bytes c.loop-party.text ++ sheet_text c.args.side c.loop-party.party row) c.row.ensures)

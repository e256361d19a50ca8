-- A plan that is accepted is printed by its rows.
use Rattle.meetings.specs.Held.{contents}
use Rattle.meetings.proofs.Outcomes.{accepted_from_ok}
use Rattle.sheets.proofs.Printed.{printed_answers}
use Rattle.sheets.proofs.printing.plan_sheets.Goals as goal

pub returns : goal.returns
returns c =
    printed_answers (contents c.args.list.now) c.args.rounds c.args.of_meetings.now c.in_ok-sheets.sheets c.text_of.result
    (accepted_from_ok (λ _. tt) c.in_ok-sheets.sheets c.in_ok-sheets.ensures.answer) c.in_ok-sheets.ensures.told c.text_of.ensures

use Rattle.std.proofs.Common.{◌≡◌, length}
use Rattle.sheets.specs.Entered.{Entered}
use Rattle.sheets.proofs.entering.enter_all.Given as goal

-- the meetings so far are entered
abbrev pub invariant-loop-at : goal.invariant-loop-at
invariant-loop-at l =
    Entered l.meetings l.of_meetings l.side l.rounds l.at l.rows × (length l.rows ≡ length l.initial.rows)

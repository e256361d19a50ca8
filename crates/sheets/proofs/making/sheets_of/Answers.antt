-- A plan that is accepted is a partial plan.
use Rattle.std.proofs.Common.{arith}
use Rattle.meetings.specs.Held.{contents}
use Rattle.meetings.proofs.Holds.{proper}
use Rattle.plans.proofs.Accepted.{partial_of}
use Rattle.sheets.proofs.making.sheets_of.Goals as goal

pub rows_of-requires-clause-partial : goal.rows_of-requires-clause-partial
rows_of-requires-clause-partial c =
    partial_of (contents c.args.list.now) c.args.rounds c.args.of_meetings.now (proper c.args.list.now) (omega (arith, c.ranges.rounds.fits)) c.in_ok-check.ensures.verdict

pub rows_of-requires-2-clause-partial : goal.rows_of-requires-2-clause-partial
rows_of-requires-2-clause-partial c =
    partial_of (contents c.args.list.now) c.args.rounds c.args.of_meetings.now (proper c.args.list.now) (omega (arith, c.ranges.rounds.fits)) c.in_ok-check.ensures.verdict

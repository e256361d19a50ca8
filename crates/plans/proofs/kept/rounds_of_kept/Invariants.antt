use Rattle.std.proofs.Common.{◌≡◌}
use Rattle.meetings.specs.Held.{contents}
use Rattle.changes.specs.Registered.{Agrees, registered}
use Rattle.plans.proofs.Dropping.{dropped_up_to}
use Rattle.plans.proofs.kept.rounds_of_kept.Given as goal

-- those of the meetings so far are dropped that have no round
abbrev pub invariant-loop-i : goal.invariant-loop-i
invariant-loop-i l =
    Agrees l.register × (registered l.register ≡ dropped_up_to (contents l.list) l.of_meetings l.i)

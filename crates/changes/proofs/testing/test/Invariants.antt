use Rattle.std.proofs.Common.{◌≡◌, drop, vec_items, []}
use Rattle.meetings.specs.Held.{contents}
use Rattle.changes.specs.Numbered.{tested, whole}
use Rattle.changes.specs.Registered.{Agrees, registered}
use Rattle.changes.proofs.testing.test.Given as goal

-- the rest of the row comes to what the whole comes to
abbrev pub invariant-loop-at : goal.invariant-loop-at
invariant-loop-at l =
    Agrees l.register
    × (tested (registered l.register) (drop l.at l.changes) l.at (vec_items l.rounds) ≡ tested (whole (contents l.list)) l.changes 0 [])

use Rattle.std.proofs.Common.{◌≡◌, ◌-◌, ◌≤◌, length, vec_items}
use Rattle.meetings.specs.Held.{contents}
use Rattle.changes.specs.Bytes.{changes_at, read_row}
use Rattle.changes.specs.Numbered.{whole}
use Rattle.changes.specs.Registered.{Agrees, registered}
use Rattle.changes.proofs.reading.row.Given as goal

-- what is left gives the whole, and each change that came had a byte at least
abbrev pub invariant-loop-at : goal.invariant-loop-at
invariant-loop-at l =
    Agrees l.register
    × (length (vec_items l.read) ≤ l.at)
    × (changes_at (registered l.register) l.bytes (length l.bytes - length (vec_items l.read)) l.at (vec_items l.read) ≡ read_row (whole (contents l.list)) l.bytes)

abbrev pub decreases-loop-at : goal.decreases-loop-at
decreases-loop-at l = length l.bytes - l.at

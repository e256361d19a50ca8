use Rattle.std.proofs.Common.{◌≡◌, drop, vec_items}
use Rattle.changes.specs.Bytes.{written_from, written_row}
use Rattle.changes.proofs.writing.row.Given as goal

-- what is left gives the whole
abbrev pub invariant-loop-at : goal.invariant-loop-at
invariant-loop-at l = written_from l.at (drop l.at l.changes) (vec_items l.bytes) ≡ written_row l.changes

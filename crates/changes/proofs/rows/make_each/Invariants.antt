use Rattle.std.proofs.Common.{◌≡◌, length, vec_capacity, vec_items}
use Rattle.changes.specs.RowOn.{day_before}
use Rattle.changes.proofs.RowTurns.{MakingRow}
use Rattle.changes.proofs.rows.make_each.Given as goal

-- the changes before this one are made
abbrev pub invariant-loop-at : goal.invariant-loop-at
invariant-loop-at l =
    MakingRow (day_before l.initial.row l.initial.rounds) l.row.changes.now (vec_items l.row.tested.meetings) (vec_items l.row.tested.rounds) l.shape l.rounds l.initial.group_rows l.group_rows l.initial.station_rows l.station_rows l.kept (length (vec_items l.initial.kept.before)) (length (vec_items l.initial.kept.sizes)) l.many l.from l.at (vec_items l.initial.answers) (vec_items l.answers)
    × (vec_capacity l.answers ≡ vec_capacity l.initial.answers)

use Rattle.std.proofs.Common.{◌≡◌, ◌++◌, drop, vec_items}
use Rattle.day.specs.Lists.{AllInBytes, all_added}
use Rattle.day.proofs.listing.add_added.Given as goal

-- what was added and what is left are the whole
abbrev pub invariant-loop-change : goal.invariant-loop-change
invariant-loop-change l =
    (vec_items l.bytes ++ all_added (drop l.change-index l.changes) ≡ vec_items l.initial.bytes ++ all_added l.changes)
    × AllInBytes (drop l.change-index l.changes)

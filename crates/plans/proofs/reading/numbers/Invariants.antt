use Rattle.std.proofs.Common.{◌≡◌, ◌+◌, ◌-◌, ◌*◌, ◌≤◌, ◌++◌, length, vec_items, vec_capacity}
use Rattle.plans.specs.Bytes.{numbers_at}
use Rattle.plans.proofs.reading.numbers.Given as goal

-- what was read and what is left are the whole, and there is room for what is left
abbrev pub invariant-loop-i : goal.invariant-loop-i
invariant-loop-i l =
    (vec_items l.read ++ numbers_at l.bytes (l.many - l.i) (2 + 2 * l.i) ≡ numbers_at l.bytes l.many 2)
    × (length (vec_items l.read) ≡ l.i)
    × (l.many ≤ vec_capacity l.read)

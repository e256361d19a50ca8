use Rattle.std.proofs.Common.{◌≡◌, ◌++◌, drop, vec_items}
use Rattle.plans.specs.Bytes.{bytes_of_numbers, bytes_of_plan}
use Rattle.plans.proofs.writing.write_plan.Given as goal

-- what was written and what is left are the whole
abbrev pub invariant-loop-round : goal.invariant-loop-round
invariant-loop-round l =
    vec_items l.bytes ++ bytes_of_numbers (drop l.round-index l.of_meetings)
    ≡ bytes_of_plan (record { rounds = l.rounds; at = l.of_meetings })

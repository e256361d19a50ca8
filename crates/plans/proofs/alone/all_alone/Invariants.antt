use Rattle.std.proofs.Common.{◌≡◌, ◌-◌, length}
use Rattle.meetings.specs.declared.numbers.Side.TheVariants.{Groups, Stations}
use Rattle.plans.specs.Checking.{both_alone, each}
use Rattle.plans.specs.Seen.{Marks}
use Rattle.plans.proofs.alone.all_alone.Given as goal

-- what is left gives the whole, and the marks are those of the meetings so far
abbrev pub invariant-loop-i : goal.invariant-loop-i
invariant-loop-i l =
    (each (both_alone l.meetings l.of_meetings) (length l.meetings - l.i) l.i ≡ each (both_alone l.meetings l.of_meetings) (length l.meetings) 0)
    × Marks l.meetings l.of_meetings Groups l.rounds l.i l.groups
    × Marks l.meetings l.of_meetings Stations l.rounds l.i l.stations

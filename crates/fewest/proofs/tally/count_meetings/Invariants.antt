use Rattle.std.proofs.Common.{take}
use Rattle.meetings.specs.declared.numbers.Side.TheVariants.{Groups, Stations}
use Rattle.fewest.specs.Tallies.{Tallied}
use Rattle.fewest.proofs.tally.count_meetings.Given as goal

-- the meetings so far are counted
abbrev pub invariant-loop-meeting : goal.invariant-loop-meeting
invariant-loop-meeting l =
    Tallied Groups (take l.meeting-index l.meetings) l.groups
    × Tallied Stations (take l.meeting-index l.meetings) l.stations

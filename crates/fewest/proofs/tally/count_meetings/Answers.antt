-- Both parties of a meeting have an entry.
use Rattle.std.proofs.Common.{arith}
use Rattle.meetings.specs.declared.numbers.Side.TheVariants.{Groups, Stations}
use Rattle.fewest.proofs.tally.count_meetings.Goals as goal

pub bounds-groups-meeting : goal.bounds-groups-meeting
bounds-groups-meeting c =
    omega (arith, c.requires.exist Groups c.loop-meeting.meeting-index c.loop-meeting-test.true, c.loop-meeting.auto.groups)

pub bounds-groups-meeting-in-loop-meeting : goal.bounds-groups-meeting-in-loop-meeting
bounds-groups-meeting-in-loop-meeting c =
    omega (arith, c.requires.exist Groups c.loop-meeting.meeting-index c.loop-meeting-test.true, c.loop-meeting.auto.groups)

pub bounds-stations-meeting : goal.bounds-stations-meeting
bounds-stations-meeting c =
    omega (arith, c.requires.exist Stations c.loop-meeting.meeting-index c.loop-meeting-test.true, c.loop-meeting.auto.stations)

pub bounds-stations-meeting-in-loop-meeting : goal.bounds-stations-meeting-in-loop-meeting
bounds-stations-meeting-in-loop-meeting c =
    omega (arith, c.requires.exist Stations c.loop-meeting.meeting-index c.loop-meeting-test.true, c.loop-meeting.auto.stations)

use Rattle.std.proofs.Common.{◌≡◌, ◌+◌, ◌-◌, ◌*◌, [], vec_items}
use Rattle.meetings.specs.Bytes.{meetings_at}
use Rattle.meetings.proofs.reading.Source.meetings.Given as goal

-- what is left gives the whole
abbrev pub invariant-loop-i : goal.invariant-loop-i
invariant-loop-i l =
    meetings_at l.self.bytes.now l.self.groups l.self.stations (l.many - l.i) (5 + 2 * l.i) (vec_items l.read)
    ≡ meetings_at l.self.bytes.now l.self.groups l.self.stations l.many 5 []

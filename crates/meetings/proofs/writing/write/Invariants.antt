use Rattle.std.proofs.Common.{◌≡◌, ◌++◌, drop, vec_items}
use Rattle.meetings.specs.Bytes.{bytes_of, bytes_of_meetings}
use Rattle.meetings.specs.Held.{contents}
use Rattle.meetings.proofs.writing.write.Given as goal

-- what is written, and what is left to write, is the whole
abbrev pub invariant-loop-meeting : goal.invariant-loop-meeting
invariant-loop-meeting l =
    vec_items l.bytes ++ bytes_of_meetings (drop l.meeting-index l.meetings) ≡ bytes_of (contents l.list)

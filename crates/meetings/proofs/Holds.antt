-- The code's list is proper, so its numbers fit a byte, and it is read back as it was written. Assumes nothing.
use Rattle.std.proofs.Common.{ap, ◌∙◌, ◌≡◌, ℕ, ◌^◌, ◌<◌, List, length, get_or, arith}
use Rattle.meetings.specs.declared.list.MeetingList.{MeetingList}
use Rattle.meetings.specs.declared.numbers.Meeting.{Meeting}
use Rattle.meetings.specs.declared.numbers.Side.{Side}
use Rattle.meetings.specs.declared.numbers.Side.TheVariants.{Groups, Stations}
use Rattle.meetings.specs.Bytes.{read_list, bytes_of}
use Rattle.meetings.specs.Held.{contents}
use Rattle.meetings.specs.Refusals.{accepted}
use Rattle.meetings.proofs.Written.{written_then_read}
use Rattle.meetings.specs.Lists.{Proper, parties, party, nobody}

pub proper : (l : MeetingList) → Proper (contents l)
proper l = record {
  groups_within = l.groups_within;
  stations_within = l.stations_within;
  rooms_within = l.rooms_within;
  few = l.few;
  exist = l.exist;
}

pub party_fits : (l : MeetingList) (ms : List Meeting) → ms ≡ (contents l).meetings → (s : Side) (i : ℕ) → i < length ms → party s (get_or ms i nobody) < 2 ^ 8
party_fits l ms e s i h = below s (rw e ((proper l).exist s i (rw (← e) h)))
  where
    below : (s : Side) → party s (get_or ms i nobody) < parties s l.groups l.stations → party s (get_or ms i nobody) < 2 ^ 8
    below Groups h = omega (arith, (proper l).groups_within.1)
    below Stations h = omega (arith, (proper l).stations_within.1)

-- what it is written as is read back
pub written_back : (l : MeetingList) (bs : List ℕ) → bs ≡ bytes_of (contents l) → read_list bs ≡ accepted (contents l)
written_back l bs e = ap read_list e ∙ written_then_read (contents l) (proper l)

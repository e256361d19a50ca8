-- What the code's list of meetings holds. Assumes nothing.
use Rattle.std.specs.Prelude.{vec_items}
use Rattle.meetings.specs.declared.list.MeetingList.{MeetingList}
use Rattle.meetings.specs.Lists.{Contents}

abbrev pub contents : MeetingList → Contents
contents l = record { groups = l.groups; stations = l.stations; rooms = l.rooms; meetings = vec_items l.meetings }

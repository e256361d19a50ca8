-- Meetings with their numbers, some of which were dropped, and what a change makes of them. No rounds in it. Definitions; assumes
-- nothing.
use Rattle.std.specs.Prelude.{ℕ, ◌+◌, ◌-◌, Bool, true, false, cond, ◌&&◌, List, [], ◌∷◌, ◌++◌, length, replicate, nat_lt, slice_index_or, slice_set}
use Rattle.meetings.specs.Lists.{Contents, most, most_meetings}
use Rattle.meetings.specs.Refusals.{Outcome, accepted, refused}
use Rattle.fewest.specs.Rounds.{fewest}
use Rattle.changes.specs.declared.change.Change.{Change}
use Rattle.changes.specs.declared.change.Change.TheVariants.{Add, Drop, GetRoom, GiveRoomUp}

-- a list of all meetings that ever had a number, and for each whether there is one, so that it was not dropped
pub record Numbered : Type 0 where
  pub list : Contents
  pub there : List Bool

-- the elements at the places that are marked
abbrev pub those : {A : Type 0} → List Bool → List A → List A
those [] xs = []
those (b ∷ bs) [] = []
those (b ∷ bs) (x ∷ xs) = cond b (x ∷ those bs xs) (those bs xs)

-- the list of the meetings that there are
abbrev pub left : Numbered → Contents
left v = record {
  groups = v.list.groups;
  stations = v.list.stations;
  rooms = v.list.rooms;
  meetings = those v.there v.list.meetings;
}

-- a list of which no meeting was dropped
abbrev pub whole : Contents → Numbered
whole d = record { list = d; there = replicate (length d.meetings) true }

-- whether a change can be made: the group and the station exist, and there is a number left; there is such a meeting; a room is
-- left; there are fewer rooms than the most
abbrev pub can : Numbered → Change → Bool
can v (Add m) =
    nat_lt m.group.0 v.list.groups && nat_lt m.station.0 v.list.stations && nat_lt (length v.list.meetings) most_meetings
can v (Drop i) = slice_index_or v.there i.0 false
can v GiveRoomUp = nat_lt 1 v.list.rooms
can v GetRoom = nat_lt v.list.rooms most

-- the list after a change
abbrev pub list_after : Contents → Change → Contents
list_after d (Add m) = record {
  groups = d.groups;
  stations = d.stations;
  rooms = d.rooms;
  meetings = d.meetings ++ m ∷ [];
}
list_after d (Drop i) = d
list_after d GiveRoomUp = record {
  groups = d.groups;
  stations = d.stations;
  rooms = d.rooms - 1;
  meetings = d.meetings;
}
list_after d GetRoom = record {
  groups = d.groups;
  stations = d.stations;
  rooms = d.rooms + 1;
  meetings = d.meetings;
}

-- and the marks
abbrev pub there_after : List Bool → Change → List Bool
there_after bs (Add m) = bs ++ true ∷ []
there_after bs (Drop i) = slice_set bs i.0 false
there_after bs GiveRoomUp = bs
there_after bs GetRoom = bs

abbrev pub changed : Numbered → Change → Numbered
changed v c = record { list = list_after v.list c; there = there_after v.there c }

-- THE NUMBER OF ROUNDS of the meetings that there are
abbrev pub rounds_for : Numbered → ℕ
rounds_for v = fewest (left v)

-- what a row of changes makes of a list: all numbers that are given out in the end, and the number of rounds after each
-- change; the first that cannot be made is refused by its place in the row
abbrev pub tested : Numbered → List Change → ℕ → List ℕ → Outcome (Numbered × List ℕ)
tested v [] i rs = accepted (v, rs)
tested v (c ∷ cs) i rs = cond (can v c) (tested (changed v c) cs (i + 1) (rs ++ rounds_for (changed v c) ∷ [])) (refused 6 i)

-- What a list of meetings holds, and when it is proper. Assumes nothing.
use Rattle.std.specs.Prelude.{ℕ, ◌<◌, ◌≤◌, List, length, slice_index_or}
use Rattle.meetings.specs.declared.numbers.Meeting.{Meeting}
use Rattle.meetings.specs.declared.numbers.Side.{Side}
use Rattle.meetings.specs.declared.numbers.Side.TheVariants.{Groups, Stations}

abbrev pub meeting : ℕ → ℕ → Meeting
meeting g s = record { group = record { 0 = g }; station = record { 0 = s } }

-- what stands for the element past the end of a list
abbrev pub nobody : Meeting
nobody = meeting 0 0

-- the group or the station of a meeting
abbrev pub party : Side → Meeting → ℕ
party Groups m = m.group.0
party Stations m = m.station.0

-- the other side
abbrev pub other_side : Side → Side
other_side Groups = Stations
other_side Stations = Groups

-- how many parties a side has, of n groups and k stations
abbrev pub parties : Side → ℕ → ℕ → ℕ
parties Groups n k = n
parties Stations n k = k

-- the most groups, stations and rooms, and the most meetings
abbrev pub most : ℕ
most = 120

abbrev pub most_meetings : ℕ
most_meetings = 4000

-- a number at the head of a list
abbrev pub Within : ℕ → Type 0
Within x = (1 ≤ x) × (x ≤ most)

-- each meeting's group and station exist, among n groups and k stations
abbrev pub Exist : ℕ → ℕ → List Meeting → Type 0
Exist n k ms = (s : Side) (i : ℕ) → i < length ms → party s (slice_index_or ms i nobody) < parties s n k

-- a list of meetings with its head: how many groups, stations and rooms there are
pub record Contents : Type 0 where
  pub groups : ℕ
  pub stations : ℕ
  pub rooms : ℕ
  pub meetings : List Meeting

pub record Proper (d : Contents) : Type 0 where
  pub groups_within : Within d.groups
  pub stations_within : Within d.stations
  pub rooms_within : Within d.rooms
  pub few : length d.meetings ≤ most_meetings
  pub exist : Exist d.groups d.stations d.meetings

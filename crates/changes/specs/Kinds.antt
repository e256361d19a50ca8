-- The number of each kind of change, and what it names. Assumes nothing.
use Rattle.std.specs.Prelude.{ℕ, ◌/◌, ◌%◌, List, [], ◌∷◌}
use Rattle.changes.specs.declared.change.Change.{Change}
use Rattle.changes.specs.declared.change.Change.TheVariants.{Add, Drop, GetRoom, GiveRoomUp}

abbrev pub number_of : Change → ℕ
number_of (Add m) = 0
number_of (Drop i) = 1
number_of GiveRoomUp = 2
number_of GetRoom = 3

-- what it names, as bytes: a group and a station, or a meeting, the low byte of its number first
abbrev pub values_of : Change → List ℕ
values_of (Add m) = m.group.0 ∷ m.station.0 ∷ []
values_of (Drop i) = i.0 % 256 ∷ i.0 / 256 ∷ []
values_of GiveRoomUp = []
values_of GetRoom = []

-- The list of the last day, as bytes. Assumes nothing.
use Rattle.std.specs.Prelude.{ℕ, ◌<◌, Bool, true, false, List, [], ◌∷◌, ◌++◌, length, filter}
use Rattle.changes.specs.declared.change.Change.{Change}
use Rattle.changes.specs.declared.change.Change.TheVariants.{Add, Drop, GetRoom, GiveRoomUp}

abbrev pub gets : Change → Bool
gets (Add m) = false
gets (Drop i) = false
gets GiveRoomUp = false
gets GetRoom = true

abbrev pub gives_up : Change → Bool
gives_up (Add m) = false
gives_up (Drop i) = false
gives_up GiveRoomUp = true
gives_up GetRoom = false

-- how many rooms a row gets and gives up
abbrev pub got : List Change → ℕ
got cs = length (filter gets cs)

abbrev pub given_up : List Change → ℕ
given_up cs = length (filter gives_up cs)

-- the bytes of the meeting that a change adds, if it adds one
abbrev pub added_bytes : Change → List ℕ
added_bytes (Add m) = m.group.0 ∷ m.station.0 ∷ []
added_bytes (Drop i) = []
added_bytes GiveRoomUp = []
added_bytes GetRoom = []

abbrev pub all_added : List Change → List ℕ
all_added [] = []
all_added (c ∷ cs) = added_bytes c ++ all_added cs

-- its group and its station are each a byte
abbrev pub InByte : Change → Type 0
InByte (Add m) = (m.group.0 < 256) × (m.station.0 < 256)
InByte (Drop i) = Unit {0}
InByte GiveRoomUp = Unit {0}
InByte GetRoom = Unit {0}

abbrev pub AllInBytes : List Change → Type 0
AllInBytes [] = Unit {0}
AllInBytes (c ∷ cs) = InByte c × AllInBytes cs

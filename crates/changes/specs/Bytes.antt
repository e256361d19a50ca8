-- The bytes of a row of changes: what they say, or why they are refused, and how a row is written. Assumes nothing.
use Rattle.std.specs.Prelude.{ℕ, zero, suc, ◌+◌, ◌*◌, Bool, true, cond, ◌&&◌, List, [], ◌∷◌, ◌++◌, length, ◌==◌, nat_le, nat_lt, slice_index}
use Rattle.meetings.specs.declared.numbers.MeetingId.{MeetingId}
use Rattle.meetings.specs.Bytes.{meeting_at}
use Rattle.meetings.specs.Refusals.{Outcome, accepted, refused, then}
use Rattle.changes.specs.declared.change.Change.{Change}
use Rattle.changes.specs.declared.change.Change.TheVariants.{Add, Drop, GetRoom, GiveRoomUp}
use Rattle.changes.specs.Kinds.{number_of, values_of}
use Rattle.changes.specs.Numbered.{Numbered, can, changed}

abbrev pub meeting_id : ℕ → MeetingId
meeting_id i = record { 0 = i }

-- the number of a meeting: two bytes that are there, the low one first
abbrev pub id_at : List ℕ → ℕ → Outcome MeetingId
id_at bs at =
    cond (nat_le (length bs) (at + 1)) (refused 1 (length bs)) (accepted (meeting_id (slice_index bs at + 256 * slice_index bs (at + 1))))

-- a change: its kind, and then what that kind names, among n groups and k stations; z is its place in the row
abbrev pub change_at : List ℕ → ℕ → ℕ → ℕ → ℕ → Outcome Change
change_at bs at n k z =
    cond (slice_index bs at == 0) (then (meeting_at bs (at + 1) n k) (λ m. accepted (Add m)))
    (cond (slice_index bs at == 1) (then (id_at bs (at + 1)) (λ i. accepted (Drop i)))
    (cond (slice_index bs at == 2) (accepted GiveRoomUp)
    (cond (slice_index bs at == 3) (accepted GetRoom) (refused 6 z))))

-- and it can be made
abbrev pub next_at : Numbered → List ℕ → ℕ → ℕ → Outcome Change
next_at v bs at z =
    then (change_at bs at v.list.groups v.list.stations z) (λ c. cond (can v c) (accepted c) (refused 6 z))

-- how a change is written, and by how many bytes
abbrev pub bytes_of_change : Change → List ℕ
bytes_of_change c = number_of c ∷ values_of c

abbrev pub width_of : Change → ℕ
width_of c = length (bytes_of_change c)

-- the changes up to the end of the bytes, so many at most, behind those that came before
abbrev pub changes_at : Numbered → List ℕ → ℕ → ℕ → List Change → Outcome (List Change)
changes_at v bs zero at came = accepted came
changes_at v bs (suc left) at came =
    cond (nat_le (length bs) at) (accepted came)
    (then (next_at v bs at (length came)) (λ c. changes_at (changed v c) bs left (at + width_of c) (came ++ c ∷ [])))

-- THE RULE FOR BYTES: what is wrong first, in the order of the bytes; there are no more changes than bytes
abbrev pub read_row : Numbered → List ℕ → Outcome (List Change)
read_row v bs = changes_at v bs (length bs) 0 []

-- how a row is written
abbrev pub bytes_of_changes : List Change → List ℕ
bytes_of_changes [] = []
bytes_of_changes (c ∷ cs) = bytes_of_change c ++ bytes_of_changes cs

-- whether it has bytes: its group and its station are each below 256
abbrev pub has_bytes : Change → Bool
has_bytes (Add m) = nat_lt m.group.0 256 && nat_lt m.station.0 256
has_bytes (Drop i) = true
has_bytes GiveRoomUp = true
has_bytes GetRoom = true

-- THE RULE FOR WRITING: the first change that has no bytes is refused by its place in the row, which is counted from i on
abbrev pub written_from : ℕ → List Change → List ℕ → Outcome (List ℕ)
written_from i [] came = accepted came
written_from i (c ∷ cs) came = cond (has_bytes c) (written_from (i + 1) cs (came ++ bytes_of_change c)) (refused 6 i)

abbrev pub written_row : List Change → Outcome (List ℕ)
written_row cs = written_from 0 cs []

-- A change that can be made leaves a proper list: the added meeting's group and station exist and there is a number left for it,
-- and rooms stay within their bounds. Assumes nothing.
use Rattle.std.proofs.Common.{◌≡◌, ℕ, ◌<◌, Bool, true, ◌&&◌, ltb, List, [], ◌∷◌, ◌++◌, length, refl, ⊎_elim, arith}
use Rattle.std.proofs.lemmas.List.{get_or_append_left, get_or_push, length-append}
use Rattle.std.proofs.lemmas.Bool.{and_parts, cases_lt, ltb-true}
use Rattle.meetings.specs.declared.numbers.Meeting.{Meeting}
use Rattle.meetings.specs.declared.numbers.Side.{Side}
use Rattle.meetings.specs.declared.numbers.Side.TheVariants.{Groups, Stations}
use Rattle.meetings.specs.Lists.{Contents, Exist, Proper, most_meetings, nobody, parties, party}
use Rattle.changes.specs.declared.change.Change.{Change}
use Rattle.changes.specs.declared.change.Change.TheVariants.{Add, Drop, GetRoom, GiveRoomUp}
use Rattle.changes.specs.Numbered.{Numbered, can, changed, list_after}

-- there are as many groups and stations as before
pub groups_kept : (d : Contents) (c : Change) → (list_after d c).groups ≡ d.groups
groups_kept d (Add m) = refl
groups_kept d (Drop j) = refl
groups_kept d GiveRoomUp = refl
groups_kept d GetRoom = refl

pub stations_kept : (d : Contents) (c : Change) → (list_after d c).stations ≡ d.stations
stations_kept d (Add m) = refl
stations_kept d (Drop j) = refl
stations_kept d GiveRoomUp = refl
stations_kept d GetRoom = refl

-- a meeting more, of a group and a station that exist
exist_more : (n k : ℕ) (ms : List Meeting) (m : Meeting) → Exist n k ms → ((s : Side) → party s m < parties s n k) → Exist n k (ms ++ m ∷ [])
exist_more n k ms m exist new s i h =
    ⊎_elim
    (λ old. rw (get_or_append_left ms (m ∷ []) nobody i old) (exist s i old))
    (λ past. let here : length ms ≡ i = omega (arith, length-append ms (m ∷ [])) in rw (get_or_push ms m nobody i here) (new s))
    (cases_lt i (length ms))

-- A CHANGE THAT CAN BE MADE leaves a proper list
pub proper_after : (v : Numbered) (c : Change) → Proper v.list → can v c ≡ true → Proper (changed v c).list
proper_after v (Add m) proper may = record {
  groups_within = proper.groups_within;
  stations_within = proper.stations_within;
  rooms_within = proper.rooms_within;
  few = omega (arith, length-append v.list.meetings (m ∷ []), room);
  exist = exist_more v.list.groups v.list.stations v.list.meetings m proper.exist new;
}
  where
    one : Bool
    one = ltb m.group.0 v.list.groups

    other : Bool
    other = ltb m.station.0 v.list.stations

    left : Bool
    left = ltb (length v.list.meetings) most_meetings

    room : length v.list.meetings < most_meetings
    room = ltb-true _ _ (and_parts (one && other) left may).1

    new : (s : Side) → party s m < parties s v.list.groups v.list.stations
    new Groups = ltb-true _ _ (and_parts one other (and_parts (one && other) left may).0).0
    new Stations = ltb-true _ _ (and_parts one other (and_parts (one && other) left may).0).1
proper_after v (Drop j) proper may = proper
proper_after v GiveRoomUp proper may = record {
  groups_within = proper.groups_within;
  stations_within = proper.stations_within;
  rooms_within = (omega (arith, ltb-true _ _ may), omega (arith, proper.rooms_within.1));
  few = proper.few;
  exist = proper.exist;
}
proper_after v GetRoom proper may = record {
  groups_within = proper.groups_within;
  stations_within = proper.stations_within;
  rooms_within = (omega arith, omega (arith, ltb-true _ _ may));
  few = proper.few;
  exist = proper.exist;
}

-- The list that a row comes to has the groups and the stations of the list, the rooms that were got and not given up, and behind its
-- meetings those that were added. Assumes nothing.
use Rattle.std.proofs.Common.{◌≡◌, ℕ, ◌+◌, ◌-◌, ◌/◌, ◌%◌, ◌<◌, ◌≤◌, true, List, [], ◌∷◌, ◌++◌, length, sym, refl, ap, ◌∙◌, append_assoc, append-nil, arith}
use Rattle.std.proofs.lemmas.Bool.{ltb-true}
use Rattle.std.proofs.lemmas.List.{length-replicate}
use Rattle.meetings.specs.declared.numbers.Meeting.{Meeting}
use Rattle.meetings.specs.declared.numbers.Side.TheVariants.{Groups, Stations}
use Rattle.meetings.specs.Bytes.{bytes_of, bytes_of_meetings}
use Rattle.meetings.specs.Lists.{Contents, Proper}
use Rattle.changes.specs.declared.change.Change.{Change}
use Rattle.changes.specs.declared.change.Change.TheVariants.{Add, Drop, GetRoom, GiveRoomUp}
use Rattle.changes.specs.Numbered.{Numbered, can, changed, whole}
use Rattle.changes.specs.Rows.{CanAll, changed_all}
use Rattle.changes.proofs.DayLent.{last_list}
use Rattle.changes.proofs.DayMade.{groups_all, stations_all}
use Rattle.changes.proofs.LeftChanged.{can_add, long_changed}
use Rattle.changes.proofs.ProperAfter.{proper_after}
use Rattle.day.specs.Lists.{AllInBytes, InByte, all_added, given_up, got}
use Rattle.day.specs.Reports.{last_of}
use Rattle.day.proofs.Last.{stands_last}

-- as many rooms as there were, with those that were got, and without those that were given up
rooms_made : (v : Numbered) (cs : List Change) → CanAll v cs → (changed_all v cs).list.rooms + given_up cs ≡ v.list.rooms + got cs
rooms_made v [] can = refl
rooms_made v (Add m ∷ cs) can = rooms_made (changed v (Add m)) cs can.1
rooms_made v (Drop i ∷ cs) can = rooms_made (changed v (Drop i)) cs can.1
rooms_made v (GiveRoomUp ∷ cs) can = omega (arith, rooms_made (changed v GiveRoomUp) cs can.1, ltb-true _ _ can.0)
rooms_made v (GetRoom ∷ cs) can = omega (arith, rooms_made (changed v GetRoom) cs can.1)

-- the bytes of meetings one after the other
bytes_append : (ms ns : List Meeting) → bytes_of_meetings (ms ++ ns) ≡ bytes_of_meetings ms ++ bytes_of_meetings ns
bytes_append [] ns = refl
bytes_append (m ∷ ms) ns = ap (λ l. m.group.0 ∷ m.station.0 ∷ l) (bytes_append ms ns)

meetings_made : (v : Numbered) (cs : List Change) → bytes_of_meetings (changed_all v cs).list.meetings ≡ bytes_of_meetings v.list.meetings ++ all_added cs
meetings_made v [] = sym (append-nil (bytes_of_meetings v.list.meetings))
meetings_made v (Add m ∷ cs) =
    meetings_made (changed v (Add m)) cs
    ∙ ap (λ l. l ++ all_added cs) (bytes_append v.list.meetings (m ∷ []))
    ∙ append_assoc (bytes_of_meetings v.list.meetings) (m.group.0 ∷ m.station.0 ∷ []) (all_added cs)
meetings_made v (Drop i ∷ cs) = meetings_made (changed v (Drop i)) cs
meetings_made v (GiveRoomUp ∷ cs) = meetings_made (changed v GiveRoomUp) cs
meetings_made v (GetRoom ∷ cs) = meetings_made (changed v GetRoom) cs

-- who is added is one of 120 groups, with one of 120 stations
in_byte : (v : Numbered) (c : Change) → Proper v.list → can v c ≡ true → InByte c
in_byte v (Add m) proper h =
    let exist = (can_add v m h).exist in
    (omega (arith, exist Groups, proper.groups_within.1), omega (arith, exist Stations, proper.stations_within.1))
in_byte v (Drop i) proper h = tt
in_byte v GiveRoomUp proper h = tt
in_byte v GetRoom proper h = tt

all_in_bytes : (v : Numbered) (cs : List Change) → length v.there ≡ length v.list.meetings → Proper v.list → CanAll v cs → AllInBytes cs
all_in_bytes v [] long proper may = tt
all_in_bytes v (c ∷ cs) long proper may =
    (in_byte v c proper may.0, all_in_bytes (changed v c) cs (long_changed v long c) (proper_after v c proper may.0) may.1)

module _ (d : Contents) (cs : List Change) (proper : Proper d) (may : CanAll (whole d) cs) where
  pub added_in_bytes : AllInBytes cs
  added_in_bytes = all_in_bytes (whole d) cs (length-replicate (length d.meetings) true) proper may

  pub rooms_last : (last_of d cs).list.rooms + given_up cs ≡ d.rooms + got cs
  rooms_last = ap (λ (l : Contents). l.rooms + given_up cs) (last_list d cs proper may) ∙ rooms_made (whole d) cs may

  -- what was got and not given up fits a byte
  module _ (rooms gets gives : ℕ) (rooms_is : rooms ≡ d.rooms) (gets_is : gets ≡ got cs) (gives_is : gives ≡ given_up cs) where
    pub rooms_are : rooms + gets - gives ≡ (last_of d cs).list.rooms
    rooms_are = omega (arith, rooms_last)

    pub gives_fewer : gives ≤ rooms + gets
    gives_fewer = omega (arith, rooms_last)

    pub rooms_fit : rooms + gets - gives < 256
    rooms_fit = omega (arith, rooms_are, (stands_last d cs proper may).proper.rooms_within.1)

  -- the bytes of the last list
  pub list_said : (many rooms : ℕ) (bytes : List ℕ) → many ≡ length (last_of d cs).list.meetings → rooms ≡ (last_of d cs).list.rooms → bytes ≡ (d.groups ∷ d.stations ∷ rooms ∷ many % 256 ∷ many / 256 ∷ bytes_of_meetings d.meetings) ++ all_added cs → bytes ≡ bytes_of (last_of d cs).list
  list_said many rooms bytes many_is rooms_is said =
      said
      ∙ ap (λ q. d.groups ∷ d.stations ∷ q ∷ many % 256 ∷ many / 256 ∷ (bytes_of_meetings d.meetings ++ all_added cs)) rooms_is
      ∙ ap (λ n. d.groups ∷ d.stations ∷ (last_of d cs).list.rooms ∷ n % 256 ∷ n / 256 ∷ (bytes_of_meetings d.meetings ++ all_added cs)) many_is
      ∙ ap (λ l. d.groups ∷ d.stations ∷ (last_of d cs).list.rooms ∷ length (last_of d cs).list.meetings % 256 ∷ length (last_of d cs).list.meetings / 256 ∷ l) meetings
      ∙ ap (λ n. n ∷ d.stations ∷ (last_of d cs).list.rooms ∷ length (last_of d cs).list.meetings % 256 ∷ length (last_of d cs).list.meetings / 256 ∷ bytes_of_meetings (last_of d cs).list.meetings) groups
      ∙ ap (λ k. (last_of d cs).list.groups ∷ k ∷ (last_of d cs).list.rooms ∷ length (last_of d cs).list.meetings % 256 ∷ length (last_of d cs).list.meetings / 256 ∷ bytes_of_meetings (last_of d cs).list.meetings) stations
    where
      meetings : bytes_of_meetings d.meetings ++ all_added cs ≡ bytes_of_meetings (last_of d cs).list.meetings
      meetings = sym (ap (λ (l : Contents). bytes_of_meetings l.meetings) (last_list d cs proper may) ∙ meetings_made (whole d) cs)

      groups : d.groups ≡ (last_of d cs).list.groups
      groups = sym (ap (λ (l : Contents). l.groups) (last_list d cs proper may) ∙ groups_all (whole d) cs)

      stations : d.stations ≡ (last_of d cs).list.stations
      stations = sym (ap (λ (l : Contents). l.stations) (last_list d cs proper may) ∙ stations_all (whole d) cs)

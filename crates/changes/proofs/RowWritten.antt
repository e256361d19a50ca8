-- What can be made is accepted as it was written: each change is read from its bytes, and then those of the next. Assumes nothing.
use Rattle.std.proofs.Common.{Global, Ok, Err, Result, Vec, vec_items, ⊎_elim, ◌≡◌, ℕ, zero, suc, ◌+◌, ◌*◌, ◌/◌, ◌%◌, ◌<◌, ◌≤◌, true, List, [], ◌∷◌, ◌++◌, length, get_or, drop, sym, refl, ap, ◌∙◌, append_assoc, append-nil, arith}
use Rattle.std.proofs.lemmas.List.{drop_at, drop-drop, get_or-drop, length-append, length-drop}
use Rattle.std.proofs.lemmas.Bool.{and_from, lt-leb, lt-ltb}
use Rattle.meetings.specs.declared.numbers.Meeting.{Meeting}
use Rattle.meetings.specs.declared.numbers.Side.TheVariants.{Groups, Stations}
use Rattle.meetings.specs.declared.refusal.Refusal.{Refusal}
use Rattle.meetings.specs.declared.refusal.Refusal.TheVariants.{Memory}
use Rattle.meetings.specs.Bytes.{meeting_at}
use Rattle.meetings.specs.Lists.{Proper}
use Rattle.meetings.specs.Refusals.{Answers, IfMemory, accepted}
use Rattle.meetings.proofs.Outcomes.{accepted_from_ok, accepted_same, never_accepted}
use Rattle.meetings.proofs.Written.{party_written}
use Rattle.changes.specs.declared.change.Change.{Change}
use Rattle.changes.specs.declared.change.Change.TheVariants.{Add, Drop, GetRoom, GiveRoomUp}
use Rattle.changes.specs.Bytes.{bytes_of_change, bytes_of_changes, change_at, changes_at, has_bytes, next_at, read_row, width_of, written_from, written_row}
use Rattle.changes.specs.Numbered.{Numbered, can, changed}
use Rattle.changes.specs.Rows.{CanAll, SaysRow, WrittenAsBytes, WrittenThenRead}
use Rattle.changes.proofs.LeftChanged.{can_add}
use Rattle.changes.proofs.ReadTurns.{one_less, past_end}

-- what stands at a place, and behind it
module _ (bs : List ℕ) (at : ℕ) where
  at_first : (x : ℕ) (tail : List ℕ) → drop at bs ≡ x ∷ tail → (at < length bs) × (get_or bs at 0 ≡ x)
  at_first x tail e =
      let long = sym (length-drop at bs) ∙ ap length e in
      let here : at + 0 ≡ at = omega arith in
      (omega arith, ap (λ p. get_or bs p 0) (sym here) ∙ sym (get_or-drop at bs 0 0) ∙ ap (λ l. get_or l 0 0) e)

  -- three bytes
  record Three (x y z : ℕ) : Type 0 where
    pub long : at + 2 < length bs
    pub first : get_or bs at 0 ≡ x
    pub second : get_or bs (at + 1) 0 ≡ y
    pub third : get_or bs (at + 2) 0 ≡ z

  three_at : (x y z : ℕ) (tail : List ℕ) → drop at bs ≡ x ∷ y ∷ z ∷ tail → Three x y z
  three_at x y z tail e =
      let long = sym (length-drop at bs) ∙ ap length e in
      record {
        long = omega arith;
        first = (at_first x (y ∷ z ∷ tail) e).1;
        second = sym (get_or-drop at bs 1 0) ∙ ap (λ l. get_or l 1 0) e;
        third = sym (get_or-drop at bs 2 0) ∙ ap (λ l. get_or l 2 0) e;
      }

  behind : (xs tail : List ℕ) → drop at bs ≡ xs ++ tail → drop (at + length xs) bs ≡ tail
  behind xs tail e = sym (drop-drop (length xs) at bs) ∙ ap (drop (length xs)) e ∙ drop_at xs tail (length xs) refl

  meeting_written : (n k : ℕ) (m : Meeting) (tail : List ℕ) → drop at bs ≡ bytes_of_change (Add m) ++ tail → m.group.0 < n → m.station.0 < k → meeting_at bs (at + 1) n k ≡ accepted m
  meeting_written n k m tail e group station =
      let three = three_at 0 m.group.0 m.station.0 tail e in
      let two : at + 1 + 1 ≡ at + 2 = omega arith in
      rw (two, party_written bs (at + 1) n m.group.0 (omega (arith, three.long)) three.second group, party_written bs (at + 2) k m.station.0 three.long three.third station) refl

  change_written : (v : Numbered) (z : ℕ) (c : Change) (tail : List ℕ) → drop at bs ≡ bytes_of_change c ++ tail → can v c ≡ true → change_at bs at v.list.groups v.list.stations z ≡ accepted c
  change_written v z (Add m) tail e may =
      let three = three_at 0 m.group.0 m.station.0 tail e in
      let exist = (can_add v m may).exist in
      rw (three.first, meeting_written v.list.groups v.list.stations m tail e (exist Groups) (exist Stations)) refl
  change_written v z (Drop i) tail e may =
      let three = three_at 1 (i.0 % 256) (i.0 / 256) tail e in
      let two : at + 1 + 1 ≡ at + 2 = omega arith in
      let whole : i.0 % 256 + 256 * (i.0 / 256) ≡ i.0 = omega arith in
      rw (three.first, two, lt-leb (length bs) (at + 2) three.long, three.second, three.third, whole) refl
  change_written v z GiveRoomUp tail e may = rw (at_first 2 tail e).1 refl
  change_written v z GetRoom tail e may = rw (at_first 3 tail e).1 refl

-- a change has a byte at least
some : (c : Change) → 1 ≤ length (bytes_of_change c)
some (Add m) = omega arith
some (Drop i) = omega arith
some GiveRoomUp = omega arith
some GetRoom = omega arith

no_fewer_bytes : (cs : List Change) → length cs ≤ length (bytes_of_changes cs)
no_fewer_bytes [] = omega arith
no_fewer_bytes (c ∷ cs) =
    omega (arith, length-append (bytes_of_change c) (bytes_of_changes cs), some c, no_fewer_bytes cs)

changes_written : (rest : List Change) (v : Numbered) (bs : List ℕ) (left at : ℕ) (came : List Change) → at ≤ length bs → length rest ≤ left → drop at bs ≡ bytes_of_changes rest → CanAll v rest → changes_at v bs left at came ≡ accepted (came ++ rest)
changes_written [] v bs left at came here enough e may =
    let ends = sym (length-drop at bs) ∙ ap length e in
    past_end v bs at came left (omega arith) ∙ ap accepted (sym (append-nil came))
changes_written (c ∷ rest) v bs zero at came here enough e may = absurd (omega arith)
changes_written (c ∷ rest) v bs (suc left) at came here enough e may =
    let long = sym (length-drop at bs) ∙ ap length e ∙ length-append (bytes_of_change c) (bytes_of_changes rest) in
    let change = change_written bs at v (length came) c (bytes_of_changes rest) e may.0 in
    let next : next_at v bs at (length came) ≡ accepted c = rw (change, may.0) refl in
    let more = changes_written rest (changed v c) bs left (at + width_of c) (came ++ c ∷ []) (omega arith) (omega arith) (behind bs at (bytes_of_change c) (bytes_of_changes rest) e) may.1 in
    one_less v bs at came (suc left) left refl (omega (arith, some c)) ∙ (rw next (more ∙ ap accepted (append_assoc came (c ∷ []) rest)))

pub written_then_read : WrittenThenRead
written_then_read v cs may =
    changes_written cs v (bytes_of_changes cs) (length (bytes_of_changes cs)) 0 [] (omega arith) (no_fewer_bytes cs) refl may

-- where there are at most 256 groups and stations, what can be made has bytes
can_write : (v : Numbered) (c : Change) → v.list.groups ≤ 256 → v.list.stations ≤ 256 → can v c ≡ true → has_bytes c ≡ true
can_write v (Add m) groups stations may =
    let exist = (can_add v m may).exist in
    and_from _ _ (lt-ltb m.group.0 256 (omega (arith, exist Groups))) (lt-ltb m.station.0 256 (omega (arith, exist Stations)))
can_write v (Drop i) groups stations may = refl
can_write v GiveRoomUp groups stations may = refl
can_write v GetRoom groups stations may = refl

-- a change leaves the groups and the stations
same_parties : (v : Numbered) (c : Change) → ((changed v c).list.groups ≡ v.list.groups) × ((changed v c).list.stations ≡ v.list.stations)
same_parties v (Add m) = (refl, refl)
same_parties v (Drop i) = (refl, refl)
same_parties v GiveRoomUp = (refl, refl)
same_parties v GetRoom = (refl, refl)

row_written : (v : Numbered) (cs : List Change) (i : ℕ) (came : List ℕ) → v.list.groups ≤ 256 → v.list.stations ≤ 256 → CanAll v cs → written_from i cs came ≡ accepted (came ++ bytes_of_changes cs)
row_written v [] i came groups stations may = ap accepted (sym (append-nil came))
row_written v (c ∷ cs) i came groups stations may =
    let same = same_parties v c in
    let more = row_written (changed v c) cs (i + 1) (came ++ bytes_of_change c) (omega (arith, same.0)) (omega (arith, same.1)) may.1 in
    rw (can_write v c groups stations may.0) (more ∙ ap accepted (append_assoc came (bytes_of_change c) (bytes_of_changes cs)))

pub written_as_bytes : WrittenAsBytes
written_as_bytes v cs proper may =
    row_written v cs 0 [] (omega (arith, proper.groups_within.1)) (omega (arith, proper.stations_within.1)) may

-- of what is answered
pub written_answered : (v : Numbered) (cs : List Change) (o : Result (Vec ℕ Global) Refusal) → Answers vec_items o (written_row cs) → Proper v.list → CanAll v cs → IfMemory o (λ bs. SaysRow v cs bs.items)
written_answered v cs (Ok bs) answer proper may =
    let is : bytes_of_changes cs ≡ bs.items = accepted_same _ _ (sym (written_as_bytes v cs proper may) ∙ accepted_from_ok vec_items bs answer) in
    record { bytes = sym is; back = ap (read_row v) (sym is) ∙ written_then_read v cs may }
written_answered v cs (Err e) answer proper may =
    ⊎_elim (λ none. same_error e Memory none) (λ e. absurd (never_accepted (e ∙ written_as_bytes v cs proper may))) answer
  where
    same_error : (e f : Refusal) → ◌≡◌ {A = Result (Vec ℕ Global) Refusal} (Err e) (Err f) → e ≡ f
    same_error e f h = cc

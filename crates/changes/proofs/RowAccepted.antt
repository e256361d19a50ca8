-- What is accepted can be made, and is written as it stood: each change is accepted only from the bytes that it is written by.
-- Assumes nothing.
use Rattle.std.proofs.Common.{Global, IfOk, Ok, Err, Result, Vec, vec_items, ◌≡◌, ℕ, zero, suc, ◌+◌, ◌*◌, ◌/◌, ◌%◌, ◌<◌, ◌≤◌, Bool, true, false, cond, eqb, leb, List, [], ◌∷◌, ◌++◌, length, get_or, drop, sym, refl, ap, ◌∙◌, ⊎_elim, subst, append_assoc, append-nil, arith}
use Rattle.std.proofs.lemmas.List.{drop_all, drop_more}
use Rattle.std.proofs.lemmas.Bool.{cases_lt, eqb-true, le-leb, leb-false, lt-leb}
use Rattle.meetings.specs.declared.numbers.Meeting.{Meeting}
use Rattle.meetings.specs.declared.refusal.Refusal.{Refusal}
use Rattle.meetings.specs.Bytes.{meeting_at}
use Rattle.meetings.specs.Refusals.{Answers, accepted, refused, then}
use Rattle.meetings.specs.RoundTrips.{AllBytes}
use Rattle.meetings.proofs.Accepted.{Met, meeting_accepted}
use Rattle.meetings.proofs.Outcomes.{accepted_from_ok, accepted_same, never_accepted, only_if, then_accepted, unless_refused}
use Rattle.changes.specs.declared.change.Change.{Change}
use Rattle.changes.specs.declared.change.Change.TheVariants.{Add, Drop, GetRoom, GiveRoomUp}
use Rattle.changes.specs.Bytes.{bytes_of_change, bytes_of_changes, change_at, changes_at, id_at, next_at, read_row, width_of}
use Rattle.changes.specs.Numbered.{Numbered, can, changed, rounds_for, tested}
use Rattle.changes.specs.Rows.{CanAll, OnlyWhatCan, ReadThenWritten, TestedAsMade, changed_all, rounds_after}

-- a row that can be made, as it is tested
pub tested_as_made : TestedAsMade
tested_as_made v [] i rs h = ap (λ l. accepted (v, l)) (sym (append-nil rs))
tested_as_made v (c ∷ cs) i rs h =
    let rest = tested_as_made (changed v c) cs (i + 1) (rs ++ rounds_for (changed v c) ∷ []) h.1 in
    rw h.0 (rest ∙ ap (λ l. accepted (changed_all (changed v c) cs, l)) (append_assoc rs (rounds_for (changed v c) ∷ []) (rounds_after (changed v c) cs)))

-- a row that is accepted can be made
pub only_what_can : OnlyWhatCan
only_what_can v [] i rs p e = tt
only_what_can v (c ∷ cs) i rs p e =
    let more = only_if (can v c) 6 i (tested (changed v c) cs (i + 1) (rs ++ rounds_for (changed v c) ∷ [])) p e in
    (more.0, only_what_can (changed v c) cs (i + 1) (rs ++ rounds_for (changed v c) ∷ []) p more.1)

three_bytes : (bs : List ℕ) (at : ℕ) → at + 2 < length bs → drop at bs ≡ get_or bs at 0 ∷ get_or bs (at + 1) 0 ∷ get_or bs (at + 2) 0 ∷ drop (at + 3) bs
three_bytes bs at h =
    let two : at + 1 + 1 ≡ at + 2 = omega arith in
    let three : at + 2 + 1 ≡ at + 3 = omega arith in
    let second : drop (at + 1) bs ≡ get_or bs (at + 1) 0 ∷ drop (at + 2) bs = rw (← two) (drop_more bs (at + 1) 0 (omega arith)) in
    let third : drop (at + 2) bs ≡ get_or bs (at + 2) 0 ∷ drop (at + 3) bs = rw (← three) (drop_more bs (at + 2) 0 h) in
    drop_more bs at 0 (omega arith)
    ∙ ap (λ l. get_or bs at 0 ∷ l) (second ∙ ap (λ l. get_or bs (at + 1) 0 ∷ l) third)

-- a change that is accepted: the bytes that it is written by
module _ (bs : List ℕ) (at : ℕ) (byte : AllBytes bs) (here : at < length bs) (n k z : ℕ) where
  abbrev Stood : Change → Type 0
  Stood c = drop at bs ≡ bytes_of_change c ++ drop (at + width_of c) bs

  stood_meeting : (m : Meeting) → get_or bs at 0 ≡ 0 → Met bs (at + 1) n k m → Stood (Add m)
  stood_meeting m kind met =
      let two : at + 1 + 1 ≡ at + 2 = omega arith in
      let group : m.group.0 ≡ get_or bs (at + 1) 0 = ap (λ (m : Meeting). m.group.0) met.is ∙ met.group_named.1 in
      let station : m.station.0 ≡ get_or bs (at + 2) 0 = ap (λ (m : Meeting). m.station.0) met.is ∙ met.station_named.1 ∙ ap (λ p. get_or bs p 0) two in
      three_bytes bs at (omega (arith, met.station_named.0)) ∙ (rw (kind, group, station) refl)

  stood_add : (c : Change) → get_or bs at 0 ≡ 0 → then (meeting_at bs (at + 1) n k) (λ m. accepted (Add m)) ≡ accepted c → Stood c
  stood_add c kind e =
      let m = then_accepted (meeting_at bs (at + 1) n k) (λ m. accepted (Add m)) c e in
      subst Stood (accepted_same _ _ m.2) (stood_meeting m.0 kind (meeting_accepted bs (at + 1) n k m.0 m.1))

  stood_drop : (c : Change) → get_or bs at 0 ≡ 1 → then (id_at bs (at + 1)) (λ i. accepted (Drop i)) ≡ accepted c → Stood c
  stood_drop c kind e =
      let i = then_accepted (id_at bs (at + 1)) (λ i. accepted (Drop i)) c e in
      let is = unless_refused (leb (length bs) (at + 1 + 1)) 1 (length bs) _ i.0 i.1 in
      let long = leb-false _ _ is.0 in
      let two : at + 1 + 1 ≡ at + 2 = omega arith in
      let low : (get_or bs (at + 1) 0 + 256 * get_or bs (at + 2) 0) % 256 ≡ get_or bs (at + 1) 0 = omega (arith, byte (at + 1)) in
      let high : (get_or bs (at + 1) 0 + 256 * get_or bs (at + 2) 0) / 256 ≡ get_or bs (at + 2) 0 = omega (arith, byte (at + 1)) in
      rw (← accepted_same _ _ i.2, ← accepted_same _ _ is.1) (three_bytes bs at (omega arith) ∙ (rw (kind, two, low, high) refl))

  stood_one : (c d : Change) (x : ℕ) → get_or bs at 0 ≡ x → bytes_of_change c ≡ x ∷ [] → width_of c ≡ 1 → accepted c ≡ accepted d → Stood d
  stood_one c d x kind bytes wide e =
      rw (← accepted_same _ _ e, wide) (drop_more bs at 0 here ∙ ap (λ y. (y ∷ []) ++ drop (at + 1) bs) kind ∙ ap (λ l. l ++ drop (at + 1) bs) (sym bytes))

  -- the kind is one of four
  kinds : (x : ℕ) (a b g f : Bool) → get_or bs at 0 ≡ x → (a ≡ true → x ≡ 0) → (b ≡ true → x ≡ 1) → (g ≡ true → x ≡ 2) → (f ≡ true → x ≡ 3) → (c : Change) → cond a (then (meeting_at bs (at + 1) n k) (λ m. accepted (Add m))) (cond b (then (id_at bs (at + 1)) (λ i. accepted (Drop i))) (cond g (accepted GiveRoomUp) (cond f (accepted GetRoom) (refused 6 z)))) ≡ accepted c → Stood c
  kinds x true b g f is none one two three c e = stood_add c (is ∙ none refl) e
  kinds x false true g f is none one two three c e = stood_drop c (is ∙ one refl) e
  kinds x false false true f is none one two three c e = stood_one GiveRoomUp c 2 (is ∙ two refl) refl refl e
  kinds x false false false true is none one two three c e = stood_one GetRoom c 3 (is ∙ three refl) refl refl e
  kinds x false false false false is none one two three c e = absurd (never_accepted e)

  pub change_accepted : (c : Change) → change_at bs at n k z ≡ accepted c → Stood c
  change_accepted c e =
      let x = get_or bs at 0 in
      kinds x (eqb x 0) (eqb x 1) (eqb x 2) (eqb x 3) refl (eqb-true x 0) (eqb-true x 1) (eqb-true x 2) (eqb-true x 3) c e

-- the changes that the bytes from one place on say
record Said (v : Numbered) (bs : List ℕ) (at : ℕ) (came cs : List Change) : Type 0 where
  pub rest : List Change
  pub whole : cs ≡ came ++ rest
  pub can : CanAll v rest
  pub bytes : drop at bs ≡ bytes_of_changes rest

said_none : (v : Numbered) (bs : List ℕ) (at : ℕ) (came cs : List Change) → length bs ≤ at → accepted came ≡ accepted cs → Said v bs at came cs
said_none v bs at came cs ends e = record {
  rest = [];
  whole = sym (accepted_same _ _ e) ∙ sym (append-nil came);
  can = tt;
  bytes = drop_all at bs ends;
}

said_more : (v : Numbered) (bs : List ℕ) (at : ℕ) (came cs : List Change) (c : Change) → can v c ≡ true → drop at bs ≡ bytes_of_change c ++ drop (at + width_of c) bs → Said (changed v c) bs (at + width_of c) (came ++ c ∷ []) cs → Said v bs at came cs
said_more v bs at came cs c may stood more = record {
  rest = c ∷ more.rest;
  whole = more.whole ∙ append_assoc came (c ∷ []) more.rest;
  can = (may, more.can);
  bytes = stood ∙ ap (λ l. bytes_of_change c ++ l) more.bytes;
}

pub wide : (c : Change) → 1 ≤ width_of c
wide (Add m) = omega arith
wide (Drop i) = omega arith
wide GiveRoomUp = omega arith
wide GetRoom = omega arith

-- the next change, which can be made
pub next_accepted : (v : Numbered) (bs : List ℕ) (at z : ℕ) (c : Change) → next_at v bs at z ≡ accepted c → (change_at bs at v.list.groups v.list.stations z ≡ accepted c) × (can v c ≡ true)
next_accepted v bs at z c e =
    let one = then_accepted (change_at bs at v.list.groups v.list.stations z) (λ c. cond (can v c) (accepted c) (refused 6 z)) c e in
    let may = only_if (can v one.0) 6 z (accepted one.0) c one.2 in
    (one.1 ∙ may.1, ap (can v) (sym (accepted_same one.0 c may.1)) ∙ may.0)

changes_accepted : (left : ℕ) (v : Numbered) (bs : List ℕ) (at : ℕ) (came cs : List Change) → AllBytes bs → length bs ≤ at + left → changes_at v bs left at came ≡ accepted cs → Said v bs at came cs
changes_accepted zero v bs at came cs byte enough e = said_none v bs at came cs (omega arith) e
changes_accepted (suc left) v bs at came cs byte enough e =
    ⊎_elim
    (λ here.
    let one = then_accepted (next_at v bs at (length came)) (λ c. changes_at (changed v c) bs left (at + width_of c) (came ++ c ∷ [])) cs (rw (lt-leb (length bs) at here) at e) in
    let c = one.0 in
    let next = next_accepted v bs at (length came) c one.1 in
    said_more v bs at came cs c next.1 (change_accepted bs at byte here v.list.groups v.list.stations (length came) c next.0)
    (changes_accepted left (changed v c) bs (at + width_of c) (came ++ c ∷ []) cs byte (omega (arith, wide c)) one.2))
    (λ ends. said_none v bs at came cs ends (rw (le-leb (length bs) at ends) at e))
    (cases_lt at (length bs))

pub read_then_written : ReadThenWritten
read_then_written v bs cs byte e =
    let said = changes_accepted (length bs) v bs 0 [] cs byte (omega arith) e in
    let all : cs ≡ said.rest = said.whole in
    rw all (said.can, sym said.bytes)

-- of what is answered, if anything is: it is written as it stood, and it can be made
module _ (v : Numbered) (bs : List ℕ) (byte : AllBytes bs) where
  pub read_back : (o : Result (Vec Change Global) Refusal) → Answers vec_items o (read_row v bs) → IfOk o (λ cs. bytes_of_changes cs.items ≡ bs)
  read_back (Ok cs) answer = (read_then_written v bs cs.items byte (accepted_from_ok vec_items cs answer)).1
  read_back (Err e) answer = tt

  pub read_can : (o : Result (Vec Change Global) Refusal) → Answers vec_items o (read_row v bs) → IfOk o (λ cs. CanAll v cs.items)
  read_can (Ok cs) answer = (read_then_written v bs cs.items byte (accepted_from_ok vec_items cs answer)).0
  read_can (Err e) answer = tt

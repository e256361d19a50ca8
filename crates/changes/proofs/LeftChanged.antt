-- What a change leaves is a proper list with a mark for each meeting; an added meeting comes behind those that there are, and a
-- dropped one goes from among them. So a tally of those that there are stays one. Assumes nothing.
use Rattle.std.proofs.Common.{◌≡◌, ℕ, zero, suc, ◌+◌, ◌<◌, Bool, true, false, ◌&&◌, eqb, ltb, List, [], ◌∷◌, ◌++◌, length, get_or, set, count_by, refl, ap, ◌∙◌, ⊎_elim, arith}
use Rattle.std.proofs.lemmas.Bool.{and_parts, both_ways, cases_lt, ltb-true}
use Rattle.std.proofs.lemmas.List.{get_or_past, length-append, length-set}
use Rattle.std.proofs.lemmas.List.Sums.{sum_by-append, sum_by-cons}
use Rattle.meetings.specs.declared.numbers.Meeting.{Meeting}
use Rattle.meetings.specs.declared.numbers.MeetingId.{MeetingId}
use Rattle.meetings.specs.declared.numbers.Side.{Side}
use Rattle.meetings.specs.declared.numbers.Side.TheVariants.{Groups, Stations}
use Rattle.meetings.specs.Lists.{Exist, Proper, most_meetings, nobody, parties, party}
use Rattle.fewest.specs.Counting.{one_if}
use Rattle.fewest.specs.Rounds.{meetings_of}
use Rattle.fewest.proofs.OneCounted.{OneApart, one_pushed}
use Rattle.changes.specs.declared.change.Change.{Change}
use Rattle.changes.specs.declared.change.Change.TheVariants.{Add, Drop, GetRoom, GiveRoomUp}
use Rattle.changes.specs.Numbered.{Numbered, can, changed, left, those}
use Rattle.changes.specs.Rows.{CanAll, changed_all}
use Rattle.changes.proofs.ProperAfter.{proper_after}

module _ {A : Type 0} where
  -- a marked element at the end
  those_pushed : (bs : List Bool) (xs : List A) (x : A) → length bs ≡ length xs → those (bs ++ true ∷ []) (xs ++ x ∷ []) ≡ those bs xs ++ x ∷ []
  those_pushed [] [] x e = refl
  those_pushed [] (y ∷ xs) x e = absurd (omega arith)
  those_pushed (b ∷ bs) [] x e = absurd (omega arith)
  those_pushed (true ∷ bs) (y ∷ xs) x e = ap (λ l. y ∷ l) (those_pushed bs xs x (omega arith))
  those_pushed (false ∷ bs) (y ∷ xs) x e = those_pushed bs xs x (omega arith)

  -- a mark is taken away: the element goes from between those before it and those behind it
  record Without (bs : List Bool) (xs : List A) (d : A) (i : ℕ) : Type 0 where
    pub front : List A
    pub back : List A
    pub before : those bs xs ≡ front ++ get_or xs i d ∷ back
    pub after : those (set bs i false) xs ≡ front ++ back

  those_without : (bs : List Bool) (xs : List A) (d : A) (i : ℕ) → length bs ≡ length xs → get_or bs i false ≡ true → Without bs xs d i
  those_without [] xs d i e h = absurd (both_ways (get_or [] i false) refl h)
  those_without (b ∷ bs) [] d i e h = absurd (omega arith)
  those_without (false ∷ bs) (x ∷ xs) d zero e h = absurd (both_ways false refl h)
  those_without (true ∷ bs) (x ∷ xs) d zero e h = record { front = []; back = those bs xs; before = refl; after = refl }
  those_without (false ∷ bs) (x ∷ xs) d (suc i) e h =
      let rest = those_without bs xs d i (omega arith) h in
      record { front = rest.front; back = rest.back; before = rest.before; after = rest.after }
  those_without (true ∷ bs) (x ∷ xs) d (suc i) e h =
      let rest = those_without bs xs d i (omega arith) h in
      record { front = x ∷ rest.front; back = rest.back; before = ap (λ l. x ∷ l) rest.before; after = ap (λ l. x ∷ l) rest.after }

  without_many : (bs : List Bool) (xs : List A) (d : A) (i : ℕ) → Without bs xs d i → suc (length (those (set bs i false) xs)) ≡ length (those bs xs)
  without_many bs xs d i w =
      omega (arith, ap length w.before, ap length w.after, length-append w.front w.back, length-append w.front (get_or xs i d ∷ w.back))

  without_counted : (q : A → Bool) (bs : List Bool) (xs : List A) (d : A) (i : ℕ) → Without bs xs d i → count_by q (those bs xs) ≡ count_by q (those (set bs i false) xs) + one_if (q (get_or xs i d))
  without_counted q bs xs d i w =
      let f = λ (x : A). one_if (q x) in
      omega (arith, ap (count_by q) w.before, ap (count_by q) w.after, sum_by-append f w.front w.back, sum_by-append f w.front (get_or xs i d ∷ w.back), sum_by-cons f (get_or xs i d) w.back)

-- where an added meeting's parties exist
pub record CanAdd (v : Numbered) (m : Meeting) : Type 0 where
  pub exist : (s : Side) → party s m < parties s v.list.groups v.list.stations
  pub few : length v.list.meetings < most_meetings

pub can_add : (v : Numbered) (m : Meeting) → can v (Add m) ≡ true → CanAdd v m
can_add v m h =
    let both = and_parts (ltb m.group.0 v.list.groups && ltb m.station.0 v.list.stations) (ltb (length v.list.meetings) most_meetings) h in
    let parties = and_parts (ltb m.group.0 v.list.groups) (ltb m.station.0 v.list.stations) both.0 in
    record { exist = each (ltb-true _ _ parties.0) (ltb-true _ _ parties.1); few = ltb-true _ _ both.1 }
  where
    each : m.group.0 < v.list.groups → m.station.0 < v.list.stations → (s : Side) → party s m < parties s v.list.groups v.list.stations
    each g t Groups = g
    each g t Stations = t

module _ (v : Numbered) (long : length v.there ≡ length v.list.meetings) where
  -- as many marks as meetings
  pub long_changed : (c : Change) → length (changed v c).there ≡ length (changed v c).list.meetings
  long_changed (Add m) = omega (arith, length-append v.there (true ∷ []), length-append v.list.meetings (m ∷ []))
  long_changed (Drop i) = length-set v.there i.0 false ∙ long
  long_changed GiveRoomUp = long
  long_changed GetRoom = long

  -- an added meeting is at the end
  pub left_added : (m : Meeting) → (left (changed v (Add m))).meetings ≡ (left v).meetings ++ m ∷ []
  left_added m = those_pushed v.there v.list.meetings m long

  pub added_apart : (m : Meeting) → can v (Add m) ≡ true → OneApart (left v) (left (changed v (Add m))) m
  added_apart m h = let apart = one_pushed (left v) m (can_add v m h).exist in record {
    groups = refl;
    stations = refl;
    exist = apart.exist;
    each = λ s p. ap (meetings_of s p) (left_added m) ∙ apart.each s p;
  }

  -- a dropped one was there
  pub drop_here : (i : MeetingId) → can v (Drop i) ≡ true → i.0 < length v.list.meetings
  drop_here i h =
      ⊎_elim (λ below. below) (λ past. absurd (both_ways (get_or v.there i.0 false) (get_or_past v.there i.0 false (omega arith)) h)) (cases_lt i.0 (length v.list.meetings))

  pub dropped_many : (i : MeetingId) → can v (Drop i) ≡ true → suc (length (left (changed v (Drop i))).meetings) ≡ length (left v).meetings
  dropped_many i h = without_many v.there v.list.meetings nobody i.0 (those_without v.there v.list.meetings nobody i.0 long h)

  pub dropped_apart : (i : MeetingId) → Exist v.list.groups v.list.stations v.list.meetings → can v (Drop i) ≡ true → OneApart (left (changed v (Drop i))) (left v) (get_or v.list.meetings i.0 nobody)
  dropped_apart i exist h = record {
    groups = refl;
    stations = refl;
    exist = λ s. exist s i.0 (drop_here i h);
    each = λ s p. without_counted (λ m. eqb (party s m) p) v.there v.list.meetings nobody i.0 (those_without v.there v.list.meetings nobody i.0 long h);
  }

-- the same after a row that can be made
pub made_proper : (v : Numbered) (cs : List Change) → length v.there ≡ length v.list.meetings → Proper v.list → CanAll v cs → Proper (changed_all v cs).list
made_proper v [] long proper may = proper
made_proper v (c ∷ cs) long proper may =
    made_proper (changed v c) cs (long_changed v long c) (proper_after v c proper may.0) may.1

-- One turn of a row of changes: what is left tells what the whole tells, and ends in its last day. Assumes nothing.
use Rattle.std.proofs.Common.{◌≡◌, ℕ, ◌+◌, ◌-◌, ◌<◌, ◌≤◌, true, eqb, List, [], ◌∷◌, ◌++◌, length, get_or, take, drop, replicate, sym, refl, ap, vec_items, ◌∙◌, subst, ⊎_elim, arith}
use Rattle.std.proofs.lemmas.List.{append-nil, append_assoc, drop-drop, drop_all, get_or-drop, get_or_default, get_or_append_left, get_or_past, get_or_push, length-append, length-drop, length-replicate, length-take-le}
use Rattle.std.proofs.lemmas.List.Sums.{sum_by-append, sum_by-cons}
use Rattle.std.proofs.lemmas.Bool.{cases_eq, cases_lt, ne_eqb}
use Rattle.meetings.specs.declared.numbers.Meeting.{Meeting}
use Rattle.meetings.specs.declared.numbers.Side.TheVariants.{Groups, Stations}
use Rattle.meetings.specs.Lists.{Contents, nobody, party}
use Rattle.fewest.specs.Counting.{one_if}
use Rattle.fewest.specs.Plans.{none, in_round}
use Rattle.chains.specs.declared.shapes.Shape.{Shape}
use Rattle.chains.specs.Partial.{round_of}
use Rattle.chains.specs.Rows.{Beyond, Holds, ManyWithin}
use Rattle.chains.proofs.BoardGrown.{board_grown}
use Rattle.balance.specs.Lent.{BoardLent}
use Rattle.balance.proofs.Counted.{are_sizes, size_at, sizes_long}
use Rattle.changes.specs.declared.change.Change.{Change}
use Rattle.changes.specs.declared.change.Change.TheVariants.{Add, Drop, GetRoom, GiveRoomUp}
use Rattle.changes.specs.declared.changed.Changed.{Changed}
use Rattle.changes.specs.declared.kept.Kept.{Kept}
use Rattle.changes.specs.Days.{Day, Stands, numbered}
use Rattle.changes.specs.Keeping.{Beside}
use Rattle.changes.specs.Making.{after, grown}
use Rattle.changes.specs.MakingOn.{AfterChange, BeforeChange}
use Rattle.changes.specs.Numbered.{Numbered, can, changed, list_after, rounds_for}
use Rattle.changes.specs.RowOn.{CanMakeRow, added}
use Rattle.changes.specs.Rows.{CanAll, changed_all, rounds_after}
use Rattle.changes.specs.Statements.{ChangeStands}
use Rattle.changes.specs.Told.{last_day, told}
use Rattle.changes.proofs.NextDay.{next_stands, proper_then}
use Rattle.changes.proofs.Noted.{meetings_kept}
use Rattle.changes.proofs.ProperAfter.{groups_kept, stations_kept}
use Rattle.changes.proofs.RowParts.{first_meetings, first_rounds, meetings_below, rest_rounds}

-- before change t the day is e
pub record MakingRow (d : Day) (cs : List Change) (ms : List Meeting) (rs : List ℕ) (z : Shape) (xs gs gs' ss ss' : List ℕ) (k : Kept) (m s n from t : ℕ) (before now : List Changed) : Type 0 where
  pub e : Day
  pub ready : CanMakeRow e (drop t cs) ms (drop t rs) z xs from
  pub held : Holds e.list.meetings z e.at gs' ss'
  pub group_rest : Beyond z.groups z.group_width gs gs'
  pub station_rest : Beyond z.stations z.station_width ss ss'
  pub beside : Beside z e.at k m s
  pub many : n ≡ length e.list.meetings
  pub few_rounds : from ≤ s
  pub told : now ++ told e (drop t cs) ≡ before ++ told d cs
  pub last : last_day e (drop t cs) ≡ last_day d cs
  pub long : length now ≡ length before + t

-- how many meetings have a number after a change
added_many : (d : Contents) (c : Change) → length d.meetings + added c ≡ length (list_after d c).meetings
added_many d (Add x) = sym (length-append d.meetings (x ∷ []))
added_many d (Drop i) = omega arith
added_many d GiveRoomUp = omega arith
added_many d GetRoom = omega arith

-- a meeting more, without a round, changes no size
grown_size : (xs : List ℕ) (c : Change) (a : ℕ) → a < none → in_round a (grown xs c) ≡ in_round a xs
grown_size xs (Add m) a few = omega (arith, sum_by-append (λ x. one_if (eqb x a)) xs (none ∷ []), sum_by-cons (λ x. one_if (eqb x a)) none [], ap one_if (ne_eqb none a (λ e. omega arith)))
grown_size xs (Drop i) a few = refl
grown_size xs GiveRoomUp a few = refl
grown_size xs GetRoom a few = refl

grown_round : (xs : List ℕ) (c : Change) (i : ℕ) → round_of (grown xs c) i ≡ round_of xs i
grown_round xs (Add m) i = ⊎_elim (λ h. get_or_append_left xs (none ∷ []) none i h) (λ past. ⊎_elim (λ this. get_or_push xs none none i (sym this)) (λ more. get_or_past (xs ++ none ∷ []) i none (omega (arith, length-append xs (none ∷ [])))) (cases_eq i (length xs)) ∙ sym (get_or_past xs i none past)) (cases_lt i (length xs))
grown_round xs (Drop j) i = refl
grown_round xs GiveRoomUp i = refl
grown_round xs GetRoom i = refl

-- the board for the meetings after the change
grown_board : (d : Day) (c : Change) (z : Shape) (gs ss : List ℕ) → Stands d → can (numbered d) c ≡ true → z.groups ≡ d.list.groups → z.stations ≡ d.list.stations → Holds d.list.meetings z d.at gs ss → Holds (list_after d.list c).meetings z (grown d.at c) gs ss
grown_board d (Add x) z gs ss stands may groups stations held =
    let proper = proper_then d (Add x) stands may in
    let long = length-append d.list.meetings (x ∷ []) in
    let last : length d.list.meetings < length (d.list.meetings ++ x ∷ []) = omega (arith, long) in
    let group = proper.exist Groups (length d.list.meetings) last in
    let station = proper.exist Stations (length d.list.meetings) last in
    board_grown d.list.meetings x z d.at gs ss (omega (arith, proper.few, long)) (omega (arith, group, groups, ap (party Groups) (get_or_push d.list.meetings x nobody (length d.list.meetings) refl))) (omega (arith, station, stations, ap (party Stations) (get_or_push d.list.meetings x nobody (length d.list.meetings) refl))) held
grown_board d (Drop i) z gs ss stands may groups stations held = held
grown_board d GiveRoomUp z gs ss stands may groups stations held = held
grown_board d GetRoom z gs ss stands may groups stations held = held

module _ (d : Day) (cs : List Change) (ms : List Meeting) (rs : List ℕ) (z : Shape) (xs gs gs' ss ss' : List ℕ) (k : Kept) (m s n from t : ℕ) (before now : List Changed) (so_far : MakingRow d cs ms rs z xs gs gs' ss ss' k m s n from t before now) (c : Change) (first : drop t cs ≡ c ∷ drop (t + 1) cs) where
  abbrev e : Day
  e = so_far.e

  abbrev v : Numbered
  v = changed (numbered e) c

  ready : CanMakeRow e (c ∷ drop (t + 1) cs) ms (drop t rs) z xs from
  ready = subst (λ l. CanMakeRow e l ms (drop t rs) z xs from) first so_far.ready

  -- the number of rounds after it is the next
  rounds_first : drop t rs ≡ rounds_for v ∷ rounds_after v (drop (t + 1) cs)
  rounds_first = ready.after

  to_is : get_or rs t 0 ≡ rounds_for v
  to_is = let at : t ≡ t + 0 = omega arith in ap (λ i. get_or rs i 0) at ∙ sym (get_or-drop t rs 0 0) ∙ ap (λ l. get_or l 0 0) rounds_first

  pub more_rounds : t < length rs
  more_rounds = omega (arith, length-drop t rs, ap length rounds_first)

  rounds_rest : drop (t + 1) rs ≡ rounds_after v (drop (t + 1) cs)
  rounds_rest = sym (drop-drop 1 t rs) ∙ ap (drop 1) rounds_first

  pub many_then : (n' : ℕ) → n' ≡ n + added c → n' ≡ length v.list.meetings
  many_then n' is = is ∙ ap (λ m. m + added c) so_far.many ∙ added_many e.list c

  pub few_then : n ≤ none
  few_then = omega (arith, so_far.many, so_far.held.few)

  -- of all meetings the first are those that have a number then
  module _ (n' : ℕ) (many : n' ≡ length v.list.meetings) where
    pub meetings_first : take n' ms ≡ v.list.meetings
    meetings_first = first_meetings v (drop (t + 1) cs) ms n' ready.all many

    pub enough : n' ≤ length ms
    enough = omega (arith, many, meetings_below v (drop (t + 1) cs), ap length ready.all)

    pub xs_first : take n' xs ≡ grown e.at c
    xs_first = ap (λ n. take n xs) many ∙ first_rounds e.list e.at c xs (length ms) ready.stands.partial.each ready.at (omega (arith, many, enough))

    pub long_rounds : length xs ≡ length ms
    long_rounds = ap length ready.at ∙ length-append e.at (replicate (length ms - length e.at) none) ∙ omega (arith, length-replicate (length ms - length e.at) none, ready.stands.partial.each, meetings_kept e.list c, enough, many)

    pub before_change : BeforeChange e c (take n' ms) z (take n' xs) from (get_or rs t 0)
    before_change = record {
      stands = ready.stands;
      may = ready.can.0;
      meetings = meetings_first;
      rounds = xs_first;
      groups = ready.groups;
      stations = ready.stations;
      now = ready.now;
      then = to_is;
      within_now = ready.within_now;
      within_then = subst (ManyWithin z) (sym (let at : t ≡ t + 0 = omega arith in ap (λ i. get_or rs i 0) at ∙ sym (get_or-drop t rs 0 0))) (ready.within 0 (omega (arith, ap length rounds_first)));
    }

    pub held_first : Holds (take n' ms) z (take n' xs) gs' ss'
    held_first = subst (λ ms. Holds ms z (take n' xs) gs' ss') (sym meetings_first) (subst (λ xs. Holds v.list.meetings z xs gs' ss') (sym xs_first) (grown_board e c z gs' ss' ready.stands ready.can.0 ready.groups ready.stations so_far.held))

    pub beside_first : s ≤ none → Beside z (take n' xs) k m s
    beside_first few = subst (λ xs. Beside z xs k m s) (sym xs_first) (record {
      room = so_far.beside.room;
      sizes = are_sizes s (grown e.at c) (vec_items k.sizes) (ap length so_far.beside.sizes ∙ sizes_long s e.at) (λ a h. ap (λ l. get_or l a 0) so_far.beside.sizes ∙ size_at s e.at a 0 h ∙ sym (grown_size e.at c a (omega arith)));
      before = λ i. so_far.beside.before i ∙ sym (grown_round e.at c i);
    })

    -- AND THEN the next change can be made
    pub making_more : get_or rs t 0 ≤ s → (ys gs'' ss'' : List ℕ) (k' : Kept) (one : Changed) → AfterChange e c ys one → BoardLent (take n' ms) z ys gs' gs'' ss' ss'' → Beside z ys k' m s → MakingRow d cs ms rs z (ys ++ drop n' xs) gs gs'' ss ss'' k' m s n' (get_or rs t 0) (t + 1) before (now ++ one ∷ [])
    making_more few ys gs'' ss'' k' one made rows beside = record {
      e = (after e c).day;
      ready = record {
        stands = next.stands;
        can = subst (λ w. CanAll w (drop (t + 1) cs)) (sym next.list) ready.can.1;
        all = ready.all ∙ ap (λ w. (changed_all w (drop (t + 1) cs)).list.meetings) (sym next.list);
        after = rounds_rest ∙ ap (λ w. rounds_after w (drop (t + 1) cs)) (sym next.list);
        at = ap (λ l. l ++ drop n' xs) made.rounds ∙ ap (λ l. (after e c).day.at ++ l) (rest_rounds e.at xs (length ms) n' (omega (arith, many, meetings_kept e.list c, ready.stands.partial.each)) ready.at ∙ ap (λ j. replicate (length ms - j) none) (many ∙ sym next_long));
        groups = ready.groups ∙ sym (groups_kept e.list c) ∙ ap (λ (l : Contents). l.groups) (sym same_list);
        stations = ready.stations ∙ sym (stations_kept e.list c) ∙ ap (λ (l : Contents). l.stations) (sym same_list);
        now = to_is ∙ ap rounds_for (sym next.list);
        within_now = before_change.within_then;
        within = λ i h. subst (ManyWithin z) (let same : t + (1 + i) ≡ (t + 1) + i = omega arith in get_or-drop t rs (1 + i) 0 ∙ ap (λ j. get_or rs j 0) same ∙ sym (get_or-drop (t + 1) rs i 0)) (ready.within (1 + i) (omega (arith, length-drop t rs, length-drop (t + 1) rs)));
      };
      held = subst (λ ms. Holds ms z (after e c).day.at gs'' ss'') (meetings_first ∙ ap (λ (l : Contents). l.meetings) (sym same_list)) (subst (λ ys. Holds (take n' ms) z ys gs'' ss'') made.rounds rows.board);
      group_rest = (rows.group_rest.0 ∙ so_far.group_rest.0, rows.group_rest.1 ∙ so_far.group_rest.1);
      station_rest = (rows.station_rest.0 ∙ so_far.station_rest.0, rows.station_rest.1 ∙ so_far.station_rest.1);
      beside = subst (λ ys. Beside z ys k' m s) made.rounds beside;
      many = many ∙ ap (λ (l : Contents). length l.meetings) (sym same_list);
      few_rounds = few;
      told = append_assoc now (one ∷ []) (told (after e c).day (drop (t + 1) cs)) ∙ ap (λ o. now ++ (o ∷ told (after e c).day (drop (t + 1) cs))) made.told ∙ ap (λ l. now ++ told e l) (sym first) ∙ so_far.told;
      last = ap (last_day e) (sym first) ∙ so_far.last;
      long = length-append now (one ∷ []) ∙ omega (arith, so_far.long);
    }
      where
        next : ChangeStands e c (after e c)
        next = next_stands e c ready.stands ready.can.0

        same_list : (after e c).day.list ≡ v.list
        same_list = ap (λ (w : Numbered). w.list) next.list

        next_long : length (after e c).day.at ≡ length v.list.meetings
        next_long = next.stands.partial.each ∙ ap (λ (l : Contents). length l.meetings) same_list

-- what one turn asks, of the first n' meetings and rounds
pub record TurnReady (ms ms' : List Meeting) (z : Shape) (xs gs ss : List ℕ) (k : Kept) (m s n' from to : ℕ) (e : Day) (c : Change) : Type 0 where
  pub meetings_enough : n' ≤ length ms'
  pub before : BeforeChange e c (take (n' - 0) ms') z (take (n' - 0) xs) from to
  pub held : Holds (take (n' - 0) ms') z (take (n' - 0) xs) gs ss
  pub beside : Beside z (take (n' - 0) xs) k (length (vec_items k.before)) (length (vec_items k.sizes))
  pub long : length (take (n' - 0) ms') ≤ length (vec_items k.before)
  pub to_few : to ≤ length (vec_items k.sizes)
  pub few : length (vec_items k.sizes) ≤ none

module _ (d : Day) (cs : List Change) (ms ms' : List Meeting) (rs : List ℕ) (z : Shape) (xs gs gs' ss ss' : List ℕ) (k : Kept) (m s n from t : ℕ) (before now : List Changed) (so_far : MakingRow d cs ms rs z xs gs gs' ss ss' k m s n from t before now) (c : Change) (first : drop t cs ≡ c ∷ drop (t + 1) cs) (n' to : ℕ) (is : n' ≡ n + added c) (same : ms' ≡ ms) (next : to ≡ get_or rs t to) where
  many : n' ≡ length (changed (numbered so_far.e) c).list.meetings
  many = many_then d cs ms rs z xs gs gs' ss ss' k m s n from t before now so_far c first n' is

  whole : n' - 0 ≡ n'
  whole = omega arith

  pub to_first : to ≡ get_or rs t 0
  to_first = next ∙ get_or_default rs t to 0 (more_rounds d cs ms rs z xs gs gs' ss ss' k m s n from t before now so_far c first)

  pub turn_ready : length ms ≤ m → s ≤ none → ((i : ℕ) → i < length rs → get_or rs i 0 ≤ s) → TurnReady ms ms' z xs gs' ss' k m s n' from to so_far.e c
  turn_ready long few all = record {
    meetings_enough = omega (arith, le, ap length same);
    before = rw (whole, same, to_first) (before_change d cs ms rs z xs gs gs' ss ss' k m s n from t before now so_far c first n' many);
    held = rw (whole, same) (held_first d cs ms rs z xs gs gs' ss ss' k m s n from t before now so_far c first n' many);
    beside = rw (whole, so_far.beside.room.meetings, so_far.beside.room.rounds) (beside_first d cs ms rs z xs gs gs' ss ss' k m s n from t before now so_far c first n' many few);
    long = omega (arith, length-take-le (n' - 0) ms' (omega (arith, le, ap length same)), le, long, so_far.beside.room.meetings);
    to_few = omega (arith, to_first, all t (more_rounds d cs ms rs z xs gs gs' ss ss' k m s n from t before now so_far c first), so_far.beside.room.rounds);
    few = omega (arith, few, so_far.beside.room.rounds);
  }
    where
      le : n' ≤ length ms
      le = enough d cs ms rs z xs gs gs' ss ss' k m s n from t before now so_far c first n' many

  pub turn_made : ((i : ℕ) → i < length rs → get_or rs i 0 ≤ s) → (ys gs'' ss'' : List ℕ) (k' : Kept) (one : Changed) → AfterChange so_far.e c ys one → BoardLent (take (n' - 0) ms') z ys gs' gs'' ss' ss'' → Beside z ys k' (length (vec_items k.before)) (length (vec_items k.sizes)) → MakingRow d cs ms rs z (ys ++ drop (n' - 0) xs) gs gs'' ss ss'' k' m s n' to (t + 1) before (now ++ one ∷ [])
  turn_made all ys gs'' ss'' k' one made rows beside =
      rw (whole, to_first) (making_more d cs ms rs z xs gs gs' ss ss' k m s n from t before now so_far c first n' many (all t (more_rounds d cs ms rs z xs gs gs' ss ss' k m s n from t before now so_far c first)) ys gs'' ss'' k' one made (subst (λ l. BoardLent l z ys gs' gs'' ss' ss'') (ap (λ j. take j ms') whole ∙ ap (take n') same) rows) (subst (λ l. Beside z ys k' l s) so_far.beside.room.meetings (subst (λ l. Beside z ys k' (length (vec_items k.before)) l) so_far.beside.room.rounds beside)))

-- when all are made the slices are those of the last day
pub row_made : (d : Day) (cs : List Change) (ms : List Meeting) (rs : List ℕ) (z : Shape) (xs gs gs' ss ss' : List ℕ) (k : Kept) (m s n from t : ℕ) (before now : List Changed) → length cs ≤ t → MakingRow d cs ms rs z xs gs gs' ss ss' k m s n from t before now → BoardLent ms z xs gs gs' ss ss'
row_made d cs ms rs z xs gs gs' ss ss' k m s n from t before now all so_far = record {
  board = subst (λ ms. Holds ms z xs gs' ss') (sym meetings_last) (subst (λ xs. Holds so_far.e.list.meetings z xs gs' ss') (sym rounds_last) so_far.held);
  group_rest = so_far.group_rest;
  station_rest = so_far.station_rest;
}
  where
    nothing : drop t cs ≡ []
    nothing = drop_all t cs all

    meetings_last : ms ≡ so_far.e.list.meetings
    meetings_last = so_far.ready.all ∙ ap (λ l. (changed_all (numbered so_far.e) l).list.meetings) nothing

    rounds_last : xs ≡ so_far.e.at
    rounds_last = so_far.ready.at ∙ ap (λ j. so_far.e.at ++ replicate j none) (let none_more : length ms - length so_far.e.at ≡ 0 = omega (arith, ap length meetings_last, so_far.ready.stands.partial.each) in none_more) ∙ append-nil so_far.e.at

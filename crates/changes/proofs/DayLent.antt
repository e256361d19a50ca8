-- What the lent slices hold after a day of changes: first the plan of the list, then the rounds of the last day. Assumes nothing.
use Rattle.std.proofs.Common.{Err, Global, IfOk, MatchResult, Ok, Result, Vec, max, ◌≡◌, ℕ, ◌+◌, ◌-◌, ◌*◌, ◌≤◌, List, [], ◌∷◌, ◌++◌, length, drop, take, vec_items, sym, refl, ap, ◌∙◌, subst, arith}
use Rattle.std.proofs.lemmas.List.{take-append-le, take_all}
use Rattle.std.proofs.lemmas.Slice.{drop-append-drop}
use Rattle.std.proofs.Math.Seq.{take-append-add}
use Rattle.meetings.specs.declared.numbers.Meeting.{Meeting}
use Rattle.meetings.specs.declared.list.MeetingList.{MeetingList}
use Rattle.meetings.specs.declared.refusal.Refusal.{Refusal}
use Rattle.meetings.specs.Held.{contents}
use Rattle.meetings.specs.Lists.{Contents, Proper}
use Rattle.meetings.specs.Refusals.{Answers, accepted, then}
use Rattle.meetings.proofs.Holds.{proper}
use Rattle.meetings.proofs.Outcomes.{accepted_from_ok, accepted_same, then_accepted}
use Rattle.fewest.specs.Rounds.{fewest, largest}
use Rattle.chains.specs.declared.shapes.Shape.{Shape}
use Rattle.chains.specs.Rows.{Beyond, Holds}
use Rattle.chains.specs.Shapes.{lent_shape, shape_of}
use Rattle.balance.specs.Lent.{BoardLent, PlannedLent, Unchanged, plan_of}
use Rattle.changes.specs.declared.change.Change.{Change}
use Rattle.changes.specs.declared.changed.Changed.{Changed}
use Rattle.changes.specs.Days.{Day, Stands, first_day, numbered}
use Rattle.changes.specs.Making.{after}
use Rattle.changes.specs.Numbered.{Numbered, tested, whole}
use Rattle.changes.specs.Rows.{CanAll, changed_all}
use Rattle.changes.specs.Told.{ChangedLent, Promised, RowPromised, answer_of, last_day, told}
use Rattle.changes.proofs.FirstDay.{first_numbered, first_stands}
use Rattle.changes.proofs.NextDay.{next_stands}
use Rattle.changes.proofs.RowAccepted.{only_what_can}

-- the last day stands, and has the meetings that the row comes to
pub last_stands : (d : Day) (cs : List Change) → Stands d → CanAll (numbered d) cs → Stands (last_day d cs) × (numbered (last_day d cs) ≡ changed_all (numbered d) cs)
last_stands d [] stands can = (stands, refl)
last_stands d (c ∷ cs) stands can =
    let next = next_stands d c stands can.0 in
    let rest = last_stands (after d c).day cs next.stands (subst (λ v. CanAll v cs) (sym next.list) can.1) in
    (rest.0, rest.1 ∙ ap (λ v. changed_all v cs) next.list)

-- each change is told as it was made
pub promised : (d : Day) (cs : List Change) → Stands d → CanAll (numbered d) cs → Promised d cs (told d cs) (last_day d cs)
promised d [] stands can = refl
promised d (c ∷ cs) stands can =
    let next = next_stands d c stands can.0 in
    (after d c, next, refl, promised (after d c).day cs next.stands (subst (λ v. CanAll v cs) (sym next.list) can.1))

module _ (d : Contents) (cs : List Change) (proper : Proper d) (can : CanAll (whole d) cs) where
  can_first : CanAll (numbered (first_day d)) cs
  can_first = subst (λ v. CanAll v cs) (sym (first_numbered d proper)) can

  pub last_list : (last_day (first_day d) cs).list ≡ (changed_all (whole d) cs).list
  last_list = ap (λ (v : Numbered). v.list) ((last_stands (first_day d) cs (first_stands d proper) can_first).1 ∙ ap (λ v. changed_all v cs) (first_numbered d proper))

  last_each : length (last_day (first_day d) cs).at ≡ length (last_day (first_day d) cs).list.meetings
  last_each = (last_stands (first_day d) cs (first_stands d proper) can_first).0.partial.each

  plan_long : length (plan_of d).rounds ≡ length d.meetings
  plan_long = (first_stands d proper).partial.each

  module _ (xs xs1 gs gs1 ss ss1 : List ℕ) (planned : PlannedLent d xs xs1 gs gs1 ss ss1) (many : ℕ) (more : length d.meetings ≤ many) where
    -- the plan is in the first of the lent rounds
    pub plan_first : take (length d.meetings) (take (many - 0) xs1) ≡ (plan_of d).rounds
    plan_first =
        let split : many - 0 ≡ length (plan_of d).rounds + (many - length d.meetings) = omega (arith, plan_long) in
        ap (take (length d.meetings)) (ap (take (many - 0)) planned.rounds ∙ ap (λ k. take k ((plan_of d).rounds ++ drop (length d.meetings) xs)) split ∙ take-append-add (plan_of d).rounds (drop (length d.meetings) xs) (many - length d.meetings))
        ∙ take-append-le (length d.meetings) (plan_of d).rounds _ (omega (arith, plan_long))
        ∙ take_all (length d.meetings) (plan_of d).rounds (omega (arith, plan_long))

    pub plan_held : (z : Shape) → z ≡ shape_of d (length gs) (length ss) → Holds d.meetings z (first_day d).at gs1 ss1
    plan_held z is = rw is planned.rows.board

    -- AND THEN the last day is
    pub day_lent : (z : Shape) (ms : List Meeting) (ys gs2 ss2 : List ℕ) → z ≡ shape_of d (length gs) (length ss) → many ≡ length ms → ms ≡ (changed_all (whole d) cs).list.meetings → ys ≡ (last_day (first_day d) cs).at → BoardLent ms z ys gs1 gs2 ss1 ss2 → ChangedLent d cs xs (ys ++ drop (many - 0) xs1) gs gs2 ss ss2
    day_lent z ms ys gs2 ss2 is many_is all last rows = record {
      rounds =
          ap (λ l. ys ++ l) (ap (drop (many - 0)) planned.rounds ∙ drop-append-drop (length d.meetings) xs (plan_of d).rounds (many - 0) (omega (arith, more)) plan_long)
          ∙ ap (λ l. l ++ drop (many - 0) xs) last
          ∙ ap (λ k. (last_day (first_day d) cs).at ++ drop k xs) (let same : many - 0 ≡ length (last_day (first_day d) cs).list.meetings = omega (arith, many_is, ap length all, ap (λ (l : Contents). length l.meetings) last_list) in same);
      rows = record {
        board = subst (λ ms. Holds ms (shape_of d (length gs) (length ss)) (last_day (first_day d) cs).at gs2 ss2) (all ∙ ap (λ (l : Contents). l.meetings) (sym last_list)) (subst (λ z. Holds ms z (last_day (first_day d) cs).at gs2 ss2) is (subst (λ ys. Holds ms z ys gs2 ss2) last rows.board));
        group_rest = subst (λ (z : Shape). Beyond z.groups z.group_width gs gs2) is (rows.group_rest.0 ∙ planned.rows.group_rest.0, rows.group_rest.1 ∙ rest_groups);
        station_rest = subst (λ (z : Shape). Beyond z.stations z.station_width ss ss2) is (rows.station_rest.0 ∙ planned.rows.station_rest.0, rows.station_rest.1 ∙ rest_stations);
      };
    }
      where
        rest_groups : drop (z.groups * z.group_width) gs1 ≡ drop (z.groups * z.group_width) gs
        rest_groups = subst (λ (z : Shape). drop (z.groups * z.group_width) gs1 ≡ drop (z.groups * z.group_width) gs) (sym is) planned.rows.group_rest.1

        rest_stations : drop (z.stations * z.station_width) ss1 ≡ drop (z.stations * z.station_width) ss
        rest_stations = subst (λ (z : Shape). drop (z.stations * z.station_width) ss1 ≡ drop (z.stations * z.station_width) ss) (sym is) planned.rows.station_rest.1

  -- THE PROMISE of a row
  pub row_promised : (ts : List Changed) (xs xs' gs gs' ss ss' : List ℕ) → ts ≡ told (first_day d) cs → ChangedLent d cs xs xs' gs gs' ss ss' → RowPromised d cs ts xs'
  row_promised ts xs xs' gs gs' ss ss' is lent = record {
    first = first_stands d proper;
    last = last_day (first_day d) cs;
    each = subst (λ ts. Promised (first_day d) cs ts (last_day (first_day d) cs)) (sym is) (promised (first_day d) cs (first_stands d proper) can_first);
    rounds = ap (take (length (last_day (first_day d) cs).list.meetings)) lent.rounds ∙ take-append-le (length (last_day (first_day d) cs).list.meetings) (last_day (first_day d) cs).at _ (omega (arith, last_each)) ∙ take_all (length (last_day (first_day d) cs).list.meetings) (last_day (first_day d) cs).at (omega (arith, last_each));
  }

-- what is answered, and what the lent rounds hold then, keep the promise
pub day_promised : (l : MeetingList) (cs : List Change) (xs xs' gs gs' ss ss' : List ℕ) (o : Result (Vec Changed Global) Refusal) → Answers vec_items o (answer_of (contents l) cs (length xs) (length gs) (length ss)) → MatchResult o (λ ts. ChangedLent (contents l) cs xs xs' gs gs' ss ss') (λ e. Unchanged xs xs' gs gs' ss ss') → IfOk o (λ ts. RowPromised (contents l) cs (vec_items ts) xs')
day_promised l cs xs xs' gs gs' ss ss' (Ok ts) answer lent =
    let d = contents l in
    let one = then_accepted (tested (whole d) cs 0 []) (λ t. then (lent_shape t.0.list (max (fewest d) (largest t.1)) (length xs) (length gs) (length ss)) (λ z. accepted (told (first_day d) cs))) (vec_items ts) (accepted_from_ok vec_items ts answer) in
    let two = then_accepted (lent_shape one.0.0.list (max (fewest d) (largest one.0.1)) (length xs) (length gs) (length ss)) (λ z. accepted (told (first_day d) cs)) (vec_items ts) one.2 in
    row_promised d cs (proper l) (only_what_can (whole d) cs 0 [] one.0 one.1) (vec_items ts) xs xs' gs gs' ss ss' (sym (accepted_same _ _ two.2)) lent
day_promised l cs xs xs' gs gs' ss ss' (Err e) answer lent = tt

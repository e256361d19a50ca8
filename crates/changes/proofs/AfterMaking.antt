-- After a change: who is named by no step has the round that was noted, so that counting those that were moved among the named ones
-- counts them all, and the rounds for the next change are noted for all. Assumes nothing.
use Rattle.std.proofs.Common.{◌≡◌, ℕ, zero, suc, ◌<◌, ◌≤◌, Bool, true, false, cond, ◌&&◌, ltb, List, [], length, set, count_by, sym, refl, ap, ◌∙◌, subst, ⊎_elim, arith}
use Rattle.std.proofs.lemmas.Bool.{both_ways, cases_Bool, cases_eq, cases_lt}
use Rattle.std.proofs.lemmas.Bool.Decides.{nat_tests}
use Rattle.std.proofs.lemmas.List.{get_or-map, get_or-set_same, get_or-set_other}
use Rattle.fewest.specs.Counting.{count, one_if}
use Rattle.fewest.specs.Plans.{none}
use Rattle.fewest.proofs.Counting.{count_ext}
use Rattle.chains.specs.Chains.{holds}
use Rattle.chains.specs.Finding.{with_new}
use Rattle.chains.specs.Partial.{round_of}
use Rattle.chains.specs.Statements.{Once}
use Rattle.chains.proofs.Members.{count_members, once_from_fresh}
use Rattle.chains.proofs.WithNew.{new_held, new_once}
use Rattle.placing.specs.Steps.{all_named}
use Rattle.changes.specs.declared.change.Change.{Change}
use Rattle.changes.specs.declared.change.Change.TheVariants.{Add, Drop, GetRoom, GiveRoomUp}
use Rattle.changes.specs.Days.{Day, Stands, has_round, moved, number_moved, numbered}
use Rattle.changes.specs.Making.{after, dropped, noted, start_of}
use Rattle.changes.specs.Numbered.{Numbered, can, changed, rounds_for}
use Rattle.changes.specs.OnBoard.{CopiedFor}
use Rattle.changes.specs.Statements.{ChangeStands}
use Rattle.changes.specs.Waiting.{is_there}
use Rattle.changes.proofs.Standing.{has_round_if}
use Rattle.changes.proofs.Leading.{named_below, unnamed_stays}
use Rattle.changes.proofs.NextDay.{next_stands}
use Rattle.changes.proofs.Noted.{Dropped, goes_or_stays, meetings_kept, new_has_none, round_taken}

-- what does not pass from m on is not counted
count_longer : (p : ℕ → Bool) (m n : ℕ) → m ≤ n → ((i : ℕ) → m ≤ i → i < n → p i ≡ false) → count p n ≡ count p m
count_longer p m zero h out = ap (count p) (let e : 0 ≡ m = omega arith in e)
count_longer p m (suc n) h out = ⊎_elim
    (λ all. ap (count p) (sym all))
    (λ more. let below : m ≤ n = omega arith in omega (arith, count_longer p m n below (λ i l u. out i l (omega arith)), ap one_if (out n below (omega arith))))
    (cases_eq m (suc n))

-- a dropped meeting has no round in either of two lists of rounds that agree
pub dropped_agree : (xs ys : List ℕ) (c : Change) → ((j : ℕ) → Dropped c j → (j < length xs) × (j < length ys)) → ((i : ℕ) → round_of xs i ≡ round_of ys i) → (i : ℕ) → round_of (dropped xs c) i ≡ round_of (dropped ys c) i
dropped_agree xs ys (Add m) here same i = same i
dropped_agree xs ys (Drop j) here same i = ⊎_elim
    (λ this. ap (round_of (set xs j.0 none)) this ∙ get_or-set_same xs j.0 none none (here j.0 (j, refl, refl)).0 ∙ sym (ap (round_of (set ys j.0 none)) this ∙ get_or-set_same ys j.0 none none (here j.0 (j, refl, refl)).1))
    (λ other. get_or-set_other xs j.0 i none none other ∙ same i ∙ sym (get_or-set_other ys j.0 i none none other))
    (cases_eq i j.0)
dropped_agree xs ys GiveRoomUp here same i = same i
dropped_agree xs ys GetRoom here same i = same i

dropped_none : (xs : List ℕ) (c : Change) (i : ℕ) → i < length xs → Dropped c i → round_of (noted xs c) i ≡ none
dropped_none xs c i h drop = ap (λ c. round_of (noted xs c) i) drop.1 ∙ ap (λ k. round_of (set xs k none) i) drop.2 ∙ get_or-set_same xs i none none h

-- where a round was and where it is, of a meeting that was not moved
moved_none : (x y : ℕ) → x ≡ none → moved x y ≡ false
moved_none x y e = grind (arith, nat_tests)

moved_to_none : (x y : ℕ) → y ≡ none → moved x y ≡ false
moved_to_none x y e = grind (arith, nat_tests)

moved_same : (x y : ℕ) → y ≡ x → moved x y ≡ false
moved_same x y e = grind (arith, nat_tests)

module _ (d : Day) (c : Change) (stands : Stands d) (may : can (numbered d) c ≡ true) where
  abbrev v : Numbered
  v = changed (numbered d) c

  abbrev ys : List ℕ
  ys = (after d c).day.at

  abbrev names : List ℕ
  names = all_named (after d c).steps

  next : ChangeStands d c (after d c)
  next = next_stands d c stands may

  same_list : (after d c).day.list ≡ v.list
  same_list = ap (λ (w : Numbered). w.list) next.list

  pub many_then : length ys ≡ length v.list.meetings
  many_then = next.stands.partial.each ∙ ap (λ l. length l.meetings) same_list

  -- who is not there has no round
  away_none : (i : ℕ) → i < length ys → is_there v i ≡ false → round_of ys i ≡ none
  away_none i h away = ⊎_elim
      (λ e. e)
      (λ some. absurd (both_ways _ away (ap (λ (w : Numbered). is_there w i) (sym next.list) ∙ get_or-map has_round ys i none false h ∙ has_round_if (round_of ys i) some)))
      (cases_eq (round_of ys i) none)

  -- who is named by no step has the round that was noted
  pub unnamed_noted : (i : ℕ) → holds names i ≡ false → round_of (noted d.at c) i ≡ round_of ys i
  unnamed_noted i out = ⊎_elim old new (cases_lt i (length d.at))
    where
      left : round_of ys i ≡ cond (ltb (round_of (noted d.at c) i) (rounds_for v)) (round_of (noted d.at c) i) none
      left = unnamed_stays _ _ (after d c).steps (start_of d c) ys i next.leads out ∙ round_taken (rounds_for v) (noted d.at c) i

      none_left : (x r : ℕ) → x ≡ none → x ≡ cond (ltb x r) x none
      none_left x r e = grind (arith, nat_tests)

      new : length d.at ≤ i → round_of (noted d.at c) i ≡ round_of ys i
      new past = none_left (round_of (noted d.at c) i) (rounds_for v) (new_has_none d.at c i past) ∙ sym left

      old : i < length d.at → round_of (noted d.at c) i ≡ round_of ys i
      old h = ⊎_elim
          (λ went. none_left (round_of (noted d.at c) i) (rounds_for v) went.no_round ∙ sym left)
          (λ stays. ⊎_elim
          (λ same. stays.same ∙ sym same)
          (λ differs. ⊎_elim
          (λ drop. none_left (round_of (noted d.at c) i) (rounds_for v) (dropped_none d.at c i h drop) ∙ sym left)
          (λ named. absurd (both_ways _ out named))
          (next.others i h differs))
          (cases_eq (round_of ys i) (round_of d.at i)))
          (goes_or_stays d.at c i h)

  -- of those named just as many were moved as of all
  module _ (before : List ℕ) (noted_so : (i : ℕ) → round_of before i ≡ round_of (noted d.at c) i) (touched : List ℕ) (touched_is : touched ≡ with_new [] names) where
    abbrev moves : ℕ → Bool
    moves i = moved (round_of before i) (round_of ys i)

    pub touched_held : (i : ℕ) → holds touched i ≡ holds names i
    touched_held i = ap (λ l. holds l i) touched_is ∙ new_held [] names i

    pub touched_once : Once touched
    touched_once = subst Once (sym touched_is) (new_once [] names (once_from_fresh [] tt))

    pub touched_below : (i : ℕ) → holds touched i ≡ true → i < length v.list.meetings
    touched_below i h = omega (arith, named_below _ _ (after d c).steps (start_of d c) ys next.leads i (sym (touched_held i) ∙ h), ap (λ l. length l.meetings) same_list)

    each : (i : ℕ) → i < length d.at → (holds touched i && moves i) ≡ moved (round_of d.at i) (round_of ys i)
    each i h = ⊎_elim
        (λ went. gone (holds touched i) (moves i) (moved_none (round_of before i) (round_of ys i) (noted_so i ∙ went.no_round)) ∙ sym (moved_to_none (round_of d.at i) (round_of ys i) (away_none i (omega (arith, many_then, meetings_kept d.list c, stands.partial.each)) went.away)))
        (λ stays. ⊎_elim
        (λ named. both (holds touched i) (moves i) (touched_held i ∙ named) ∙ ap (λ x. moved x (round_of ys i)) (noted_so i ∙ stays.same))
        (λ out. not_touched (holds touched i) (moves i) (touched_held i ∙ out) ∙ sym (moved_same (round_of d.at i) (round_of ys i) (sym (unnamed_noted i out) ∙ stays.same)))
        (cases_Bool (holds names i)))
        (goes_or_stays d.at c i h)
      where
        gone : (a b : Bool) → b ≡ false → (a && b) ≡ false
        gone a b e = grind (arith)

        both : (a b : Bool) → a ≡ true → (a && b) ≡ b
        both a b e = grind (arith)

        not_touched : (a b : Bool) → a ≡ false → (a && b) ≡ false
        not_touched a b e = grind (arith)

    pub moved_counted : count_by moves touched ≡ number_moved d.at ys
    moved_counted =
        count_members moves touched (length v.list.meetings) touched_once touched_below
        ∙ count_longer (λ j. holds touched j && moves j) (length d.at) (length v.list.meetings) (omega (arith, meetings_kept d.list c, stands.partial.each)) (λ i past h. gone (holds touched i) (moves i) (moved_none (round_of before i) (round_of ys i) (noted_so i ∙ new_has_none d.at c i past)))
        ∙ count_ext (λ j. holds touched j && moves j) (λ i. moved (round_of d.at i) (round_of ys i)) (length d.at) each
      where
        gone : (a b : Bool) → b ≡ false → (a && b) ≡ false
        gone a b e = grind (arith)

    -- the rounds are noted for the next change
    pub noted_then : (before' : List ℕ) → CopiedFor before before' ys touched → (i : ℕ) → round_of before' i ≡ round_of ys i
    noted_then before' notes i = notes.now i ∙ ⊎_elim
        (λ h. held (holds touched i) (round_of ys i) (round_of before i) h)
        (λ out. other (holds touched i) (round_of ys i) (round_of before i) out ∙ noted_so i ∙ unnamed_noted i (sym (touched_held i) ∙ out))
        (cases_Bool (holds touched i))
      where
        held : (b : Bool) (x y : ℕ) → b ≡ true → cond b x y ≡ x
        held b x y e = grind (arith)

        other : (b : Bool) (x y : ℕ) → b ≡ false → cond b x y ≡ y
        other b x y e = grind (arith)

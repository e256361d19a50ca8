-- What a row comes to: a day that stands, its numbers of meetings, and its number of rounds. Assumes nothing.
use Rattle.std.proofs.Common.{◌≡◌, ℕ, suc, ◌+◌, ◌-◌, ◌≤◌, List, [], ◌∷◌, length, take, Some, slice_get, sym, refl, ap, ◌∙◌, subst, arith}
use Rattle.std.proofs.lemmas.List.{length-append}
use Rattle.meetings.specs.Lists.{Contents, Proper, most_meetings}
use Rattle.fewest.specs.Rounds.{fewest}
use Rattle.changes.specs.declared.change.Change.{Change}
use Rattle.changes.specs.declared.change.Change.TheVariants.{Add, Drop, GetRoom, GiveRoomUp}
use Rattle.changes.specs.declared.changed.Changed.{Changed}
use Rattle.changes.specs.Days.{Day, Stands, first_day, rounds_of}
use Rattle.changes.specs.Making.{after}
use Rattle.changes.specs.Numbered.{Numbered, changed, whole}
use Rattle.changes.specs.Rows.{CanAll, changed_all}
use Rattle.changes.specs.Told.{last_day, told}
use Rattle.changes.proofs.DayLent.{last_list, last_stands}
use Rattle.changes.proofs.FirstDay.{first_numbered, first_rounds, first_stands}
use Rattle.plans.specs.Given.{Given}
use Rattle.day.specs.Reports.{added, last_of, plan_last, rounds_after}

-- one number more for each meeting that is added
one_more : (v : Numbered) (c : Change) (cs : List Change) → length (changed v c).list.meetings + added cs ≡ length v.list.meetings + added (c ∷ cs)
one_more v (Add m) cs = omega (arith, length-append v.list.meetings (m ∷ []))
one_more v (Drop i) cs = refl
one_more v GiveRoomUp cs = refl
one_more v GetRoom cs = refl

numbers_made : (v : Numbered) (cs : List Change) → length (changed_all v cs).list.meetings ≡ length v.list.meetings + added cs
numbers_made v [] = omega arith
numbers_made v (c ∷ cs) = numbers_made (changed v c) cs ∙ one_more v c cs

-- the last that is told is the number of rounds of the last day
rounds_made : (d : Day) (cs : List Change) → rounds_after (rounds_of d) (told d cs) ≡ rounds_of (last_day d cs)
rounds_made d [] = refl
rounds_made d (c ∷ cs) = rounds_made (after d c).day cs

module _ (d : Contents) (cs : List Change) (proper : Proper d) (can : CanAll (whole d) cs) where
  pub stands_last : Stands (last_of d cs)
  stands_last = (last_stands (first_day d) cs (first_stands d proper) (subst (λ v. CanAll v cs) (sym (first_numbered d proper)) can)).0

  pub numbers_last : length d.meetings + added cs ≡ length (last_of d cs).list.meetings
  numbers_last = sym (ap (λ (l : Contents). length l.meetings) (last_list d cs proper can) ∙ numbers_made (whole d) cs)

  pub numbers_few : length d.meetings + added cs ≤ most_meetings
  numbers_few = omega (arith, numbers_last, stands_last.proper.few)

  pub rounds_last : rounds_after (fewest d) (told (first_day d) cs) ≡ rounds_of (last_of d cs)
  rounds_last = ap (λ r. rounds_after r (told (first_day d) cs)) (sym (first_rounds d proper)) ∙ rounds_made (first_day d) cs

  -- the plan by what is told of each change, and by the lent rounds
  pub plan_said : (each : List Changed) (xs : List ℕ) (r many : ℕ) → each ≡ told (first_day d) cs → take (length (last_of d cs).list.meetings) xs ≡ (last_of d cs).at → r ≡ rounds_after (fewest d) each → many ≡ length (last_of d cs).list.meetings → ◌≡◌ {A = Given} (record { rounds = r; at = take (many - 0) xs }) (plan_last d cs)
  plan_said each xs r many each_is last r_is many_is =
      let rounds : r ≡ rounds_of (last_of d cs) = r_is ∙ ap (rounds_after (fewest d)) each_is ∙ rounds_last in
      let long : many - 0 ≡ length (last_of d cs).list.meetings = omega (arith, many_is) in
      ap (λ r. record { rounds = r; at = take (many - 0) xs }) rounds ∙ ap (λ l. record { rounds = rounds_of (last_of d cs); at = l }) (ap (λ k. take k xs) long ∙ last)

-- the last of a list
pub last_told : (r : ℕ) (ts : List Changed) (t : Changed) → slice_get ts (length ts - 1) ≡ Some t → t.rounds ≡ rounds_after r ts
last_told r [] t is = cc
last_told r (u ∷ []) t is = cc
last_told r (u ∷ w ∷ ts) t is =
    let more : length (u ∷ w ∷ ts) - 1 ≡ suc (length (w ∷ ts) - 1) = omega arith in
    last_told u.rounds (w ∷ ts) t (ap (slice_get (u ∷ w ∷ ts)) (sym more) ∙ is)

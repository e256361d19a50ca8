-- One change: what it leaves of the rounds is a partial plan of meetings that are there, those of them without a round are put in
-- again and the rounds are evened out, by allowed steps; who is named by none of these keeps the round. Assumes nothing.
use Rattle.std.proofs.Common.{◌≡◌, ℕ, ◌<◌, ◌≤◌, true, false, cond, ltb, ◌⊎◌, inl, inr, List, length, sym, ap, ◌∙◌, subst, ⊎_elim, arith}
use Rattle.std.proofs.lemmas.Bool.{cases_Bool, cases_eq, cases_lt, cond-false, cond-true, le-ltb, lt-ltb}
use Rattle.meetings.specs.Lists.{Exist, Proper}
use Rattle.fewest.specs.Plans.{none}
use Rattle.chains.specs.Chains.{holds}
use Rattle.chains.specs.Partial.{Partial, round_of}
use Rattle.placing.specs.Putting.{placed}
use Rattle.placing.specs.Steps.{Leads, all_named}
use Rattle.balance.specs.Evening.{even_steps}
use Rattle.balance.specs.Sizes.{far, size}
use Rattle.balance.specs.Statements.{Evened}
use Rattle.changes.specs.declared.change.Change.{Change}
use Rattle.changes.specs.Days.{Day, Stands, numbered, rounds_of}
use Rattle.changes.specs.Making.{after, again_steps, made_again, noted, put_each_steps, put_waiting, start_of, taken_out, waiting}
use Rattle.changes.specs.Numbered.{Numbered, can, changed, rounds_for}
use Rattle.changes.specs.Statements.{ChangeStands, PutsAnew}
use Rattle.changes.proofs.Again.{MadeAgain, again_is}
use Rattle.changes.proofs.Leading.{again_leads, puts_named, unnamed_stays}
use Rattle.changes.proofs.Standing.{has_round_if}
use Rattle.changes.proofs.Noted.{Dropped, Stays, goes_or_stays, has_still, meetings_kept, round_taken, start_partial, there_long}
use Rattle.changes.proofs.ProperAfter.{groups_kept, proper_after, stations_kept}
use Rattle.changes.proofs.PutAnew.{anew_each, anew_even, anew_then, waits_anew}
use Rattle.changes.specs.Waiting.{Spared, WhilePutting}
use Rattle.changes.proofs.PuttingEach.{while_waiting}

-- for any number of rounds that spares the meetings that there are after the change
module _ (d : Day) (c : Change) (stands : Stands d) (may : can (numbered d) c ≡ true) (r : ℕ) (le : r ≤ none) (spared : Spared r (changed (numbered d) c)) where
  abbrev v : Numbered
  v = changed (numbered d) c

  abbrev xs : List ℕ
  xs = taken_out r (noted d.at c)

  pub change_proper : Proper v.list
  change_proper = proper_after (numbered d) c stands.proper may

  few : length v.list.meetings ≤ none
  few = omega (arith, change_proper.few)

  exist : Exist d.list.groups d.list.stations v.list.meetings
  exist =
      subst (λ k. Exist d.list.groups k v.list.meetings) (stations_kept d.list c)
      (subst (λ n. Exist n v.list.stations v.list.meetings) (groups_kept d.list c) change_proper.exist)

  long : length v.there ≡ length v.list.meetings
  long = there_long d.list d.at c stands.partial.each

  pub change_waits : WhilePutting r v (waiting v.there xs) xs
  change_waits = while_waiting r v xs (start_partial (rounds_of d) r d.list d.at c le stands.partial) (λ i h low. (has_still r d.at c i le low).there)

  pub change_again : MadeAgain d.list.groups d.list.stations r v xs (made_again r v xs)
  change_again = again_is d.list.groups d.list.stations r v exist few le spared xs change_waits long

  pub change_leads : Leads r v.list.meetings (again_steps r v xs) xs (made_again r v xs).rounds
  change_leads = again_leads d.list.groups d.list.stations r v exist few le spared xs change_waits

  -- who is put in is put in anew
  pub change_anew : PutsAnew d c r (again_steps r v xs)
  change_anew =
      anew_then d c r (put_each_steps r v.list.meetings (waiting v.there xs) xs) (even_steps r v.list.meetings (placed (put_waiting r v xs).rounds 0))
      (anew_each d c r v.list.meetings (waiting v.there xs) xs (λ i w. let was = change_waits.waits i w in waits_anew d c r i le was.1 was.2))
      (anew_even d c r v.list.meetings (far r (size (put_waiting r v xs).rounds)) (placed (put_waiting r v xs).rounds 0))

  -- a meeting that stays, is named by no step and has another round than before would wait, and so it would be named
  unnamed_waits : (i : ℕ) → i < length d.at → Stays d.at c i → (round_of (made_again r v xs).rounds i ≡ round_of d.at i → ⊥) → holds (all_named (again_steps r v xs)) i ≡ false → holds (waiting v.there xs) i ≡ true
  unnamed_waits i h stays differs out =
      ⊎_elim
      (λ low. absurd (differs (kept ∙ cond-true (ltb (round_of d.at i) r) (round_of d.at i) none (lt-ltb _ _ low))))
      (λ past.
      let now = cond-false (ltb (round_of d.at i) r) (round_of d.at i) none (le-ltb _ _ past) in
      ⊎_elim
      (λ had_none. absurd (differs (kept ∙ now ∙ sym had_none)))
      (λ had. change_waits.all i (omega (arith, stands.partial.each, meetings_kept d.list c)) (stays.there ∙ has_round_if (round_of d.at i) had) (left ∙ now))
      (cases_eq (round_of d.at i) none))
      (cases_lt (round_of d.at i) r)
    where
      left : round_of xs i ≡ cond (ltb (round_of d.at i) r) (round_of d.at i) none
      left = round_taken r (noted d.at c) i ∙ ap (λ x. cond (ltb x r) x none) stays.same

      kept : round_of (made_again r v xs).rounds i ≡ cond (ltb (round_of d.at i) r) (round_of d.at i) none
      kept = unnamed_stays r v.list.meetings (again_steps r v xs) xs (made_again r v xs).rounds i change_leads out ∙ left

  -- who has another round than before was dropped, or is named by a step
  pub change_others : (i : ℕ) → i < length d.at → (round_of (made_again r v xs).rounds i ≡ round_of d.at i → ⊥) → Dropped c i ⊎ (holds (all_named (again_steps r v xs)) i ≡ true)
  change_others i h differs =
      ⊎_elim
      (λ goes. inl goes.dropped)
      (λ stays. inr (⊎_elim (λ is. is) (λ out. puts_named d.list.groups d.list.stations r v xs i exist few le spared long change_waits (unnamed_waits i h stays differs out)) (cases_Bool (holds (all_named (again_steps r v xs)) i))))
      (goes_or_stays d.at c i h)

-- THE NEXT DAY, where the number of rounds spares the meetings that there are then
module _ (d : Day) (c : Change) (stands : Stands d) (may : can (numbered d) c ≡ true) (le : rounds_for (changed (numbered d) c) ≤ none) (spared : Spared (rounds_for (changed (numbered d) c)) (changed (numbered d) c)) where
  abbrev w : Numbered
  w = changed (numbered d) c

  abbrev r : ℕ
  r = rounds_for w

  again : MadeAgain d.list.groups d.list.stations r w (start_of d c) (made_again r w (start_of d c))
  again = change_again d c stands may r le spared

  pub next_list : numbered (after d c).day ≡ changed (numbered d) c
  unfolding after
  next_list = ap (λ bs. record { list = w.list; there = bs }) again.list

  pub next_rounds : rounds_of (after d c).day ≡ rounds_for (changed (numbered d) c)
  next_rounds = ap rounds_for next_list

  pub next_proper : Proper (after d c).day.list
  unfolding after
  next_proper = change_proper d c stands may r le spared

  pub next_partial : Partial (rounds_of (after d c).day) (after d c).day.list.meetings (after d c).day.at
  unfolding after
  next_partial = subst (λ q. Partial q (after d c).day.list.meetings (after d c).day.at) (sym next_rounds) again.plan

  pub next_even : Evened (rounds_of (after d c).day) (after d c).day.at
  unfolding after
  next_even = subst (λ q. Evened q (after d c).day.at) (sym next_rounds) again.even

  -- WHAT A CHANGE LEAVES, if the next day stands
  pub change_stands : Stands (after d c).day → ChangeStands d c (after d c)
  unfolding after
  change_stands next = record {
    list = next_list;
    stands = next;
    leads = subst (λ q. Leads q (after d c).day.list.meetings (after d c).steps (start_of d c) (after d c).day.at) (sym next_rounds) (change_leads d c stands may r le spared);
    anew = subst (λ q. PutsAnew d c q (after d c).steps) (sym next_rounds) (change_anew d c stands may r le spared);
    others = change_others d c stands may r le spared;
    looks = again.looks;
  }

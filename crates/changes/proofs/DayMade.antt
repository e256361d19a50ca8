-- A day of changes: what the test and the shape say is what the rule asks, and what is made in the lent slices is the last day.
-- Assumes nothing.
use Rattle.std.proofs.Common.{◌≡◌, ℕ, ◌≤◌, max, false, cond, ltb, List, [], ◌∷◌, length, vec_items, sym, refl, ap, ◌∙◌, ⊎_elim, arith}
use Rattle.std.proofs.lemmas.Bool.{cases_lt, cond-false, cond-true, le-ltb, lt-ltb, ltb-false}
use Rattle.meetings.specs.declared.numbers.Meeting.{Meeting}
use Rattle.meetings.specs.Lists.{Contents}
use Rattle.meetings.specs.Refusals.{Outcome, accepted, refused, then}
use Rattle.meetings.proofs.Outcomes.{then_accepted, unless_refused}
use Rattle.fewest.specs.Rounds.{fewest, largest}
use Rattle.chains.specs.declared.shapes.Shape.{Shape}
use Rattle.chains.specs.Rows.{ManyWithin}
use Rattle.chains.specs.Shapes.{lent_shape, width}
use Rattle.chains.proofs.Fitting.{Fits, accepted_fits}
use Rattle.changes.specs.declared.change.Change.{Change}
use Rattle.changes.specs.declared.tested.Tested.{Tested}
use Rattle.changes.specs.Days.{first_day}
use Rattle.changes.specs.Numbered.{Numbered, changed, tested, whole}
use Rattle.changes.specs.RowOn.{shape_of_row}
use Rattle.changes.specs.Rows.{CanAll, changed_all, rounds_after}
use Rattle.changes.specs.Tested.{row_tested, tested_lists}
use Rattle.changes.specs.Told.{answer_of, told}
use Rattle.changes.proofs.ProperAfter.{groups_kept, stations_kept}
use Rattle.changes.proofs.RowAccepted.{only_what_can, tested_as_made}
use Rattle.changes.proofs.RowParts.{meetings_below}

-- the parties stay
pub groups_all : (v : Numbered) (cs : List Change) → (changed_all v cs).list.groups ≡ v.list.groups
groups_all v [] = refl
groups_all v (c ∷ cs) = groups_all (changed v c) cs ∙ groups_kept v.list c

pub stations_all : (v : Numbered) (cs : List Change) → (changed_all v cs).list.stations ≡ v.list.stations
stations_all v [] = refl
stations_all v (c ∷ cs) = stations_all (changed v c) cs ∙ stations_kept v.list c

-- what a row comes to that was tested
pub record RowTested (d : Contents) (cs : List Change) (t : Tested) : Type 0 where
  pub can : CanAll (whole d) cs
  pub all : vec_items t.meetings ≡ (changed_all (whole d) cs).list.meetings
  pub after : vec_items t.rounds ≡ rounds_after (whole d) cs
  pub tested : tested (whole d) cs 0 [] ≡ accepted (changed_all (whole d) cs, rounds_after (whole d) cs)

pub row_is_tested : (d : Contents) (cs : List Change) (t : Tested) → row_tested d cs ≡ accepted (tested_lists t) → RowTested d cs t
row_is_tested d cs t e =
    let p = then_accepted (tested (whole d) cs 0 []) (λ p. accepted (p.0.list.meetings, p.1)) (tested_lists t) e in
    let can = only_what_can (whole d) cs 0 [] p.0 p.1 in
    let made = tested_as_made (whole d) cs 0 [] can in
    let lists = same_lists _ _ p.2 in
    let values = same_values _ _ (sym p.1 ∙ made) in
    record {
      can = can;
      all = sym (ap (λ (q : List Meeting × List ℕ). q.0) lists) ∙ ap (λ (q : Numbered × List ℕ). q.0.list.meetings) values;
      after = sym (ap (λ (q : List Meeting × List ℕ). q.1) lists) ∙ ap (λ (q : Numbered × List ℕ). q.1) values;
      tested = made;
    }
  where
    same_lists : (p q : List Meeting × List ℕ) → accepted p ≡ accepted q → p ≡ q
    same_lists p q e = cc

    same_values : (p q : Numbered × List ℕ) → accepted p ≡ accepted q → p ≡ q
    same_values p q e = cc

module _ (d : Contents) (cs : List Change) (t : Tested) (is : RowTested d cs t) (many most first top : ℕ) (many_is : many ≡ length (vec_items t.meetings)) (first_is : first ≡ fewest d) (top_is : top ≡ largest (vec_items t.rounds)) (most_is : most ≡ max first top) (lr lg ls : ℕ) where
  abbrev e : Contents
  e = (changed_all (whole d) cs).list

  pub more : length d.meetings ≤ many
  more = omega (arith, many_is, ap length is.all, meetings_below (whole d) cs)

  most_so : most ≡ max (fewest d) (largest (rounds_after (whole d) cs))
  most_so = most_is ∙ ap (λ f. max f top) first_is ∙ ap (max (fewest d)) (top_is ∙ ap largest is.after)

  -- the shape for the row is that for the last list
  shape_is : shape_of_row d many most lr lg ls ≡ lent_shape e most lr lg ls
  shape_is = ⊎_elim
      (λ short. cond-true (ltb lr many) (refused 5 0) _ (lt-ltb _ _ short) ∙ sym (cond-true (ltb lr (length e.meetings)) (refused 5 0) _ (lt-ltb _ _ (omega (arith, many_is, ap length is.all)))))
      (λ enough. cond-false (ltb lr many) (refused 5 0) _ (le-ltb _ _ enough) ∙ cond-false (ltb lr (length d.meetings)) (refused 5 0) _ (le-ltb _ _ (omega (arith, more))) ∙ same_rest ∙ sym (cond-false (ltb lr (length e.meetings)) (refused 5 0) _ (le-ltb _ _ (omega (arith, many_is, ap length is.all)))))
      (cases_lt lr many)
    where
      rest : ℕ → ℕ → Outcome Shape
      rest n k = cond (ltb (width n lg) most) (refused 5 1) (cond (ltb (width k ls) most) (refused 5 2) (accepted (record { groups = n; group_width = width n lg; stations = k; station_width = width k ls })))

      same_rest : rest d.groups d.stations ≡ rest e.groups e.stations
      same_rest = ap (λ n. rest n d.stations) (sym (groups_all (whole d) cs)) ∙ ap (rest e.groups) (sym (stations_all (whole d) cs))

  pub answer_is : answer_of d cs lr lg ls ≡ then (shape_of_row d many most lr lg ls) (λ z. accepted (told (first_day d) cs))
  answer_is =
      ap (λ o. then o (λ t. then (lent_shape t.0.list (max (fewest d) (largest t.1)) lr lg ls) (λ z. accepted (told (first_day d) cs)))) is.tested
      ∙ ap (λ m. then (lent_shape e m lr lg ls) (λ z. accepted (told (first_day d) cs))) (sym most_so)
      ∙ ap (λ o. then o (λ z. accepted (told (first_day d) cs))) (sym shape_is)

  pub refused_as : (number place : ℕ) → refused number place ≡ shape_of_row d many most lr lg ls → answer_of d cs lr lg ls ≡ refused number place
  refused_as number place e = answer_is ∙ ap (λ o. then o (λ z. accepted (told (first_day d) cs))) (sym e)

  -- an accepted shape
  module _ (z : Shape) (ok : accepted z ≡ shape_of_row d many most lr lg ls) where
    fits : (ltb lr many ≡ false) × (lent_shape d most lr lg ls ≡ accepted z)
    fits = unless_refused (ltb lr many) 5 0 (lent_shape d most lr lg ls) z (sym ok)

    pub shape_fits : Fits d most lr lg ls z
    shape_fits = accepted_fits d most lr lg ls z (sym fits.1)

    pub long_rounds : many ≤ lr
    long_rounds = ltb-false _ _ fits.0

    pub told_as : answer_of d cs lr lg ls ≡ accepted (told (first_day d) cs)
    told_as = answer_is ∙ ap (λ o. then o (λ z. accepted (told (first_day d) cs))) (sym ok)

    pub many_within : ManyWithin z (max first (largest (vec_items t.rounds)))
    many_within = rw shape_fits.is (omega (arith, shape_fits.groups, most_is, top_is), omega (arith, shape_fits.stations, most_is, top_is))

-- Before the first change of a row: the lent rounds hold the plan of the list, and none for the meetings that are to come. Assumes
-- nothing.
use Rattle.std.proofs.Common.{◌≡◌, ℕ, ◌-◌, ◌<◌, ◌≤◌, true, eqb, List, ◌++◌, length, get_or, replicate, take, vec_items, sym, refl, ap, ◌∙◌, subst, ⊎_elim, arith}
use Rattle.std.proofs.lemmas.Bool.{cases_lt, ne_eqb}
use Rattle.std.proofs.lemmas.List.{get_or-append_right, get_or-replicate, get_or_append_left, get_or_past, length-replicate, length-take-le, take_at}
use Rattle.std.proofs.lemmas.List.Sums.{sum_by-append}
use Rattle.meetings.specs.Held.{contents}
use Rattle.meetings.specs.Lists.{Contents, Proper}
use Rattle.meetings.proofs.Holds.{proper}
use Rattle.fewest.specs.Plans.{none, in_round}
use Rattle.fewest.specs.Counting.{one_if}
use Rattle.fewest.proofs.Counting.{count_none, count_places}
use Rattle.fewest.proofs.Numbers.{largest_above}
use Rattle.chains.specs.declared.shapes.Shape.{Shape}
use Rattle.chains.specs.Partial.{round_of}
use Rattle.balance.specs.Sizes.{sizes_of}
use Rattle.balance.proofs.Counted.{are_sizes, size_at, sizes_long}
use Rattle.changes.specs.declared.kept.Kept.{Kept}
use Rattle.changes.specs.declared.row.Row.{Row}
use Rattle.changes.specs.Days.{first_day}
use Rattle.changes.specs.Keeping.{Beside, Room}
use Rattle.changes.specs.Numbered.{whole}
use Rattle.changes.specs.RowOn.{CanMakeFirst, CanMakeRow, day_before, most_rounds}
use Rattle.changes.specs.Rows.{CanAll, changed_all, rounds_after}
use Rattle.changes.proofs.FirstDay.{first_numbered, first_rounds, first_stands}
use Rattle.changes.proofs.LeftChanged.{made_proper}
use Rattle.changes.proofs.RowParts.{meetings_below}

-- meetings without a round are in none
no_size : (n c : ℕ) → c < none → in_round c (replicate n none) ≡ 0
no_size n c few = count_places (λ x. eqb x c) (replicate n none) none ∙ count_none (λ i. eqb (round_of (replicate n none) i) c) (length (replicate n none)) (λ i h. ne_eqb _ c (λ e. omega (arith, get_or-replicate n i none none (omega (arith, length-replicate n none)))))

more_size : (xs : List ℕ) (n c : ℕ) → c < none → in_round c (xs ++ replicate n none) ≡ in_round c xs
more_size xs n c few = sum_by-append (λ x. one_if (eqb x c)) xs (replicate n none) ∙ omega (arith, no_size n c few)

more_round : (xs : List ℕ) (n i : ℕ) → round_of (xs ++ replicate n none) i ≡ round_of xs i
more_round xs n i = ⊎_elim
    (λ h. get_or_append_left xs (replicate n none) none i h)
    (λ past. get_or-append_right xs (replicate n none) (length xs) i none refl past ∙ none_at (i - length xs) ∙ sym (get_or_past xs i none past))
    (cases_lt i (length xs))
  where
    none_at : (j : ℕ) → round_of (replicate n none) j ≡ none
    none_at j = ⊎_elim (λ h. get_or-replicate n j none none h) (λ h. get_or_past (replicate n none) j none (omega (arith, length-replicate n none))) (cases_lt j n)

module _ (w : Row) (z : Shape) (xs ys : List ℕ) (first : CanMakeFirst w z (length xs)) (planned : take (length (contents w.list.now).meetings) xs ≡ (first_day (contents w.list.now)).at) (filled : ys ≡ take (length (contents w.list.now).meetings) xs ++ replicate (length xs - length (contents w.list.now).meetings) none) (narrow : z.group_width ≤ none) where
  abbrev d : Contents
  d = contents w.list.now

  abbrev p : Proper d
  p = proper w.list.now

  pub many_below : length d.meetings ≤ length xs
  many_below = omega (arith, meetings_below (whole d) w.changes.now, ap length first.all, first.many)

  pub few_meetings : length xs ≤ none
  few_meetings = omega (arith, (made_proper (whole d) w.changes.now (length-replicate (length d.meetings) true) p first.can).few, ap length first.all, first.many)

  front_long : length (take (length d.meetings) xs) ≡ length d.meetings
  front_long = length-take-le (length d.meetings) xs many_below

  front : take (length d.meetings) ys ≡ take (length d.meetings) xs
  front = ap (take (length d.meetings)) filled ∙ take_at (take (length d.meetings) xs) (replicate (length xs - length d.meetings) none) (length d.meetings) front_long

  pub day_is : day_before w ys ≡ first_day d
  day_is = ap (λ at. record { list = d; at = at }) (front ∙ planned)

  pub few_rounds : most_rounds w ≤ none
  few_rounds = omega (arith, first.within.0)

  pub each_below : (i : ℕ) → i < length (vec_items w.tested.rounds) → get_or (vec_items w.tested.rounds) i 0 ≤ most_rounds w
  each_below i h = omega (arith, largest_above (vec_items w.tested.rounds) i h)

  pub row_ready : CanMakeRow (day_before w ys) w.changes.now (vec_items w.tested.meetings) (vec_items w.tested.rounds) z ys w.rounds
  row_ready = subst (λ e. CanMakeRow e w.changes.now (vec_items w.tested.meetings) (vec_items w.tested.rounds) z ys w.rounds) (sym day_is) (record {
    stands = first_stands d p;
    can = subst (λ v. CanAll v w.changes.now) (sym (first_numbered d p)) first.can;
    all = first.all ∙ ap (λ v. (changed_all v w.changes.now).list.meetings) (sym (first_numbered d p));
    after = first.after ∙ ap (λ v. rounds_after v w.changes.now) (sym (first_numbered d p));
    at = filled ∙ ap (λ l. l ++ replicate (length xs - length d.meetings) none) planned ∙ ap (λ n. (first_day d).at ++ replicate n none) (let same : length xs - length d.meetings ≡ length (vec_items w.tested.meetings) - length (first_day d).at = omega (arith, first.many, ap length planned, front_long) in same);
    groups = first.groups;
    stations = first.stations;
    now = first.now ∙ sym (first_rounds d p);
    within_now = (omega (arith, first.within.0), omega (arith, first.within.1));
    within = λ i h. (omega (arith, each_below i h, first.within.0), omega (arith, each_below i h, first.within.1));
  })

  pub beside_first : (k : Kept) → Room k z (length xs) (most_rounds w) → vec_items k.sizes ≡ sizes_of (most_rounds w) ys → vec_items k.before ≡ ys → Beside z (take (length d.meetings) ys) k (length xs) (most_rounds w)
  beside_first k room sizes before = subst (λ l. Beside z l k (length xs) (most_rounds w)) (sym front) (record {
    room = room;
    sizes = sizes ∙ are_sizes (most_rounds w) (take (length d.meetings) xs) (sizes_of (most_rounds w) ys) (sizes_long (most_rounds w) ys) (λ c h. size_at (most_rounds w) ys c 0 h ∙ ap (in_round c) filled ∙ more_size (take (length d.meetings) xs) (length xs - length d.meetings) c (omega (arith, few_rounds)));
    before = λ i. ap (λ l. round_of l i) (before ∙ filled) ∙ more_round (take (length d.meetings) xs) (length xs - length d.meetings) i;
  })

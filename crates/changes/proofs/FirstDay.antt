-- The first day of a list stands: none of its meetings was dropped, and the rule's plan gives each of them a round. Assumes nothing.
use Rattle.std.proofs.Common.{◌≡◌, ℕ, suc, ◌<◌, ◌≤◌, true, List, [], ◌∷◌, length, get_or, map, replicate, refl, ap, ◌∙◌, arith}
use Rattle.meetings.specs.Lists.{Contents, Proper}
use Rattle.fewest.specs.Plans.{none}
use Rattle.fewest.specs.Rounds.{fewest}
use Rattle.fewest.proofs.NoFewer.{fewest_suffices}
use Rattle.balance.specs.Lent.{plan_of}
use Rattle.balance.proofs.EnoughRooms.{EvenPlan, as_partial, planned_all}
use Rattle.balance.proofs.LentEnough.{fewest_below}
use Rattle.changes.specs.Days.{Stands, first_day, has_round, numbered, rounds_of}
use Rattle.changes.specs.Numbered.{left, rounds_for, those, whole}
use Rattle.changes.proofs.Standing.{has_round_below, stands_from}

-- where all are marked, all are left
those_all : {A : Type 0} (xs : List A) → those (replicate (length xs) true) xs ≡ xs
those_all [] = refl
those_all (x ∷ xs) = ap (λ l. x ∷ l) (those_all xs)

pub left_whole : (d : Contents) → left (whole d) ≡ d
left_whole d = ap (λ ms. record { groups = d.groups; stations = d.stations; rooms = d.rooms; meetings = ms }) (those_all d.meetings)

pub rounds_whole : (d : Contents) → rounds_for (whole d) ≡ fewest d
rounds_whole d = ap fewest (left_whole d)

all_have : (r : ℕ) (xs : List ℕ) → r ≤ none → ((i : ℕ) → i < length xs → get_or xs i none < r) → map has_round xs ≡ replicate (length xs) true
all_have r [] le h = refl
all_have r (x ∷ xs) le h =
    ap (λ b. b ∷ map has_round xs) (has_round_below x r le (h 0 (omega arith)))
    ∙ ap (λ l. true ∷ l) (all_have r xs le (λ i l. h (suc i) (omega arith)))

module _ (d : Contents) (proper : Proper d) where
  le : fewest d ≤ none
  le = omega (arith, fewest_below d proper, proper.few)

  planned : EvenPlan d (fewest d) (plan_of d).rounds
  planned = planned_all d (fewest d) proper.exist (omega (arith, proper.few)) le (fewest_suffices d proper.rooms_within.0)

  pub first_numbered : numbered (first_day d) ≡ whole d
  first_numbered =
      ap (λ bs. record { list = d; there = bs })
      (all_have (fewest d) (plan_of d).rounds le (λ i h. planned.plan.round i (omega (arith, planned.plan.each)))
      ∙ ap (λ n. replicate n true) planned.plan.each)

  pub first_rounds : rounds_of (first_day d) ≡ fewest d
  first_rounds = ap rounds_for first_numbered ∙ rounds_whole d

  -- THE FIRST DAY STANDS
  pub first_stands : Stands (first_day d)
  first_stands =
      stands_from (first_day d) proper
      (rw first_rounds (as_partial (fewest d) d.meetings (plan_of d).rounds planned.plan))
      (rw first_rounds planned.even)

-- What is proved of checking. Statements; assumes nothing.
use Rattle.std.specs.Prelude.{◌≡◌, ℕ, ◌≤◌, ◌↔◌, List, length}
use Rattle.meetings.specs.Bytes.{read_list}
use Rattle.meetings.specs.Lists.{Contents, Proper}
use Rattle.meetings.specs.Refusals.{accepted, refused}
use Rattle.fewest.specs.Plans.{none}
use Rattle.fewest.specs.Rounds.{fewest}
use Rattle.balance.specs.Lent.{plan_of}
use Rattle.changes.specs.declared.change.Change.{Change}
use Rattle.changes.specs.Days.{Day, Stands, first_day, rounds_of}
use Rattle.changes.specs.Numbered.{whole}
use Rattle.changes.specs.Rows.{CanAll}
use Rattle.changes.specs.Told.{last_day}
use Rattle.plans.specs.Bytes.{read_plan}
use Rattle.plans.specs.Checking.{checked, fine}
use Rattle.plans.specs.Faults.{FirstFault}
use Rattle.plans.specs.Given.{FewestPlan, Given}

-- A PLAN IS ACCEPTED just where it is one of the fewest rounds
abbrev pub AcceptsFewest : Type 0
AcceptsFewest =
    (d : Contents) (r : ℕ) (xs : List ℕ) → Proper d → r ≤ none → (checked d r xs ≡ fine) ↔ FewestPlan d r xs

-- A PLAN IS REFUSED for its first fault, and just for that
abbrev pub RefusesFirst : Type 0
RefusesFirst =
    (d : Contents) (r : ℕ) (xs : List ℕ) (number place : ℕ) →
    (checked d r xs ≡ refused number place) ↔ FirstFault d r xs number place

-- EVERY PLAN MADE HERE IS ACCEPTED: that of a day that stands, and so the one that planning makes of a list, and the last of every
-- row of changes
abbrev pub AcceptsStanding : Type 0
AcceptsStanding = (d : Day) → Stands d → checked d.list (rounds_of d) d.at ≡ fine

abbrev pub AcceptsPlanned : Type 0
AcceptsPlanned = (d : Contents) → Proper d → checked d (fewest d) (plan_of d).rounds ≡ fine

abbrev pub AcceptsChanged : Type 0
AcceptsChanged =
    (d : Contents) (cs : List Change) → Proper d → CanAll (whole d) cs →
    checked (last_day (first_day d) cs).list (rounds_of (last_day (first_day d) cs)) (last_day (first_day d) cs).at ≡ fine

-- what holds of the list and the plan that these bytes say, if they say one
abbrev pub OfPlan : List ℕ → List ℕ → (Contents → Given → Type 0) → Type 0
OfPlan day plan P =
    (d : Contents) (p : Given) → read_list day ≡ accepted d → read_plan (length d.meetings) plan ≡ accepted p → P d p

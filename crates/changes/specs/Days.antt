-- A day: its meetings, those that were dropped among them, and the round of each. Definitions; assumes nothing.
use Rattle.std.specs.Prelude.{ℕ, Bool, not, ◌&&◌, List, map, length, ◌==◌}
use Rattle.meetings.specs.Lists.{Contents, Proper}
use Rattle.fewest.specs.Counting.{count}
use Rattle.fewest.specs.Plans.{none, Plan, Rooms}
use Rattle.fewest.specs.Statements.{LeastOfPlans}
use Rattle.chains.specs.Partial.{Partial, round_of}
use Rattle.balance.specs.Lent.{plan_of}
use Rattle.balance.specs.Statements.{Evened}
use Rattle.changes.specs.Numbered.{Numbered, left, rounds_for, those}

-- all meetings that ever had a number, and the round of each, none for one that was dropped
pub record Day : Type 0 where
  pub list : Contents
  pub at : List ℕ

abbrev pub has_round : ℕ → Bool
has_round x = not (x == none)

-- which meetings there are
abbrev pub numbered : Day → Numbered
numbered d = record { list = d.list; there = map has_round d.at }

-- the number of rounds of a day
abbrev pub rounds_of : Day → ℕ
rounds_of d = rounds_for (numbered d)

-- the first day of a list: no meeting was dropped, and the rounds are those of the rule's plan
abbrev pub first_day : Contents → Day
first_day d = record { list = d; at = (plan_of d).rounds }

-- WHAT HOLDS OF A DAY: the meetings that there are have a plan of the fewest rounds, within the rooms and even; no plan of them
-- within the rooms, by anybody, has fewer rounds
pub record Stands (d : Day) : Type 0 where
  pub proper : Proper d.list
  pub partial : Partial (rounds_of d) d.list.meetings d.at
  pub plan : Plan (rounds_of d) (left (numbered d)).meetings (those (numbered d).there d.at)
  pub within : Rooms d.list.rooms (rounds_of d) d.at
  pub even : Evened (rounds_of d) d.at
  pub no_fewer : LeastOfPlans (left (numbered d)) (rounds_of d)

-- THE FIRST DAY of a proper list stands
abbrev pub FirstDayStands : Type 0
FirstDayStands = (d : Contents) → Proper d → Stands (first_day d)

-- a meeting that had the round x, and has the round y now, was moved
abbrev pub moved : ℕ → ℕ → Bool
moved x y = (has_round x && has_round y) && not (x == y)

-- how many meetings were moved
abbrev pub number_moved : List ℕ → List ℕ → ℕ
number_moved xs ys = count (λ i. moved (round_of xs i) (round_of ys i)) (length xs)

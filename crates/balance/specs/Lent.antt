-- What the planning call answers, and what the lent slices hold after it. Assumes nothing.
use Rattle.std.specs.Prelude.{◌≡◌, ℕ, ◌+◌, ◌*◌, ◌≤◌, List, ◌++◌, length, take, drop}
use Rattle.meetings.specs.declared.numbers.Meeting.{Meeting}
use Rattle.meetings.specs.Bytes.{read_list}
use Rattle.meetings.specs.Lists.{Contents}
use Rattle.meetings.specs.Refusals.{Outcome, accepted, then}
use Rattle.fewest.specs.Plans.{Plan, Rooms}
use Rattle.fewest.specs.Rounds.{fewest}
use Rattle.fewest.specs.Statements.{LeastOfPlans}
use Rattle.chains.specs.declared.shapes.Shape.{Shape}
use Rattle.chains.specs.Rows.{Holds, Beyond, ManyWithin}
use Rattle.chains.specs.Shapes.{Sized, lent_shape, shape_of}
use Rattle.placing.specs.Putting.{Placed, put_all}
use Rattle.placing.specs.Statements.{NoneBusier}
use Rattle.balance.specs.declared.planned.Planned.{Planned}
use Rattle.balance.specs.Evening.{plan_all}
use Rattle.balance.specs.Sizes.{size, far}
use Rattle.balance.specs.Statements.{Evened}

-- slices that a board of this shape can be kept in, for meetings that r rounds are enough for
pub record LentFor (ms : List Meeting) (z : Shape) (r : ℕ) (xs gs ss : List ℕ) : Type 0 where
  pub sized : Sized ms z xs gs ss
  pub within : ManyWithin z r
  pub none_busier : NoneBusier r ms

-- slices of rows gs and ss that became gs' and ss': they are the rows of the rounds xs, and nothing else was written
pub record BoardLent (ms : List Meeting) (z : Shape) (xs gs gs' ss ss' : List ℕ) : Type 0 where
  pub board : Holds ms z xs gs' ss'
  pub group_rest : Beyond z.groups z.group_width gs gs'
  pub station_rest : Beyond z.stations z.station_width ss ss'

-- the rule's plan of a list
abbrev pub plan_of : Contents → Placed
plan_of d = plan_all (fewest d) d.meetings

-- THE ANSWER for a list and lent slices of these lengths: a slice that is too short is refused, else the number of rounds is the
-- fewest, and the looks are the rule's
abbrev pub planned_of : Contents → ℕ → ℕ → ℕ → Outcome Planned
planned_of d long_rounds long_groups long_stations =
    then (lent_shape d (fewest d) long_rounds long_groups long_stations) (λ z. accepted (record { rounds = fewest d; looks = (plan_of d).looks }))

-- what the lent slices hold after it: the rule's rounds and the rows of these, and what lies beyond is as it was
pub record PlannedLent (d : Contents) (xs xs' gs gs' ss ss' : List ℕ) : Type 0 where
  pub rounds : xs' ≡ (plan_of d).rounds ++ drop (length d.meetings) xs
  pub rows : BoardLent d.meetings (shape_of d (length gs) (length ss)) (plan_of d).rounds gs gs' ss ss'

-- nothing lent has changed
pub record Unchanged (xs xs' gs gs' ss ss' : List ℕ) : Type 0 where
  pub rounds : xs' ≡ xs
  pub groups : gs' ≡ gs
  pub stations : ss' ≡ ss

-- the looks: for each meeting that is put in one, and at most n + k on its chain; then for each exchange at most n + k, and
-- there are no more exchanges than the rounds are far from even
abbrev pub looks_at_most : Contents → ℕ
looks_at_most d =
    length d.meetings * (1 + d.groups + d.stations)
    + far (fewest d) (size (put_all (fewest d) d.meetings).rounds) * (d.groups + d.stations)

-- THE PROMISE: the lent rounds hold a plan, within the rooms and even; no plan within the rooms, by anybody, has fewer rounds;
-- and the looks are bounded
pub record PlansDay (d : Contents) (xs : List ℕ) (p : Planned) : Type 0 where
  pub plan : Plan p.rounds d.meetings (take (length d.meetings) xs)
  pub within : Rooms d.rooms p.rounds (take (length d.meetings) xs)
  pub even : Evened p.rounds (take (length d.meetings) xs)
  pub no_fewer : LeastOfPlans d p.rounds
  pub looks : p.looks ≤ looks_at_most d

-- what holds of the list that the bytes say, if they say one
abbrev pub OfBytes : List ℕ → (Contents → Type 0) → Type 0
OfBytes bytes P = (d : Contents) → read_list bytes ≡ accepted d → P d

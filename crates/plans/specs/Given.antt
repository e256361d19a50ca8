-- A plan from anybody, and when it is one of the fewest rounds. Definitions; assumes nothing.
use Rattle.std.specs.Prelude.{◌≡◌, ℕ, List, length, vec_items}
use Rattle.meetings.specs.Lists.{Contents}
use Rattle.fewest.specs.Plans.{Plan, Rooms}
use Rattle.fewest.specs.Statements.{LeastOfPlans}
use Rattle.changes.specs.Days.{numbered}
use Rattle.changes.specs.Numbered.{Numbered, left, those}
use Rattle.plans.specs.declared.given.GivenPlan.{GivenPlan}

-- so many rounds, and the round of each meeting, none for one that was dropped
pub record Given : Type 0 where
  pub rounds : ℕ
  pub at : List ℕ

abbrev pub given : GivenPlan → Given
given p = record { rounds = p.rounds; at = vec_items p.of_meetings }

-- the meetings of a list, and which of them have a round
abbrev pub marked : Contents → List ℕ → Numbered
marked d xs = numbered (record { list = d; at = xs })

-- the list of the meetings that have a round, and their rounds
abbrev pub kept : Contents → List ℕ → Contents
kept d xs = left (marked d xs)

abbrev pub kept_rounds : Contents → List ℕ → List ℕ
kept_rounds d xs = those (marked d xs).there xs

-- A PLAN OF THE FEWEST ROUNDS for the meetings that are not dropped: each of them has one of r rounds, nobody is at two of them in a
-- round, no round has more than there are rooms; and no plan of them within the rooms, by anybody, has fewer rounds
pub record FewestPlan (d : Contents) (r : ℕ) (xs : List ℕ) : Type 0 where
  pub each : length xs ≡ length d.meetings
  pub plan : Plan r (kept d xs).meetings (kept_rounds d xs)
  pub within : Rooms d.rooms r (kept_rounds d xs)
  pub no_fewer : LeastOfPlans (kept d xs) r

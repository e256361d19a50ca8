-- Every plan made here is accepted: a day that stands has a plan of the fewest rounds for the meetings that have a round; so have the
-- first day of a list and the last of a row of changes. Assumes nothing.
use Rattle.std.proofs.Common.{◌≡◌, ◌≤◌, sym, subst, arith}
use Rattle.fewest.specs.Plans.{none}
use Rattle.balance.specs.Lent.{plan_of}
use Rattle.changes.specs.Days.{Day, Stands, first_day, numbered, rounds_of}
use Rattle.changes.specs.Rows.{CanAll}
use Rattle.changes.proofs.DayLent.{last_stands}
use Rattle.changes.proofs.FirstDay.{first_numbered, first_rounds, first_stands}
use Rattle.changes.proofs.Left.{rounds_few}
use Rattle.changes.proofs.Standing.{marked_long}
use Rattle.plans.specs.Checking.{checked, fine}
use Rattle.plans.specs.Given.{FewestPlan}
use Rattle.plans.specs.Statements.{AcceptsChanged, AcceptsPlanned, AcceptsStanding}
use Rattle.plans.proofs.Accepted.{accepts_fewest, kept_in_round}

rounds_within : (d : Day) → Stands d → rounds_of d ≤ none
rounds_within d stands = rounds_few (numbered d) (marked_long d stands.partial.each) stands.proper

standing_plan : (d : Day) → Stands d → FewestPlan d.list (rounds_of d) d.at
standing_plan d stands = record {
  each = stands.partial.each;
  plan = stands.plan;
  within = λ c h. rw (kept_in_round d.list d.at c (omega (arith, rounds_within d stands))) (stands.within c h);
  no_fewer = stands.no_fewer;
}

-- THE PLAN OF A DAY that stands
pub accepts_standing : AcceptsStanding
accepts_standing d stands = (accepts_fewest d.list (rounds_of d) d.at stands.proper (rounds_within d stands)).1 (standing_plan d stands)

-- THE PLAN OF A LIST
pub accepts_planned : AcceptsPlanned
accepts_planned d proper =
    subst (λ r. checked d r (plan_of d).rounds ≡ fine) (first_rounds d proper) (accepts_standing (first_day d) (first_stands d proper))

-- THE LAST PLAN of a row of changes
pub accepts_changed : AcceptsChanged
accepts_changed d cs proper can =
    accepts_standing _ (last_stands (first_day d) cs (first_stands d proper) (subst (λ v. CanAll v cs) (sym (first_numbered d proper)) can)).0

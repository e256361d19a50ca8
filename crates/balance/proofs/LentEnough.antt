-- Slices that are lent just as long as the fewest rounds ask for are never refused. Assumes nothing.
use Rattle.std.proofs.Common.{◌≡◌, ℕ, ◌*◌, ◌/◌, ◌≤◌, length, ap, ◌∙◌, mul-le-mul_left, mul-one, arith}
use native.Mathlib.Nat.{mul-div_cancel_left}
use Rattle.meetings.specs.declared.list.MeetingList.{MeetingList}
use Rattle.meetings.specs.Held.{contents}
use Rattle.meetings.specs.Lists.{Contents, Proper}
use Rattle.meetings.specs.Refusals.{accepted, then}
use Rattle.meetings.proofs.Holds.{proper}
use Rattle.fewest.specs.Plans.{none}
use Rattle.fewest.specs.Rounds.{fewest}
use Rattle.fewest.proofs.NoFewer.{least}
use Rattle.chains.specs.Shapes.{width}
use Rattle.chains.proofs.Fitting.{fitting_accepted}
use Rattle.placing.proofs.PutAll.{busiest_below}
use Rattle.balance.specs.Lent.{plan_of, planned_of}

-- there are no more rounds than meetings
pub fewest_below : (d : Contents) → Proper d → fewest d ≤ length d.meetings
fewest_below d p =
    let m = length d.meetings in
    let room : m * 1 ≤ m * d.rooms = mul-le-mul_left m p.rooms_within.0 in
    least d m p.rooms_within.0 (busiest_below d, omega (arith, mul-one m))

wide_enough : (n r long : ℕ) → 1 ≤ n → r ≤ none → long ≡ n * r → r ≤ width n long
wide_enough n r long some few e =
    let whole : long / n ≡ r = ap (λ x. x / n) e ∙ mul-div_cancel_left r some in
    omega arith

pub lent_enough : (l : MeetingList) (long_rounds long_groups long_stations : ℕ) → long_rounds ≡ length (contents l).meetings → long_groups ≡ (contents l).groups * fewest (contents l) → long_stations ≡ (contents l).stations * fewest (contents l) → planned_of (contents l) long_rounds long_groups long_stations ≡ accepted (record { rounds = fewest (contents l); looks = (plan_of (contents l)).looks })
lent_enough l lr lg ls er eg es =
    let d = contents l in
    let p = proper l in
    let few : fewest d ≤ none = omega (arith, fewest_below d p, p.few) in
    ap
    (λ o. then o (λ z. accepted (record { rounds = fewest d; looks = (plan_of d).looks })))
    (fitting_accepted d (fewest d) lr lg ls (omega arith) (wide_enough d.groups (fewest d) lg p.groups_within.0 few eg) (wide_enough d.stations (fewest d) ls p.stations_within.0 few es))

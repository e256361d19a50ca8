-- The row was tested and the slices are long enough; then the list is planned, and the changes are made.
use Rattle.std.proofs.Common.{rules, ◌-◌, length, ap, ◌∙◌, arith}
use Rattle.std.proofs.lemmas.List.{length-take-le}
use Rattle.meetings.specs.Held.{contents}
use Rattle.meetings.proofs.Holds.{proper}
use Rattle.meetings.proofs.Outcomes.{accepted_from_ok}
use Rattle.fewest.specs.Rounds.{largest}
use Rattle.chains.specs.declared.shapes.Shape.{Shape}
use Rattle.changes.specs.Tested.{tested_lists}
use Rattle.changes.proofs.DayLent.{day_lent, plan_first, plan_held}
use Rattle.changes.proofs.DayMade.{long_rounds, many_within, more, refused_as, row_is_tested, shape_fits, told_as}
use Rattle.changes.proofs.day.change_by_rule.Goals as goal

pub shape_for-requires : goal.shape_for-requires
shape_for-requires c =
    let is = row_is_tested (contents c.args.list.now) c.args.changes.now c.in_ok-tested.tested (accepted_from_ok tested_lists c.in_ok-tested.tested c.in_ok-tested.ensures) in
    more (contents c.args.list.now) c.args.changes.now c.in_ok-tested.tested is c.len-many.result c.max-most.result c.in_ok-first.first c.largest_of.result (c.len-many.ensures ∙ c.in_ok-tested.tested.meetings.ok.0) c.in_ok-first.ensures.answer (c.largest_of.ensures ∙ ap largest c.deref.ensures.value) c.max-most.ensures (length c.args.rounds.now) (length c.args.group_rows.now) (length c.args.station_rows.now)

pub returns-in_err-shape-clause-answer : goal.returns-in_err-shape-clause-answer
returns-in_err-shape-clause-answer c =
    let is = row_is_tested (contents c.args.list.now) c.args.changes.now c.in_ok-tested.tested (accepted_from_ok tested_lists c.in_ok-tested.tested c.in_ok-tested.ensures) in
    let whole = refused_as (contents c.args.list.now) c.args.changes.now c.in_ok-tested.tested is c.len-many.result c.max-most.result c.in_ok-first.first c.largest_of.result (c.len-many.ensures ∙ c.in_ok-tested.tested.meetings.ok.0) c.in_ok-first.ensures.answer (c.largest_of.ensures ∙ ap largest c.deref.ensures.value) c.max-most.ensures (length c.args.rounds.now) (length c.args.group_rows.now) (length c.args.station_rows.now) _ _ c.in_err-shape.ensures in
    search rules

pub make_row-requires-clause-row : goal.make_row-requires-clause-row
make_row-requires-clause-row c =
    let is = row_is_tested (contents c.args.list.now) c.args.changes.now c.in_ok-tested.tested (accepted_from_ok tested_lists c.in_ok-tested.tested c.in_ok-tested.ensures) in
    let fits = shape_fits (contents c.args.list.now) c.args.changes.now c.in_ok-tested.tested is c.len-many.result c.max-most.result c.in_ok-first.first c.largest_of.result (c.len-many.ensures ∙ c.in_ok-tested.tested.meetings.ok.0) c.in_ok-first.ensures.answer (c.largest_of.ensures ∙ ap largest c.deref.ensures.value) c.max-most.ensures (length c.args.rounds.now) (length c.args.group_rows.now) (length c.args.station_rows.now) c.in_ok-shape.shape c.in_ok-shape.ensures in
    let enough = long_rounds (contents c.args.list.now) c.args.changes.now c.in_ok-tested.tested is c.len-many.result c.max-most.result c.in_ok-first.first c.largest_of.result (c.len-many.ensures ∙ c.in_ok-tested.tested.meetings.ok.0) c.in_ok-first.ensures.answer (c.largest_of.ensures ∙ ap largest c.deref.ensures.value) c.max-most.ensures (length c.args.rounds.now) (length c.args.group_rows.now) (length c.args.station_rows.now) c.in_ok-shape.shape c.in_ok-shape.ensures in
    record {
      can = is.can;
      all = is.all;
      after = is.after;
      many = length-take-le (c.len-many.result - 0) c.plan_enough.new.rounds (omega (arith, enough, c.plan_enough.auto.rounds)) ∙ omega (arith, c.len-many.ensures, c.in_ok-tested.tested.meetings.ok.0);
      now = c.in_ok-first.ensures.answer;
      groups = ap (λ (z : Shape). z.groups) fits.is;
      stations = ap (λ (z : Shape). z.stations) fits.is;
      within = many_within (contents c.args.list.now) c.args.changes.now c.in_ok-tested.tested is c.len-many.result c.max-most.result c.in_ok-first.first c.largest_of.result (c.len-many.ensures ∙ c.in_ok-tested.tested.meetings.ok.0) c.in_ok-first.ensures.answer (c.largest_of.ensures ∙ ap largest c.deref.ensures.value) c.max-most.ensures (length c.args.rounds.now) (length c.args.group_rows.now) (length c.args.station_rows.now) c.in_ok-shape.shape c.in_ok-shape.ensures;
    }

pub make_row-requires-clause-planned : goal.make_row-requires-clause-planned
make_row-requires-clause-planned c =
    let is = row_is_tested (contents c.args.list.now) c.args.changes.now c.in_ok-tested.tested (accepted_from_ok tested_lists c.in_ok-tested.tested c.in_ok-tested.ensures) in
    plan_first (contents c.args.list.now) c.args.changes.now (proper c.args.list.now) is.can _ _ _ _ _ _ c.in_ok-plan_enough.ensures c.len-many.result (more (contents c.args.list.now) c.args.changes.now c.in_ok-tested.tested is c.len-many.result c.max-most.result c.in_ok-first.first c.largest_of.result (c.len-many.ensures ∙ c.in_ok-tested.tested.meetings.ok.0) c.in_ok-first.ensures.answer (c.largest_of.ensures ∙ ap largest c.deref.ensures.value) c.max-most.ensures (length c.args.rounds.now) (length c.args.group_rows.now) (length c.args.station_rows.now))

pub make_row-requires-clause-held : goal.make_row-requires-clause-held
make_row-requires-clause-held c =
    let is = row_is_tested (contents c.args.list.now) c.args.changes.now c.in_ok-tested.tested (accepted_from_ok tested_lists c.in_ok-tested.tested c.in_ok-tested.ensures) in
    plan_held (contents c.args.list.now) c.args.changes.now (proper c.args.list.now) is.can _ _ _ _ _ _ c.in_ok-plan_enough.ensures c.len-many.result (more (contents c.args.list.now) c.args.changes.now c.in_ok-tested.tested is c.len-many.result c.max-most.result c.in_ok-first.first c.largest_of.result (c.len-many.ensures ∙ c.in_ok-tested.tested.meetings.ok.0) c.in_ok-first.ensures.answer (c.largest_of.ensures ∙ ap largest c.deref.ensures.value) c.max-most.ensures (length c.args.rounds.now) (length c.args.group_rows.now) (length c.args.station_rows.now)) c.in_ok-shape.shape (shape_fits (contents c.args.list.now) c.args.changes.now c.in_ok-tested.tested is c.len-many.result c.max-most.result c.in_ok-first.first c.largest_of.result (c.len-many.ensures ∙ c.in_ok-tested.tested.meetings.ok.0) c.in_ok-first.ensures.answer (c.largest_of.ensures ∙ ap largest c.deref.ensures.value) c.max-most.ensures (length c.args.rounds.now) (length c.args.group_rows.now) (length c.args.station_rows.now) c.in_ok-shape.shape c.in_ok-shape.ensures).is

pub returns-clause-answer : goal.returns-clause-answer
returns-clause-answer c =
    let is = row_is_tested (contents c.args.list.now) c.args.changes.now c.in_ok-tested.tested (accepted_from_ok tested_lists c.in_ok-tested.tested c.in_ok-tested.ensures) in
    let whole = told_as (contents c.args.list.now) c.args.changes.now c.in_ok-tested.tested is c.len-many.result c.max-most.result c.in_ok-first.first c.largest_of.result (c.len-many.ensures ∙ c.in_ok-tested.tested.meetings.ok.0) c.in_ok-first.ensures.answer (c.largest_of.ensures ∙ ap largest c.deref.ensures.value) c.max-most.ensures (length c.args.rounds.now) (length c.args.group_rows.now) (length c.args.station_rows.now) c.in_ok-shape.shape c.in_ok-shape.ensures in
    search rules

pub returns-clause-lent : goal.returns-clause-lent
returns-clause-lent c =
    let is = row_is_tested (contents c.args.list.now) c.args.changes.now c.in_ok-tested.tested (accepted_from_ok tested_lists c.in_ok-tested.tested c.in_ok-tested.ensures) in
    day_lent (contents c.args.list.now) c.args.changes.now (proper c.args.list.now) is.can _ _ _ _ _ _ c.in_ok-plan_enough.ensures c.len-many.result (more (contents c.args.list.now) c.args.changes.now c.in_ok-tested.tested is c.len-many.result c.max-most.result c.in_ok-first.first c.largest_of.result (c.len-many.ensures ∙ c.in_ok-tested.tested.meetings.ok.0) c.in_ok-first.ensures.answer (c.largest_of.ensures ∙ ap largest c.deref.ensures.value) c.max-most.ensures (length c.args.rounds.now) (length c.args.group_rows.now) (length c.args.station_rows.now)) c.in_ok-shape.shape _ _ _ _ (shape_fits (contents c.args.list.now) c.args.changes.now c.in_ok-tested.tested is c.len-many.result c.max-most.result c.in_ok-first.first c.largest_of.result (c.len-many.ensures ∙ c.in_ok-tested.tested.meetings.ok.0) c.in_ok-first.ensures.answer (c.largest_of.ensures ∙ ap largest c.deref.ensures.value) c.max-most.ensures (length c.args.rounds.now) (length c.args.group_rows.now) (length c.args.station_rows.now) c.in_ok-shape.shape c.in_ok-shape.ensures).is (c.len-many.ensures ∙ c.in_ok-tested.tested.meetings.ok.0) is.all c.make_row.ensures.rounds c.make_row.ensures.rows

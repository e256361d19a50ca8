-- All meetings are entered, so the rows are those of the plan.
use Rattle.std.proofs.Common.{◌≡◌, ◌*◌, ◌≤◌, None, length, sym, ap, subst, ◌∙◌, rules, arith}
use Rattle.std.proofs.lemmas.List.{length-replicate, with_items_is}
use Rattle.meetings.specs.Held.{contents}
use Rattle.meetings.specs.Lists.{parties}
use Rattle.meetings.proofs.Holds.{proper}
use Rattle.fewest.specs.Plans.{none}
use Rattle.sheets.specs.Entered.{Entered}
use Rattle.sheets.specs.Told.{RowsOf}
use Rattle.sheets.proofs.RowsTold.{rows_told}
use Rattle.sheets.proofs.making.rows_of.Goals as goal

pub returns : goal.returns
returns c =
    let l = c.args.list.now in
    let r = c.args.rounds in
    let xs = c.args.of_meetings.now in
    let s = c.args.side in
    let es = c.enter_all.new.rows in
    let few : length (contents l).meetings ≤ none = omega (arith, (proper l).few) in
    let le : r ≤ none = omega (arith, c.ranges.rounds.fits) in
    let long : length es ≡ parties s (contents l).groups (contents l).stations * r =
    c.enter_all.ensures.long ∙ ap length (c.deref_mut.ensures.value ∙ search rules) ∙ length-replicate (c.args.many * r) None ∙ ap (λ n. n * r) c.requires.many in
    subst (RowsOf (contents l) r xs s) (sym (with_items_is c.in_ok-rows.rows es (c.enter_all.ensures.long ∙ c.deref_mut.ensures.len)))
    (rows_told (contents l) r xs s few le c.requires.partial es long (subst (λ ms. Entered ms xs s r (length ms) es) c.meetings.ensures c.enter_all.ensures.entered))

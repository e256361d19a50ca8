-- The rule refuses the whole for the change that is refused; and what is left after one change gives the whole.
use Rattle.std.proofs.Common.{length, rules, vec_items, ◌≡◌}
use Rattle.changes.specs.Registered.{registered}
use Rattle.changes.proofs.ReadTurns.{read_one, read_refused}
use Rattle.changes.proofs.reading.row.Goals as goal

pub returns-in_err-change : goal.returns-in_err-change
returns-in_err-change c =
    let long : c.len.result ≡ length (vec_items c.loop-at.read) = search rules in
    let whole = read_refused (registered c.loop-at.register) c.args.bytes.now c.loop-at.at (vec_items c.loop-at.read) c.loop-at.invariant.2 (search rules) c.loop-at.invariant.1 c.len.result long c.in_err-change.ensures.is in
    search rules

pub loop-at-preserved : goal.loop-at-preserved
loop-at-preserved c =
    let long : c.len.result ≡ length (vec_items c.loop-at.read) = search rules in (
      search rules,
      search rules,
      read_one (registered c.loop-at.register) c.args.bytes.now c.loop-at.at (vec_items c.loop-at.read) c.loop-at.invariant.2 (search rules) c.loop-at.invariant.1 c.len.result long c.in_ok-change.change _ _ _ c.in_ok-change.ensures.is (search rules) (search rules) (search rules),
    )

-- One number more is read.
use Rattle.std.proofs.Common.{rules}
use Rattle.std.specs.Vec.{vec_items}
use Rattle.plans.proofs.Turns.{number_read}
use Rattle.plans.proofs.reading.numbers.Goals as goal

pub loop-i-preserved : goal.loop-i-preserved
loop-i-preserved c =
    (number_read c.args.bytes.now c.args.many c.loop-i.i (vec_items c.loop-i.read) c.loop-i-test.true c.loop-i.invariant.0 c.number.result _ c.number.ensures c.push_reserved.ensures.items, search rules, search rules)

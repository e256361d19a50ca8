-- No mark is set, and nothing is in the list.
use Rattle.std.proofs.Common.{arith}
use Rattle.chains.proofs.Marks.{marked_none}
use Rattle.chains.proofs.found.Found.none.Goals as goal

pub invariant_of-result : goal.invariant_of-result
invariant_of-result c = record { marked = marked_none _ _ c.args.many _ (c.in_ok-marks.ensures.items_if_clones_equal (λ y e. e)) c.in_ok-list.ensures.items (omega (arith, c.in_ok-list.ensures.capacity)) }

-- Each turn counts one meeting for its round, if it has one of these.
use Rattle.std.proofs.Common.{[], length, sym, ap, ◌∙◌, arith}
use Rattle.std.proofs.lemmas.List.{length-replicate}
use Rattle.balance.specs.Sizes.{sizes_of}
use Rattle.balance.proofs.Counted.{counted_more, counted_same, counted_front, none_counted}
use Rattle.balance.proofs.sizes.count_rounds.Goals as goal
use Rattle.balance.proofs.sizes.count_rounds.Goals.{then-at-sizes, else-at-sizes}

pub loop-round-init : goal.loop-round-init
loop-round-init c =
    let r = length c.args.sizes.now in
    c.clear.ensures ∙ none_counted r ∙ ap (λ n. sizes_of n []) (sym (ap length c.clear.ensures ∙ length-replicate r 0))

pub overflow_add-sizes : goal.overflow_add-sizes
overflow_add-sizes c =
    let few = counted_front _ c.args.rounds.now c.loop-round.round-index _ c.loop-round-test.true c.loop-round.invariant (omega (arith, c.if-at-sizes.true, c.loop-round.auto.sizes)) in
    record { fits = omega (arith, few, c.requires.few) }

pub loop-round-preserved : goal.loop-round-preserved
loop-round-preserved c =
    elim c.if-at-sizes.branch [
      | then-at-sizes w ↦ rw w.sizes-is (counted_more _ c.args.rounds.now c.loop-round.round-index c.loop-round-test.true _ c.loop-round.invariant (omega (arith, w.if-at-sizes.true, c.loop-round.auto.sizes)))
      | else-at-sizes w ↦ rw w.sizes-is (counted_same _ c.args.rounds.now c.loop-round.round-index c.loop-round-test.true _ c.loop-round.invariant (omega (arith, w.if-at-sizes.false, c.loop-round.auto.sizes)))
    ]

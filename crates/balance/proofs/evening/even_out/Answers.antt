-- Each turn is one exchange between the fullest and the emptiest round.
use Rattle.std.proofs.Common.{◌≤◌, length, refl, ◌∙◌, arith}
use Rattle.fewest.specs.Plans.{none}
use Rattle.chains.specs.Boards.{meetings_on}
use Rattle.chains.proofs.RowsRead.{side_rows}
use Rattle.balance.proofs.EvenTurns.{b_below, b_few, can_exchange, ended, evened_as, evening_ends, evening_falls, evening_more, evening_starts, named_more, named_none}
use Rattle.balance.proofs.SearchedOn.{searched_on}
use Rattle.balance.proofs.Touched.{touching_ends, touching_more, touching_starts}
use Rattle.balance.proofs.EvenedOut.{evens_out}
use Rattle.balance.proofs.evening.even_out.Goals as goal

pub loop-rounds-init : goal.loop-rounds-init
loop-rounds-init c = (evening_starts _ _ _ _ c.requires.ready, refl, touching_starts _ _ _, c.start-search.ensures)

pub exchange_between-looks-requires-clause-can : goal.exchange_between-looks-requires-clause-can
exchange_between-looks-requires-clause-can c = can_exchange _ _ _ _ c.loop-rounds.invariant.0.ready _ c.in-Some.ensures.rounds

pub move_one-requires-clause-b : goal.move_one-requires-clause-b
move_one-requires-clause-b c = b_below _ _ _ _ c.loop-rounds.invariant.0.ready _ c.in-Some.ensures.rounds

pub move_one-requires-clause-few : goal.move_one-requires-clause-few
move_one-requires-clause-few c = b_few _ _ _ _ c.loop-rounds.invariant.0.ready _ c.in-Some.ensures.rounds

pub loop-rounds-smaller : goal.loop-rounds-smaller
loop-rounds-smaller c =
    evening_falls _ _ _ _ _ _ _ _ _ _ _ _ c.loop-rounds.invariant.0 _ c.in-Some.ensures.rounds c.exchange_between-looks.ensures.exchanged c.move_one.ensures

pub loop-rounds-preserved : goal.loop-rounds-preserved
loop-rounds-preserved c =
    let more = evening_more _ _ _ _ _ _ _ _ _ _ _ _ c.loop-rounds.invariant.0 _ c.in-Some.ensures.rounds c.exchange_between-looks.ensures.exchanged c.move_one.ensures c.exchange_between-looks.ensures.few in
    let named = named_more _ _ _ _ _ _ _ _ _ _ _ _ c.loop-rounds.invariant.0 _ c.in-Some.ensures.rounds c.exchange_between-looks.ensures.exchanged c.move_one.ensures in
    let touched = touching_more _ _ _ _ _ _ _ _ _ _ _ _ c.loop-rounds.invariant.2 c.exchange_between-looks.ensures.touched named in
    let searched = searched_on c.loop-rounds.sizes c.in-Some.rounds c.uneven_rounds.new.search c.in-Some.ensures.rounds c.in-Some.ensures.found c.move_one.new.sizes c.move_one.ensures in
    (rw c.exchange_between-looks.ensures.room more, c.exchange_between-looks.ensures.room ∙ c.loop-rounds.invariant.1, touched, searched)

pub returns-clause-rule : goal.returns-clause-rule
returns-clause-rule c = evening_ends _ _ _ _ _ _ _ _ c.loop-rounds.invariant.0 c.in_default.ensures.rounds

pub returns-clause-evened : goal.returns-clause-evened
returns-clause-evened c =
    let d = c.args.board.now in
    let le : length c.args.sizes.now ≤ none = omega (arith, c.requires.ready.within.0, d.held.groups.narrow) in
    evened_as _ _ _ _ _ _ _ (ended _ _ _ _ _ _ _ _ c.loop-rounds.invariant.0 c.in_default.ensures.rounds) (evens_out d.shape.groups d.shape.stations (length c.args.sizes.now) (meetings_on d) _ (λ s. (side_rows d s).parties) le d.held.few c.requires.ready.plan)

pub returns-clause-touched : goal.returns-clause-touched
returns-clause-touched c =
    touching_ends _ _ _ _ _ _ _ c.loop-rounds.invariant.2 (named_none _ _ _ _ _ _ _ _ c.loop-rounds.invariant.0 c.in_default.ensures.rounds)

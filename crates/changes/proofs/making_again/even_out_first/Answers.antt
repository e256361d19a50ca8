-- The rounds that there are, are evened out by their sizes.
use Rattle.std.proofs.Common.{◌≡◌, ◌-◌, length, take, subst, arith}
use Rattle.chains.specs.Boards.{meetings_on, rounds_on}
use Rattle.chains.specs.Partial.{Partial}
use Rattle.changes.proofs.EveningFirst.{all_sizes, evened_first, first_long, first_sizes, ready_first, touches_first}
use Rattle.changes.proofs.making_again.even_out_first.Goals as goal

pub even_out-requires-clause-ready : goal.even_out-requires-clause-ready
even_out-requires-clause-ready c =
    let d = c.args.board.now in
    let is : c.from.result ≡ c.args.rounds = omega (arith, c.from.ensures) in
    ready_first d c.args.found.now c.args.rounds _ (take (c.from.result - 0) c.args.sizes.now) (first_long c.args.rounds (length c.args.sizes.now) (rounds_on d) c.args.sizes.now c.from.result is c.requires.long c.requires.counted) c.requires.plan c.requires.within (first_sizes c.args.rounds (length c.args.sizes.now) (rounds_on d) c.args.sizes.now c.from.result is c.requires.long c.requires.counted) c.requires.unused c.requires.room

pub returns-clause-rule : goal.returns-clause-rule
returns-clause-rule c =
    let d = c.args.board.now in
    let is : c.from.result ≡ c.args.rounds = omega (arith, c.from.ensures) in
    (evened_first d _ (take (c.from.result - 0) c.args.sizes.now) _ _ _ c.args.rounds _ (first_long c.args.rounds (length c.args.sizes.now) (rounds_on d) c.args.sizes.now c.from.result is c.requires.long c.requires.counted) c.even_out.ensures.rule).0

pub returns-clause-counted : goal.returns-clause-counted
returns-clause-counted c =
    let d = c.args.board.now in
    let is : c.from.result ≡ c.args.rounds = omega (arith, c.from.ensures) in
    let long = first_long c.args.rounds (length c.args.sizes.now) (rounds_on d) c.args.sizes.now c.from.result is c.requires.long c.requires.counted in
    all_sizes c.args.rounds (length c.args.sizes.now) (rounds_on d) c.args.sizes.now c.from.result is c.requires.long c.requires.counted (meetings_on d) (rounds_on c.even_out.new.board) _ c.requires.few c.requires.plan (subst (λ n. Partial n (meetings_on d) (rounds_on c.even_out.new.board)) long c.even_out.ensures.evened.plan) (evened_first d _ (take (c.from.result - 0) c.args.sizes.now) _ _ _ c.args.rounds _ long c.even_out.ensures.rule).1

pub returns-clause-touched : goal.returns-clause-touched
returns-clause-touched c =
    let d = c.args.board.now in
    let is : c.from.result ≡ c.args.rounds = omega (arith, c.from.ensures) in
    touches_first _ _ c.args.rounds (meetings_on d) (rounds_on d) (take (c.from.result - 0) c.args.sizes.now) (first_long c.args.rounds (length c.args.sizes.now) (rounds_on d) c.args.sizes.now c.from.result is c.requires.long c.requires.counted) c.even_out.ensures.touched

-- No more meetings are looked at than there are.
use Rattle.std.proofs.Common.{length, ap, ◌∙◌, arith}
use Rattle.chains.specs.Boards.{two_on}
use Rattle.balance.proofs.Looking.{looks_few}
use Rattle.balance.proofs.evening.exchange_between.Goals as goal

pub returns-clause-few : goal.returns-clause-few
returns-clause-few c =
    let d = c.args.board.now in
    omega (arith, ap length (c.list-3.ensures ∙ c.look-start.ensures.list), looks_few (two_on d c.args.rounds) c.requires.can.sound, d.held.few)

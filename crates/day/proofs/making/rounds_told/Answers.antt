use Rattle.std.proofs.Common.{sym}
use Rattle.day.proofs.Last.{last_told}
use Rattle.day.proofs.making.rounds_told.Goals as goal

pub returns-in-Some : goal.returns-in-Some
returns-in-Some c = last_told _ c.args.each.now c.in-Some.changed.now (sym c.in-Some.ensures.value)

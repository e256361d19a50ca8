use Rattle.balance.proofs.EvenedOut.{evens_out}
use Rattle.balance.proofs.theorems.rounds_are_evened_out.Goals as goal

pub returns : goal.returns
returns c = evens_out

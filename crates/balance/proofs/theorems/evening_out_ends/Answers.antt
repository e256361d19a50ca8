use Rattle.balance.proofs.EvenedOut.{ends}
use Rattle.balance.proofs.theorems.evening_out_ends.Goals as goal

pub returns : goal.returns
returns c = ends

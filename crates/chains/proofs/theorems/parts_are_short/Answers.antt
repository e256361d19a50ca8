use Rattle.chains.proofs.Short.{short}
use Rattle.chains.proofs.theorems.parts_are_short.Goals as goal

pub returns : goal.returns
returns c = short

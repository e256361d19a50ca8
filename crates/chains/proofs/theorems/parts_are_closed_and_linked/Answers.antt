use Rattle.chains.proofs.Parts.{parts}
use Rattle.chains.proofs.theorems.parts_are_closed_and_linked.Goals as goal

pub returns : goal.returns
returns c = parts

use Rattle.balance.proofs.FirstPart.{finds_first}
use Rattle.balance.proofs.theorems.looking_finds_the_first.Goals as goal

pub returns : goal.returns
returns c = finds_first

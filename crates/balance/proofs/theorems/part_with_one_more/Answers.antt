use Rattle.balance.proofs.FirstPart.{part_with_one_more}
use Rattle.balance.proofs.theorems.part_with_one_more.Goals as goal

pub returns : goal.returns
returns c = part_with_one_more

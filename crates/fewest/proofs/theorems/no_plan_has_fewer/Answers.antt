use Rattle.fewest.proofs.NoFewer.{no_fewer}
use Rattle.fewest.proofs.theorems.no_plan_has_fewer.Goals as goal

pub returns : goal.returns
returns c = no_fewer

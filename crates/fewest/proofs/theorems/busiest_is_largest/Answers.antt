use Rattle.fewest.proofs.Busiest.{busiest_is}
use Rattle.fewest.proofs.theorems.busiest_is_largest.Goals as goal

pub returns : goal.returns
returns c = busiest_is

use Rattle.plans.proofs.FirstFault.{refuses_first}
use Rattle.plans.proofs.theorems.refused_for_the_first_fault.Goals as goal

pub returns : goal.returns
returns c = refuses_first

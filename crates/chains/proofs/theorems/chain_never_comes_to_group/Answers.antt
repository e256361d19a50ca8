use Rattle.chains.proofs.Runs.{never_comes}
use Rattle.chains.proofs.theorems.chain_never_comes_to_group.Goals as goal

pub returns : goal.returns
returns c = never_comes

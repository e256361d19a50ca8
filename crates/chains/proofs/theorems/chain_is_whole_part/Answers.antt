use Rattle.chains.proofs.Runs.{chain_whole}
use Rattle.chains.proofs.theorems.chain_is_whole_part.Goals as goal

pub returns : goal.returns
returns c = chain_whole

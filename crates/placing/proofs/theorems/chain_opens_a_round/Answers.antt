use Rattle.placing.proofs.Opens.{chain_opens}
use Rattle.placing.proofs.theorems.chain_opens_a_round.Goals as goal

pub returns : goal.returns
returns c = chain_opens

use Rattle.chains.proofs.Exchange.{others_stay}
use Rattle.chains.proofs.theorems.others_keep_their_rounds.Goals as goal

pub returns : goal.returns
returns c = others_stay

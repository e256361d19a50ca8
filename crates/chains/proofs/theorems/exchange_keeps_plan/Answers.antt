use Rattle.chains.proofs.Exchange.{exchange_keeps}
use Rattle.chains.proofs.theorems.exchange_keeps_plan.Goals as goal

pub returns : goal.returns
returns c = exchange_keeps

use Rattle.balance.proofs.OneExchange.{one_exchange_is}
use Rattle.balance.proofs.theorems.one_exchange_is_nearer.Goals as goal

pub returns : goal.returns
returns c = one_exchange_is

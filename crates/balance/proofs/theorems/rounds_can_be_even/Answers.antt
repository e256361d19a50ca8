use Rattle.balance.proofs.EnoughRooms.{even_plan}
use Rattle.balance.proofs.theorems.rounds_can_be_even.Goals as goal

pub returns : goal.returns
returns c = even_plan

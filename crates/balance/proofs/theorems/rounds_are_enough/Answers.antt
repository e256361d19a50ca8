use Rattle.balance.proofs.EnoughRooms.{enough_rooms}
use Rattle.balance.proofs.theorems.rounds_are_enough.Goals as goal

pub returns : goal.returns
returns c = enough_rooms

use Rattle.placing.proofs.PutOne.{puts}
use Rattle.placing.proofs.theorems.each_meeting_is_put_in.Goals as goal

pub returns : goal.returns
returns c = puts

use Rattle.placing.proofs.PutAll.{puts_all}
use Rattle.placing.proofs.theorems.all_meetings_are_put_in.Goals as goal

pub returns : goal.returns
returns c = puts_all

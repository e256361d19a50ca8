-- The theorem is cited.
use Rattle.plans.proofs.BytesRead.{read_then_written}
use Rattle.plans.proofs.theorems.plans_written_as_read.Goals as goal

pub returns : goal.returns
returns c = read_then_written

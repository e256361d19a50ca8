use Rattle.meetings.proofs.Accepted.{read_then_written}
use Rattle.meetings.proofs.theorems.written_as_read.Goals as goal

pub returns : goal.returns
returns c = read_then_written

use Rattle.changes.proofs.RowAccepted.{read_then_written}
use Rattle.changes.proofs.theorems.rows_written_as_read.Goals as goal

pub returns : goal.returns
returns c = read_then_written

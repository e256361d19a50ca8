-- What is accepted is written as it stood, and can be made.
use Rattle.meetings.specs.Held.{contents}
use Rattle.changes.specs.Numbered.{whole}
use Rattle.changes.proofs.RowAccepted.{read_back, read_can}
use Rattle.changes.proofs.reading.read_changes.Goals as goal

pub returns-clause-back : goal.returns-clause-back
returns-clause-back c =
    read_back (whole (contents c.args.list.now)) c.args.bytes.now (λ i. (c.type_inv.bytes i).fits) c.row.result c.row.ensures

pub returns-clause-can : goal.returns-clause-can
returns-clause-can c =
    read_can (whole (contents c.args.list.now)) c.args.bytes.now (λ i. (c.type_inv.bytes i).fits) c.row.result c.row.ensures

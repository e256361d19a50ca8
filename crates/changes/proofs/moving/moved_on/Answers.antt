-- No more were touched than there are meetings.
use Rattle.std.proofs.Common.{length, ap, arith}
use Rattle.chains.specs.Boards.{meetings_on}
use Rattle.chains.specs.Finding.{found_in}
use Rattle.chains.proofs.Members.{once_short}
use Rattle.changes.proofs.moving.moved_on.Goals as goal

pub count_moved-moved-requires-clause-few : goal.count_moved-moved-requires-clause-few
count_moved-moved-requires-clause-few c =
    omega (arith, ap length c.list.ensures, once_short (found_in c.args.touched.now) (length (meetings_on c.args.board.now)) c.requires.once c.requires.here, c.args.board.now.held.few)

-- The row is searched beside itself.
use Rattle.chains.specs.Boards.{meetings_on, rounds_on}
use Rattle.placing.proofs.RowsSearched.{own_read, own_shown}
use Rattle.placing.proofs.free.own_free.Goals as goal

pub returns : goal.returns
returns c =
    let d = c.args.board.now in
    let i = c.args.meeting.0 in
    let read = own_read c.args.rounds d i c.args.side _ c.row-row.result.now c.requires.here c.requires.within.0 c.requires.within.1 c.party_of.ensures c.row-row.ensures.long c.row-row.ensures.of_board in
    rw (← own_shown c.args.rounds (meetings_on d) (rounds_on d) i c.args.side c.row-row.result.now read.0 read.1) c.lowest_common_free.ensures

-- Both rows are searched at once.
use Rattle.meetings.specs.declared.numbers.Side.TheVariants.{Groups, Stations}
use Rattle.chains.specs.Boards.{meetings_on, rounds_on}
use Rattle.placing.proofs.RowsSearched.{own_read, common_shown}
use Rattle.placing.proofs.free.common_free.Goals as goal

pub returns : goal.returns
returns c =
    let d = c.args.board.now in
    let i = c.args.meeting.0 in
    let group = own_read c.args.rounds d i Groups _ c.row-group_row.result.now c.requires.here c.requires.within.0 c.requires.within.1 c.party_of.ensures c.row-group_row.ensures.long c.row-group_row.ensures.of_board in
    let station = own_read c.args.rounds d i Stations _ c.row-station_row.result.now c.requires.here c.requires.within.0 c.requires.within.1 c.party_of-2.ensures c.row-station_row.ensures.long c.row-station_row.ensures.of_board in
    rw (← common_shown c.args.rounds (meetings_on d) (rounds_on d) i c.row-group_row.result.now c.row-station_row.result.now group.0 station.0 group.1 station.1) c.lowest_common_free.ensures

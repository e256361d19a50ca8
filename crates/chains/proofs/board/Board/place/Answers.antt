-- The meeting's round and two entries are written, in rows that were free there.
use Rattle.std.proofs.Common.{refl}
use Rattle.chains.proofs.BoardKept.{board_placed}
use Rattle.chains.proofs.board.Board.place.Goals as goal

pub write-requires-clause-still : goal.write-requires-clause-still
write-requires-clause-still c =
    board_placed _ _ _ _ _ c.args.meeting.0 c.args.self.now.held c.requires.here c.args.round.0 _ _ c.requires.out c.requires.within.0 c.requires.within.1 c.requires.group_free c.requires.station_free refl refl

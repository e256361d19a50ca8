-- The rounds are cleared, and the rows in use.
use Rattle.chains.proofs.EmptyBoard.{emptied}
use Rattle.chains.proofs.starting.empty.Goals as goal

pub returns-clause-board : goal.returns-clause-board
returns-clause-board c = λ ms sized.
    emptied ms c.args.shape _ _ _ _ _ _ c.requires.group_room c.requires.station_room (c.fill.ensures.after (λ y e. e)) c.clear_rows.ensures c.clear_rows-2.ensures sized

-- The meeting is taken out, and placed where it is to have a round.
use Rattle.meetings.specs.declared.numbers.Side.TheVariants.{Groups, Stations}
use Rattle.chains.proofs.BoardKept.{give_free}
use Rattle.chains.proofs.board.Board.give.Goals as goal

pub place-requires-clause-group_free : goal.place-requires-clause-group_free
place-requires-clause-group_free c = give_free c.args.self.now _ _ _ _ c.requires.here c.in-Some.is c.requires.within c.requires.free c.take_out.ensures Groups

pub place-requires-clause-station_free : goal.place-requires-clause-station_free
place-requires-clause-station_free c = give_free c.args.self.now _ _ _ _ c.requires.here c.in-Some.is c.requires.within c.requires.free c.take_out.ensures Stations

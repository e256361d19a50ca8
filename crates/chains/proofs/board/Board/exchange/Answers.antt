-- Three steps, each of which the members can take.
use Rattle.std.proofs.Common.{◌∙◌, refl}
use Rattle.chains.proofs.BoardKept.{becomes_then}
use Rattle.chains.proofs.ThreeShifts.{movable_out, movable_on, movable_back, three_shifts}
use Rattle.chains.proofs.board.Board.exchange.Goals as goal

pub shift-requires-clause-movable : goal.shift-requires-clause-movable
shift-requires-clause-movable c = movable_out _ _ _ _ _ c.args.members.now c.args.rounds.a.0 c.args.rounds.b.0 c.args.self.now.held c.requires.closed

pub shift-requires-2-clause-movable : goal.shift-requires-2-clause-movable
shift-requires-2-clause-movable c =
    rw c.shift.ensures.meetings (movable_on _ _ _ _ _ c.args.members.now c.args.rounds.a.0 c.args.rounds.b.0 c.args.self.now.held c.requires.closed _ c.shift.ensures.rounds)

pub shift-requires-3-clause-movable : goal.shift-requires-3-clause-movable
shift-requires-3-clause-movable c =
    rw (c.shift-2.ensures.meetings ∙ c.shift.ensures.meetings) (movable_back _ _ _ _ _ c.args.members.now c.args.rounds.a.0 c.args.rounds.b.0 c.args.self.now.held c.requires.closed _ c.shift.ensures.rounds _ c.shift-2.ensures.rounds)

pub returns : goal.returns
returns c =
    let two = becomes_then _ _ _ _ _ _ c.shift.ensures c.shift-2.ensures refl in
    becomes_then _ _ _ _ _ _ two c.shift-3.ensures (three_shifts _ _ _ _ _ c.args.members.now c.args.rounds.a.0 c.args.rounds.b.0 c.args.self.now.held c.requires.closed _ c.shift.ensures.rounds _ c.shift-2.ensures.rounds)

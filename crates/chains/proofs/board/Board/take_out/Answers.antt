-- The meeting's round and its two entries are written, each with none.
use Rattle.std.proofs.Common.{sym, ◌∙◌, refl}
use Rattle.chains.proofs.BoardKept.{board_taken, within_widths}
use Rattle.chains.proofs.board.Board.take_out.Goals as goal

pub write-requires-clause-still : goal.write-requires-clause-still
write-requires-clause-still c =
    let round = c.in-Some.round.0 in
    let here = sym c.in-Some.ensures.0 in
    let within = within_widths _ _ _ _ _ c.args.meeting.0 c.args.self.now.held c.requires.here round here (λ out. c.in-Some.ensures.1 (here ∙ out)) in
    board_taken _ _ _ _ _ c.args.meeting.0 c.args.self.now.held c.requires.here round _ _ here within.0 within.1 refl refl

-- The loop stops where there is no neighbour or it was found; else it goes on from the neighbour.
use Rattle.std.proofs.Common.{sym, refl, inl, inr}
use Rattle.chains.proofs.ChainTurns.{follow_on, follow_falls, follow_ends}
use Rattle.chains.proofs.board.Board.follow.Goals as goal

pub chain-smaller : goal.chain-smaller
chain-smaller c =
    let next = c.in-Some.ensures in
    follow_falls _ c.args.self.now.held.few _ _ _ _ _ _ c.chain.invariant _ _ next.0 next.1 (sym c.if-has.ensures) c.add.ensures

pub chain-preserved : goal.chain-preserved
chain-preserved c =
    let next = c.in-Some.ensures in
    follow_on _ c.args.self.now.held.few _ _ _ _ _ _ c.chain.invariant _ _ _ c.other-through.ensures next.0 next.1 (sym c.if-has.ensures) c.add.ensures

pub returns-in_default : goal.returns-in_default
returns-in_default c = follow_ends _ c.args.self.now.held.few _ _ _ _ _ _ c.chain.invariant _ refl (inl c.in_default.ensures)

pub returns-then-has : goal.returns-then-has
returns-then-has c = follow_ends _ c.args.self.now.held.few _ _ _ _ _ _ c.chain.invariant _ c.in-Some.ensures.0 (inr (sym c.if-has.ensures))

use Rattle.std.proofs.Common.{◌<◌, ℕ}
use Rattle.trials.specs.Beside.{There}
use Rattle.trials.proofs.printing.found.partner_of.Given as goal

-- none so far
abbrev pub invariant-loop-at : goal.invariant-loop-at
invariant-loop-at l = (i : ℕ) → i < l.at → There l.side l.placed l.party l.round i → ⊥

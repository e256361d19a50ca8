use Rattle.std.proofs.Common.{◌<◌, ℕ}
use Rattle.trials.specs.Twice.{Meet}
use Rattle.trials.proofs.checking.alone.is_alone.Given as goal

-- none so far
abbrev pub invariant-loop-earlier : goal.invariant-loop-earlier
invariant-loop-earlier l = (j : ℕ) → j < l.earlier → Meet l.side l.placed l.at j → ⊥

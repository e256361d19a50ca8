use Rattle.std.proofs.Common.{◌≡◌, length, take}
use Rattle.balance.specs.Sizes.{sizes_of}
use Rattle.balance.proofs.sizes.count_rounds.Given as goal

-- the meetings so far are counted
abbrev pub invariant-loop-round : goal.invariant-loop-round
invariant-loop-round l = l.sizes ≡ sizes_of (length l.initial.sizes) (take l.round-index l.rounds)

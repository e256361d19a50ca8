use Rattle.std.proofs.Common.{◌≡◌, ◌-◌, length, get_or, ltb}
use Rattle.plans.specs.Checking.{each, refused_if}
use Rattle.plans.proofs.rooms.none_above.Given as goal

-- what is left gives the whole
abbrev pub invariant-loop-round : goal.invariant-loop-round
invariant-loop-round l =
    each (λ c. refused_if (ltb l.rooms (get_or l.sizes c 0)) 9 c) (length l.sizes - l.round) l.round
    ≡ each (λ c. refused_if (ltb l.rooms (get_or l.sizes c 0)) 9 c) (length l.sizes) 0

use Rattle.std.proofs.Common.{drop, ◌≡◌}
use Rattle.chains.specs.Finding.{among_all, found_in, with_new}
use Rattle.chains.proofs.found.Found.add_all.Given as goal

-- those from here on give what all give
abbrev pub invariant-loop-member : goal.invariant-loop-member
invariant-loop-member l =
    (among_all l.self ≡ among_all l.initial.self)
    × (with_new (found_in l.self) (drop l.member-index l.members) ≡ with_new (found_in l.initial.self) l.members)

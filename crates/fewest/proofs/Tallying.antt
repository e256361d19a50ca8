-- Counting the meetings of a list, one after the other, each for its group and its station. Assumes nothing.
use Rattle.std.proofs.Common.{◌≡◌, ℕ, List, length, Vec, vec_items, ◌∙◌, arith}
use Rattle.std.specs.Vec.{with_items}
use Rattle.std.proofs.lemmas.List.FromFn.{fill_by_all}
use Rattle.std.proofs.lemmas.List.{with_items_is}
use Rattle.meetings.specs.declared.numbers.Side.{Side}
use Rattle.meetings.specs.Lists.{Contents, parties}
use Rattle.fewest.specs.Rounds.{meetings_of, numbers}
use Rattle.fewest.specs.Tallies.{Tallied}

-- the Vec that was lent holds the numbers of its side
pub tally_held : (s : Side) (d : Contents) {A : Type 0} (v : Vec ℕ A) (ws : List ℕ) → length ws ≡ v.len → length v.items ≡ parties s d.groups d.stations → Tallied s d.meetings ws → vec_items (with_items v ws) ≡ numbers s d
tally_held s d v ws long many all =
    with_items_is v ws long ∙ fill_by_all (λ p. meetings_of s p d.meetings) ws (parties s d.groups d.stations) 0 (omega (arith, v.ok.0)) (λ p h. all p (omega (arith, v.ok.0)))

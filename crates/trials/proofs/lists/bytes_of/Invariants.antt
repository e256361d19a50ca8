use Rattle.std.proofs.Common.{◌≡◌, ◌++◌, [], ◌∷◌, ◌%◌, ◌/◌, length, take, vec_items}
use Rattle.trials.specs.Bytes.{bytes_of_pairs}
use Rattle.trials.proofs.lists.bytes_of.Given as goal

-- the head, and the meetings so far
abbrev pub invariant-loop-group : goal.invariant-loop-group
invariant-loop-group l =
    vec_items l.bytes ≡ (l.groups ∷ l.stations ∷ l.rooms ∷ length l.meetings % 256 ∷ length l.meetings / 256 % 256 ∷ []) ++ bytes_of_pairs (take l.group-index l.meetings)

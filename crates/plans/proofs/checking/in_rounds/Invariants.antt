use Rattle.std.proofs.Common.{◌≡◌, ◌-◌, ◌<◌, ℕ, length, ◌≢◌}
use Rattle.fewest.specs.Plans.{none}
use Rattle.chains.specs.Partial.{round_of}
use Rattle.plans.specs.Checking.{each, in_rounds}
use Rattle.plans.proofs.checking.in_rounds.Given as goal

-- what is left gives the whole, and the meetings so far have none of the rounds that there are not
abbrev pub invariant-loop-i : goal.invariant-loop-i
invariant-loop-i l =
    (each (in_rounds l.rounds l.of_meetings) (length l.of_meetings - l.i) l.i ≡ each (in_rounds l.rounds l.of_meetings) (length l.of_meetings) 0)
    × ((i : ℕ) → i < l.i → (round_of l.of_meetings i ≢ none) → round_of l.of_meetings i < l.rounds)

-- Who is twice in a round. Assumes nothing.
use Rattle.std.specs.Prelude.{◌≡◌, ℕ, ◌<◌, List, slice_index_or, ◌≢◌}
use Rattle.meetings.specs.declared.numbers.Side.{Side}
use Rattle.meetings.specs.Lists.{party, nobody}
use Rattle.fewest.specs.Plans.{none}
use Rattle.trials.specs.declared.checking.alone.Placed.{Placed}

-- what stands for an element past the end of a list
abbrev pub nothing : Placed
nothing = record { meeting = nobody; round = none }

-- two have one round, and the same party on a side
abbrev pub Meet : Side → List Placed → ℕ → ℕ → Type 0
Meet s ps i j =
    ((slice_index_or ps i nothing).round ≡ (slice_index_or ps j nothing).round)
    × (party s (slice_index_or ps i nothing).meeting ≡ party s (slice_index_or ps j nothing).meeting)

-- one that is not dropped meets none before it
abbrev pub Alone : Side → List Placed → ℕ → Type 0
Alone s ps i = ((slice_index_or ps i nothing).round ≢ none) → (j : ℕ) → j < i → Meet s ps i j → ⊥

-- Whom a party is beside in a round. Assumes nothing.
use Rattle.std.specs.Prelude.{◌≡◌, ℕ, ◌<◌, Option, MatchOption, List, length, slice_index_or}
use Rattle.meetings.specs.declared.numbers.Side.{Side}
use Rattle.meetings.specs.Lists.{other_side, party}
use Rattle.trials.specs.Twice.{nothing}
use Rattle.trials.specs.declared.checking.alone.Placed.{Placed}

-- the meeting at this place has this round, and this party on a side
abbrev pub There : Side → List Placed → ℕ → ℕ → ℕ → Type 0
There s ps p c i = ((slice_index_or ps i nothing).round ≡ c) × (party s (slice_index_or ps i nothing).meeting ≡ p)

-- whom the party has there in a meeting, or that it has none
abbrev pub Found : Side → List Placed → ℕ → ℕ → Option ℕ → Type 0
Found s ps p c o =
    MatchOption o
    ((i : ℕ) → i < length ps → There s ps p c i → ⊥)
    (λ v. (i : ℕ) × (i < length ps) × There s ps p c i × (party (other_side s) (slice_index_or ps i nothing).meeting ≡ v))

-- What is entered in the rows of a side while meetings are gone over. Assumes nothing.
use Rattle.std.specs.Prelude.{◌≡◌, ℕ, ◌<◌, Option, None, MatchOption, List}
use Rattle.meetings.specs.declared.numbers.Meeting.{Meeting}
use Rattle.meetings.specs.declared.numbers.Side.{Side}
use Rattle.meetings.specs.Lists.{other_side}
use Rattle.chains.specs.Partial.{party_of, round_of}
use Rattle.plans.specs.Cells.{Cells}

-- meeting i has party p of a side in round c
abbrev pub Has : List Meeting → List ℕ → Side → ℕ → ℕ → ℕ → Type 0
Has ms xs s p c i = (round_of xs i ≡ c) × (party_of ms s i ≡ p)

-- an entry is one of the first i meetings, by whom the party meets there, or there is none of these
abbrev pub Tells : List Meeting → List ℕ → Side → ℕ → ℕ → ℕ → Option ℕ → Type 0
Tells ms xs s p c i o =
    MatchOption o ((j : ℕ) → j < i → Has ms xs s p c j → ⊥) (λ v. (j : ℕ) × (j < i) × Has ms xs s p c j × (party_of ms (other_side s) j ≡ v))

-- rows of w rounds for each party of a side, with the first i meetings
abbrev pub Entered : List Meeting → List ℕ → Side → ℕ → ℕ → List (Option ℕ) → Type 0
Entered ms xs s w i es = Cells ms s w None (λ p c o. Tells ms xs s p c i o) es

-- What is kept while meetings that wait are put in one by one. Definitions; assumes nothing.
use Rattle.std.specs.Prelude.{◌≡◌, ℕ, ◌<◌, ◌≤◌, Bool, true, false, ◌&&◌, List, length, ◌==◌, slice_index_or}
use Rattle.meetings.specs.declared.numbers.Side.{Side}
use Rattle.fewest.specs.Counting.{count}
use Rattle.fewest.specs.Plans.{none}
use Rattle.chains.specs.Chains.{holds}
use Rattle.chains.specs.Partial.{Partial, party_of, round_of}
use Rattle.chains.specs.Statements.{Once}
use Rattle.changes.specs.Numbered.{Numbered}

-- whether meeting i was not dropped
abbrev pub is_there : Numbered → ℕ → Bool
is_there v i = slice_index_or v.there i false

-- of the meetings that are there no group and no station has more than r
abbrev pub Spared : ℕ → Numbered → Type 0
Spared r v =
    (i : ℕ) → i < length v.list.meetings → is_there v i ≡ true → (s : Side) →
    count (λ j. is_there v j && party_of v.list.meetings s j == party_of v.list.meetings s i) (length v.list.meetings) ≤ r

-- while these wait: who has a round is there, and those that wait are all that are there without one
pub record WhilePutting (r : ℕ) (v : Numbered) (is xs : List ℕ) : Type 0 where
  pub plan : Partial r v.list.meetings xs
  pub there : (i : ℕ) → i < length v.list.meetings → round_of xs i < r → is_there v i ≡ true
  pub waits : (i : ℕ) → holds is i ≡ true → (i < length v.list.meetings) × (is_there v i ≡ true) × (round_of xs i ≡ none)
  pub once : Once is
  pub all : (i : ℕ) → i < length v.list.meetings → is_there v i ≡ true → round_of xs i ≡ none → holds is i ≡ true

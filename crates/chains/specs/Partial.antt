-- Meetings of which some have a round: the partial plan. Assumes nothing.
use Rattle.std.specs.Prelude.{◌≡◌, ℕ, ◌<◌, cond, ◌&&◌, ◌⊎◌, Option, MatchOption, List, length, ◌==◌, ◌≢◌, nat_lt, slice_index_or}
use Rattle.meetings.specs.declared.numbers.Meeting.{Meeting}
use Rattle.meetings.specs.declared.numbers.Side.{Side}
use Rattle.meetings.specs.Lists.{party, nobody}
use Rattle.fewest.specs.Plans.{none, Apart}
use Rattle.chains.specs.Lowest.{lowest}

-- an answer that gives the number x, or nothing where x is the number that stands for that
abbrev pub Unless : {T : Type 0} → ℕ → (T → ℕ) → Option T → ℕ → Type 0
Unless out number o x = MatchOption o (x ≡ out) (λ v. (number v ≡ x) × (x ≢ out))

-- the round of a meeting, none if it has none
abbrev pub round_of : List ℕ → ℕ → ℕ
round_of xs i = slice_index_or xs i none

-- the group or the station of a meeting, by the meeting's number
abbrev pub party_of : List Meeting → Side → ℕ → ℕ
party_of ms s i = party s (slice_index_or ms i nobody)

-- each meeting has one of r rounds or none, and nobody is at two meetings in a round
pub record Partial (r : ℕ) (ms : List Meeting) (xs : List ℕ) : Type 0 where
  pub each : length xs ≡ length ms
  pub round : (i : ℕ) → i < length ms → (round_of xs i ≡ none) ⊎ (round_of xs i < r)
  pub apart : Apart r ms xs

-- of m meetings with these parties and rounds, none is of party p in round c
abbrev pub VacantIn : ℕ → (ℕ → ℕ) → (ℕ → ℕ) → ℕ → ℕ → Type 0
VacantIn m party round p c = (i : ℕ) → i < m → round i ≡ c → party i ≢ p

-- a party has no meeting in a round
abbrev pub Vacant : List Meeting → List ℕ → Side → ℕ → ℕ → Type 0
Vacant ms xs s p c = VacantIn (length ms) (party_of ms s) (round_of xs) p c

-- a number below m, none instead of any other
abbrev pub known : ℕ → ℕ → ℕ
known m i = cond (nat_lt i m) i none

-- of m meetings with these parties and rounds, the one that party p has in round c, none if it has none there
abbrev pub meeting_at : ℕ → (ℕ → ℕ) → (ℕ → ℕ) → ℕ → ℕ → ℕ
meeting_at m party round p c = known m (lowest (λ i. (party i == p) && round i == c) m)

-- the same in a list of meetings with a list of rounds
abbrev pub meeting_of : List Meeting → List ℕ → Side → ℕ → ℕ → ℕ
meeting_of ms xs s p c = meeting_at (length ms) (party_of ms s) (round_of xs) p c

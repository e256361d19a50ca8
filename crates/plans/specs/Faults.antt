-- What can be wrong with a plan, each with its number and place, and which fault is the first. Definitions; assumes nothing.
use Rattle.std.specs.Prelude.{◌≡◌, ℕ, ◌+◌, ◌*◌, ◌<◌, ◌≤◌, ◌⊎◌, List, length, Result, MatchResult, ◌≢◌}
use Rattle.meetings.specs.declared.numbers.Side.{Side}
use Rattle.meetings.specs.declared.numbers.Side.TheVariants.{Groups, Stations}
use Rattle.meetings.specs.declared.refusal.Refusal.{Refusal}
use Rattle.meetings.specs.declared.refusal.Refusal.TheVariants.{Memory}
use Rattle.meetings.specs.Lists.{Contents}
use Rattle.meetings.specs.Refusals.{number_of, place_of, place_of_clash}
use Rattle.fewest.specs.Plans.{none, in_round}
use Rattle.fewest.specs.Rounds.{fewest}
use Rattle.chains.specs.Partial.{party_of, round_of}
use Rattle.plans.specs.Bytes.{long_for}
use Rattle.plans.specs.Given.{FewestPlan, kept}

-- in which turn a meeting's group and its station are looked at
abbrev pub turn_of : Side → ℕ → ℕ
turn_of Groups i = 2 * i
turn_of Stations i = 2 * i + 1

-- a fault of a plan with r rounds, and the round xs of each meeting, has a number, a turn among those of its number, and a place
pub data Fault (d : Contents) (r : ℕ) (xs : List ℕ) : ℕ → ℕ → ℕ → Type 0 where
  too_few : length xs < length d.meetings → Fault d r xs 1 0 (long_for (length xs))
  too_many : length d.meetings < length xs → Fault d r xs 1 0 (long_for (length d.meetings))
  no_such_round : (i : ℕ) → i < length d.meetings → (round_of xs i ≢ none) → r ≤ round_of xs i → Fault d r xs 7 i i
  clash : (s : Side) (j i : ℕ) → j < i → i < length d.meetings → (round_of xs i ≢ none) → round_of xs j ≡ round_of xs i → party_of d.meetings s j ≡ party_of d.meetings s i → Fault d r xs 8 (turn_of s i) (place_of_clash s i)
  crowded : (c : ℕ) → c < r → d.rooms < in_round c xs → Fault d r xs 9 c c
  not_fewest : (r ≢ fewest (kept d xs)) → Fault d r xs 10 0 r

-- one number and turn come before others, or are the same
abbrev pub NotAfter : ℕ → ℕ → ℕ → ℕ → Type 0
NotAfter number turn n t = (number < n) ⊎ ((number ≡ n) × (turn ≤ t))

-- THE FIRST FAULT of a plan: by its number, and then by its turn
pub record FirstFault (d : Contents) (r : ℕ) (xs : List ℕ) (number place : ℕ) : Type 0 where
  pub turn : ℕ
  pub fault : Fault d r xs number turn place
  pub first : (n t p : ℕ) → Fault d r xs n t p → NotAfter number turn n t

-- WHAT IS ANSWERED of a plan, if there was memory: it is one of the fewest rounds, or this is its first fault
abbrev pub PlanOrFault : {X : Type 0} → Contents → ℕ → List ℕ → Result X Refusal → Type 0
PlanOrFault d r xs o =
    MatchResult o (λ _. FewestPlan d r xs) (λ e. (e ≢ Memory) → FirstFault d r xs (number_of e) (place_of e))

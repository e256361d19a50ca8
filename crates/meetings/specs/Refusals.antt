-- The number and the place of each refusal, and what a call answers that may refuse. Assumes nothing.
use Rattle.std.specs.Prelude.{◌≡◌, ℕ, ◌+◌, ◌⊎◌, List, ◌++◌, Ok, Err, codes, decimal, Result, MatchResult}
use Rattle.meetings.specs.declared.numbers.Side as side
use Rattle.meetings.specs.declared.numbers.Side.{Side}
use Rattle.meetings.specs.declared.refusal.Limit as limit
use Rattle.meetings.specs.declared.refusal.Limit.{Limit}
use Rattle.meetings.specs.declared.refusal.Lent.{Lent}
use Rattle.meetings.specs.declared.refusal.Lent.TheVariants.{Rounds, GroupRows, StationRows}
use Rattle.meetings.specs.declared.refusal.Refusal.{Refusal}
use Rattle.meetings.specs.declared.refusal.Refusal.TheVariants.{
  Length,
  OutOfLimits,
  TooManyMeetings,
  NoSuchParty,
  ShortSlice,
  BadChange,
  NoSuchRound,
  Clash,
  Crowded,
  NotFewest,
  Memory,
}

abbrev pub number_of : Refusal → ℕ
number_of (Length at) = 1
number_of (OutOfLimits which) = 2
number_of TooManyMeetings = 3
number_of (NoSuchParty at) = 4
number_of (ShortSlice which) = 5
number_of (BadChange at) = 6
number_of (NoSuchRound i) = 7
number_of (Clash s i) = 8
number_of (Crowded c) = 9
number_of (NotFewest r) = 10
number_of Memory = 11

-- the three numbers at the head of a list, in their order
abbrev pub place_of_limit : Limit → ℕ
place_of_limit limit.TheVariants.Groups = 0
place_of_limit limit.TheVariants.Stations = 1
place_of_limit limit.TheVariants.Rooms = 2

-- the three lent slices, in their order
abbrev pub place_of_lent : Lent → ℕ
place_of_lent Rounds = 0
place_of_lent GroupRows = 1
place_of_lent StationRows = 2

-- a clash of stations is told from one of groups by 8,192 more
abbrev pub place_of_clash : Side → ℕ → ℕ
place_of_clash side.TheVariants.Groups i = i
place_of_clash side.TheVariants.Stations i = i + 8192

abbrev pub place_of : Refusal → ℕ
place_of (Length at) = at
place_of (OutOfLimits which) = place_of_limit which
place_of TooManyMeetings = 3
place_of (NoSuchParty at) = at
place_of (ShortSlice which) = place_of_lent which
place_of (BadChange at) = at
place_of (NoSuchRound i) = i.0
place_of (Clash s i) = place_of_clash s i.0
place_of (Crowded c) = c.0
place_of (NotFewest r) = r
place_of Memory = 0

-- the line in which a refusal is told
abbrev pub refusal_text : Refusal → List ℕ
refusal_text e = codes "refused " ++ (decimal (number_of e) ++ (codes " at " ++ decimal (place_of e)))

-- what a rule says of its input: a value, or a refusal by its number and its place
pub data Outcome (T : Type 0) : Type 0 where
  accepted : T → Outcome T
  refused : ℕ → ℕ → Outcome T

-- the number and the values of an answer: `means` is what its value says
abbrev pub outcome : {X T : Type 0} → (X → T) → Result X Refusal → Outcome T
outcome means (Ok x) = accepted (means x)
outcome means (Err e) = refused (number_of e) (place_of e)

-- a call that allocates answers what the rule says, or that there is no memory
abbrev pub Answers : {X T : Type 0} → (X → T) → Result X Refusal → Outcome T → Type 0
Answers means r o = (r ≡ Err Memory) ⊎ (outcome means r ≡ o)

-- a call that refuses only for want of memory, and else gives what is said
abbrev pub IfMemory : {X : Type 0} → Result X Refusal → (X → Type 0) → Type 0
IfMemory r P = MatchResult r P (λ e. e ≡ Memory)

-- a rule that goes on from what was accepted, and refuses as before
abbrev pub then : {S T : Type 0} → Outcome S → (S → Outcome T) → Outcome T
then (accepted x) next = next x
then (refused number place) next = refused number place

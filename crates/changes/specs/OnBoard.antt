-- What is done on a board while a change is made. Assumes nothing.
use Rattle.std.specs.List.Sorted.{IsNonDecreasing}
use Rattle.std.specs.Prelude.{◌≡◌, ℕ, ◌-◌, ◌<◌, ◌≤◌, Bool, true, cond, ◌&&◌, ◌||◌, List, [], ◌∷◌, length, ◌==◌, nat_le, nat_lt, ⊤}
use Rattle.meetings.specs.declared.numbers.Side.TheVariants.{Groups}
use Rattle.fewest.specs.Plans.{none}
use Rattle.chains.specs.declared.found.Found.{Found}
use Rattle.chains.specs.Finding.{Finds, found_in, with_new}
use Rattle.placing.specs.Steps.{Step, all_named}
use Rattle.chains.specs.declared.board.Board.{Board}
use Rattle.chains.specs.Boards.{Becomes, meetings_on, rounds_on}
use Rattle.chains.specs.Chains.{holds}
use Rattle.chains.specs.Partial.{party_of, round_of}
use Rattle.chains.specs.Rows.{ManyWithin}
use Rattle.chains.specs.Statements.{Once}
use Rattle.balance.specs.Sizes.{sizes_of}
use Rattle.changes.specs.declared.change.Change.{Change}
use Rattle.changes.specs.declared.change.Change.TheVariants.{Add, Drop, GetRoom, GiveRoomUp}
use Rattle.changes.specs.Making.{dropped, taken_out}
use Rattle.changes.specs.Numbered.{Numbered}
use Rattle.changes.specs.Waiting.{Spared, WhilePutting}

-- a meeting that is in one of the rounds from the first of these to the second, which is not one of them
abbrev pub goes : Board → ℕ → ℕ → ℕ → Bool
goes d first end i = nat_lt i (length (meetings_on d)) && nat_le first (round_of (rounds_on d) i) && nat_lt (round_of (rounds_on d) i) end

-- that, and of a group
abbrev pub goes_of : Board → ℕ → ℕ → ℕ → ℕ → Bool
goes_of d first end g i = goes d first end i && party_of (meetings_on d) Groups i == g

-- these are meetings without a round, each once
pub record AreOut (d : Board) (is : List ℕ) : Type 0 where
  pub out : (i : ℕ) → holds is i ≡ true → (i < length (meetings_on d)) × (round_of (rounds_on d) i ≡ none)
  pub once : Once is

-- the board d becomes e: those that pass lose their round, and are added to the list, which was is and is js now
pub record TakesOut (d e : Board) (is js : List ℕ) (passes : ℕ → Bool) : Type 0 where
  pub board : Becomes d e (rounds_on e)
  pub now : (i : ℕ) → i < length (meetings_on d) → round_of (rounds_on e) i ≡ cond (passes i) none (round_of (rounds_on d) i)
  pub held : (i : ℕ) → holds js i ≡ (holds is i || passes i)
  pub out : AreOut e js

-- the rounds before a change became before': for these meetings they are xs now, for all others what they were
pub record CopiedFor (before before' xs is : List ℕ) : Type 0 where
  pub long : length before' ≡ length before
  pub now : (i : ℕ) → round_of before' i ≡ cond (holds is i) (round_of xs i) (round_of before i)

-- on the board d these wait, and can be put in one by one into one of r rounds
pub record CanPut (d : Board) (r : ℕ) (is : List ℕ) : Type 0 where
  pub v : Numbered
  pub meetings : meetings_on d ≡ v.list.meetings
  pub within : ManyWithin d.shape r
  pub spared : Spared r v
  pub waiting : WhilePutting r v is (rounds_on d)

-- the meeting that a change adds, which is the last of m
abbrev pub newcomer : ℕ → Change → List ℕ
newcomer m (Add x) = (m - 1) ∷ []
newcomer m (Drop i) = []
newcomer m GiveRoomUp = []
newcomer m GetRoom = []

-- on the board d a change can be noted, where there were r rounds: an added meeting is the last, and has no round yet; one that is
-- dropped has one
abbrev pub CanNote : Board → ℕ → Change → Type 0
CanNote d r (Add m) = (1 ≤ length (meetings_on d)) × (round_of (rounds_on d) (length (meetings_on d) - 1) ≡ none)
CanNote d r (Drop i) = (i.0 < length (meetings_on d)) × (round_of (rounds_on d) i.0 < r)
CanNote d r GiveRoomUp = ⊤
CanNote d r GetRoom = ⊤

-- a change is noted on the board d, which becomes e: the sizes are those of its rounds, a dropped meeting has no round from before,
-- and an added one waits
pub record Notes (d e : Board) (c : Change) (ns ns' bs bs' is : List ℕ) : Type 0 where
  pub board : Becomes d e (dropped (rounds_on d) c)
  pub sizes : ns' ≡ sizes_of (length ns) (dropped (rounds_on d) c)
  pub before : bs' ≡ dropped bs c
  pub waiting : is ≡ newcomer (length (meetings_on d)) c

-- the board d becomes e: where there were rounds up to from, those from to on are no more, and whoever is in one waits, beside those
-- that wait already; the sizes are those of the rounds then
pub record TakesRest (d e : Board) (from to : ℕ) (ns ns' is js : List ℕ) : Type 0 where
  pub board : Becomes d e (taken_out to (rounds_on d))
  pub sizes : ns' ≡ sizes_of (length ns) (taken_out to (rounds_on d))
  pub held : (i : ℕ) → holds js i ≡ (holds is i || goes d to from i)
  pub once : Once js
  pub rising : IsNonDecreasing js

-- v becomes w, which has found also those that these steps name
abbrev pub Touches : Found → Found → List Step → Type 0
Touches v w ts = Finds v w (with_new (found_in v) (all_named ts))

-- What is proved of the number of rounds, for every list. Statements; assumes nothing.
use Rattle.std.specs.Prelude.{◌≡◌, ℕ, ◌*◌, ◌<◌, ◌≤◌, ◌⊎◌, List, length}
use Rattle.meetings.specs.declared.numbers.Side.{Side}
use Rattle.meetings.specs.Lists.{Contents, parties}
use Rattle.fewest.specs.Plans.{Plan, Rooms}
use Rattle.fewest.specs.Rounds.{meetings_of, busiest, fewest}

-- r rounds suffice for the busiest, and have rooms enough
abbrev pub Suffices : Contents → ℕ → Type 0
Suffices d r = (busiest d ≤ r) × (length d.meetings ≤ r * d.rooms)

-- the busiest number is that of some party, or 0, and no party has more
abbrev pub Busiest : Type 0
Busiest =
    (d : Contents) →
    ((s : Side) (p : ℕ) → p < parties s d.groups d.stations → meetings_of s p d.meetings ≤ busiest d)
    × ((busiest d ≡ 0) ⊎ ((s : Side) × (p : ℕ) × (p < parties s d.groups d.stations) × (meetings_of s p d.meetings ≡ busiest d)))

-- the number of rounds is the least that suffices
abbrev pub Least : Contents → ℕ → Type 0
Least d r = Suffices d r × ((s : ℕ) → Suffices d s → r ≤ s)

abbrev pub FewestLeast : Type 0
FewestLeast = (d : Contents) → 1 ≤ d.rooms → Least d (fewest d)

-- there are no rounds exactly where there are no meetings
abbrev pub NoneWithoutMeetings : Type 0
NoneWithoutMeetings =
    (d : Contents) → 1 ≤ d.rooms →
    (fewest d ≡ 0 → length d.meetings ≡ 0) × (length d.meetings ≡ 0 → fewest d ≡ 0)

-- NO PLAN HAS FEWER: whoever made it, a plan within the rooms has so many rounds
abbrev pub LeastOfPlans : Contents → ℕ → Type 0
LeastOfPlans d r = (s : ℕ) (xs : List ℕ) → Plan s d.meetings xs → Rooms d.rooms s xs → r ≤ s

abbrev pub NoFewer : Type 0
NoFewer =
    (d : Contents) (r : ℕ) (xs : List ℕ) → 1 ≤ d.rooms → Plan r d.meetings xs → Rooms d.rooms r xs →
    Suffices d r × (fewest d ≤ r)

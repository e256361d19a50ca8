-- What the program tells of a day and a row of changes, and the plan that it writes. Assumes nothing.
use Rattle.std.specs.Prelude.{◌≡◌, ℕ, Bool, true, false, List, [], ◌∷◌, length, filter}
use Rattle.meetings.specs.Bytes.{read_list}
use Rattle.meetings.specs.Lists.{Contents}
use Rattle.meetings.specs.Refusals.{Outcome, accepted, then}
use Rattle.changes.specs.declared.change.Change.{Change}
use Rattle.changes.specs.declared.change.Change.TheVariants.{Add, Drop, GetRoom, GiveRoomUp}
use Rattle.changes.specs.declared.changed.Changed.{Changed}
use Rattle.changes.specs.Bytes.{read_row}
use Rattle.changes.specs.Days.{Day, first_day, rounds_of}
use Rattle.changes.specs.Numbered.{whole}
use Rattle.changes.specs.Told.{OfRow, RowPromised, last_day, told}
use Rattle.plans.specs.Checking.{checked_bytes, fine}
use Rattle.plans.specs.Given.{Given}

-- what is told of each change: the list is refused first, and then the row
abbrev pub told_of : List ℕ → List ℕ → Outcome (List Changed)
told_of day changes =
    then (read_list day) (λ d. then (read_row (whole d) changes) (λ cs. accepted (told (first_day d) cs)))

-- what is told keeps the promise of the row, with some rounds of the last day
abbrev pub KeepsPromise : List ℕ → List ℕ → List Changed → Type 0
KeepsPromise day changes ts = OfRow day changes (λ d cs. (xs : List ℕ) × RowPromised d cs ts xs)

-- the day that a list and a row come to
abbrev pub last_of : Contents → List Change → Day
last_of d cs = last_day (first_day d) cs

-- and its plan, with none for a meeting that was dropped
abbrev pub plan_last : Contents → List Change → Given
plan_last d cs = record { rounds = rounds_of (last_of d cs); at = (last_of d cs).at }

-- the checker accepts the plan that these bytes say, for all bytes that say the list
abbrev pub AcceptedFor : Contents → List ℕ → Type 0
AcceptedFor d plan = (day : List ℕ) → read_list day ≡ accepted d → checked_bytes day plan ≡ fine

abbrev pub adds : Change → Bool
adds (Add m) = true
adds (Drop i) = false
adds GiveRoomUp = false
adds GetRoom = false

-- how many meetings a row adds
abbrev pub added : List Change → ℕ
added cs = length (filter adds cs)

-- the number of rounds after the last of these, and r where there is none
abbrev pub rounds_after : ℕ → List Changed → ℕ
rounds_after r [] = r
rounds_after r (t ∷ ts) = rounds_after t.rounds ts

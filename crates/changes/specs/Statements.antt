-- What is proved of changes. Statements; assumes nothing.
use Rattle.std.specs.Prelude.{◌≡◌, ℕ, ◌+◌, ◌*◌, ◌<◌, ◌≤◌, true, ◌⊎◌, List, [], ◌∷◌, length, ◌≢◌}
use Rattle.meetings.specs.declared.numbers.MeetingId.{MeetingId}
use Rattle.fewest.specs.Plans.{none}
use Rattle.chains.specs.Chains.{holds}
use Rattle.chains.specs.Partial.{round_of}
use Rattle.placing.specs.Steps.{Step, Leads, all_named, exchange, put_in}
use Rattle.balance.specs.Sizes.{size, far}
use Rattle.changes.specs.declared.change.Change.{Change}
use Rattle.changes.specs.declared.change.Change.TheVariants.{Drop}
use Rattle.changes.specs.Days.{Day, Stands, numbered, rounds_of}
use Rattle.changes.specs.Making.{Made, after, put_waiting, start_of, waiting}
use Rattle.changes.specs.Numbered.{can, changed, rounds_for}
use Rattle.changes.specs.Rows.{CanAll}

-- a meeting that is put in has no round before: it is the new one, or its round is no more
abbrev pub Anew : Day → Change → ℕ → ℕ → Type 0
Anew d c r i = (length d.at ≤ i) ⊎ ((r ≤ round_of d.at i) × (round_of d.at i ≢ none))

-- each meeting that the steps put in is put in anew
abbrev pub PutsAnew : Day → Change → ℕ → List Step → Type 0
PutsAnew d c r [] = Unit {0}
PutsAnew d c r (exchange a b is ∷ ts) = PutsAnew d c r ts
PutsAnew d c r (put_in i x ∷ ts) = Anew d c r i × PutsAnew d c r ts

-- the looks: for each meeting that is put in one, and at most n + k on its chain; then for each exchange at most n + k, and
-- there are no more exchanges than the rounds are far from even
abbrev pub looks_at_most : Day → Change → ℕ
looks_at_most d c =
    length (waiting (changed (numbered d) c).there (start_of d c)) * (1 + d.list.groups + d.list.stations)
    + far (rounds_for (changed (numbered d) c)) (size (put_waiting (rounds_for (changed (numbered d) c)) (changed (numbered d) c) (start_of d c)).rounds) * (d.list.groups + d.list.stations)

-- WHAT A CHANGE LEAVES: the meetings that there are then, a day that stands, made from the day before by allowed steps; who is
-- named by no step and was not dropped has the round from before; who is put in is put in anew; and looks are bounded
pub record ChangeStands (d : Day) (c : Change) (e : Made) : Type 0 where
  pub list : numbered e.day ≡ changed (numbered d) c
  pub stands : Stands e.day
  pub leads : Leads (rounds_of e.day) e.day.list.meetings e.steps (start_of d c) e.day.at
  pub anew : PutsAnew d c (rounds_of e.day) e.steps
  pub others : (i : ℕ) → i < length d.at → (round_of e.day.at i ≢ round_of d.at i) → ((j : MeetingId) × (c ≡ Drop j) × (j.0 ≡ i)) ⊎ (holds (all_named e.steps) i ≡ true)
  pub looks : e.looks ≤ looks_at_most d c

-- EVERY CHANGE that can be made leaves a day that stands
abbrev pub EveryChange : Type 0
EveryChange = (d : Day) (c : Change) → Stands d → can (numbered d) c ≡ true → ChangeStands d c (after d c)

-- so it is of each change of a row
abbrev pub AllStand : Day → List Change → Type 0
AllStand d [] = Unit {0}
AllStand d (c ∷ cs) = ChangeStands d c (after d c) × AllStand (after d c).day cs

-- EVERY ROW of changes of which each can be made when its turn comes
abbrev pub EveryRow : Type 0
EveryRow = (d : Day) (cs : List Change) → Stands d → CanAll (numbered d) cs → AllStand d cs

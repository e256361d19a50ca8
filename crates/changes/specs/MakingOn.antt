-- What is asked where a change is made on a board, and what is left. Assumes nothing.
use Rattle.std.specs.Prelude.{◌≡◌, ℕ, true, List}
use Rattle.meetings.specs.declared.numbers.Meeting.{Meeting}
use Rattle.chains.specs.declared.shapes.Shape.{Shape}
use Rattle.chains.specs.Rows.{ManyWithin}
use Rattle.changes.specs.declared.change.Change.{Change}
use Rattle.changes.specs.declared.changed.Changed.{Changed}
use Rattle.changes.specs.Days.{Day, Stands, numbered, rounds_of}
use Rattle.changes.specs.Making.{after, grown}
use Rattle.changes.specs.Numbered.{can, changed, list_after, rounds_for}
use Rattle.changes.specs.Told.{told_of}

-- before a change of the day d, which stands: a board of this shape has the meetings ms, which are those that have a number after the
-- change, in the rounds xs; there are so many rounds, and will be so many
pub record BeforeChange (d : Day) (c : Change) (ms : List Meeting) (z : Shape) (xs : List ℕ) (from to : ℕ) : Type 0 where
  pub stands : Stands d
  pub may : can (numbered d) c ≡ true
  pub meetings : ms ≡ (list_after d.list c).meetings
  pub rounds : xs ≡ grown d.at c
  pub groups : z.groups ≡ d.list.groups
  pub stations : z.stations ≡ d.list.stations
  pub now : from ≡ rounds_of d
  pub then : to ≡ rounds_for (changed (numbered d) c)
  pub within_now : ManyWithin z from
  pub within_then : ManyWithin z to

-- and after it: the rounds are those of the next day, and that is told
pub record AfterChange (d : Day) (c : Change) (xs : List ℕ) (t : Changed) : Type 0 where
  pub rounds : xs ≡ (after d c).day.at
  pub told : t ≡ told_of d (after d c).day (after d c).looks

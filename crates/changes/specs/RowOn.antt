-- What is asked where a row of changes is made in lent slices. Assumes nothing.
use Rattle.std.specs.Prelude.{◌≡◌, ℕ, ◌-◌, ◌<◌, ◌≤◌, max, cond, List, ◌++◌, length, replicate, slice_index, take, nat_lt, vec_items}
use Rattle.meetings.specs.declared.numbers.Meeting.{Meeting}
use Rattle.meetings.specs.Held.{contents}
use Rattle.meetings.specs.Lists.{Contents}
use Rattle.meetings.specs.Refusals.{Outcome, refused}
use Rattle.fewest.specs.Plans.{none}
use Rattle.fewest.specs.Rounds.{fewest, largest}
use Rattle.chains.specs.declared.shapes.Shape.{Shape}
use Rattle.chains.specs.Rows.{ManyWithin}
use Rattle.chains.specs.Shapes.{lent_shape, width}
use Rattle.changes.specs.declared.change.Change.{Change}
use Rattle.changes.specs.declared.change.Change.TheVariants.{Add, Drop, GetRoom, GiveRoomUp}
use Rattle.changes.specs.declared.row.Row.{Row}
use Rattle.changes.specs.Days.{Day, Stands, numbered, rounds_of}
use Rattle.changes.specs.Numbered.{whole}
use Rattle.changes.specs.Rows.{CanAll, changed_all, rounds_after}

-- how many numbers a change gives out
abbrev pub added : Change → ℕ
added (Add m) = 1
added (Drop i) = 0
added GiveRoomUp = 0
added GetRoom = 0

-- the day before a row of changes, where the lent rounds are xs
abbrev pub day_before : Row → List ℕ → Day
day_before w xs = record { list = contents w.list.now; at = take (length (contents w.list.now).meetings) xs }

-- the day d stands, and these changes can be made; ms are the meetings that have a number in the end, rs the numbers of rounds that
-- there will be, all within the rows, and xs the rounds of d, with none for the meetings that are still to come
pub record CanMakeRow (d : Day) (cs : List Change) (ms : List Meeting) (rs : List ℕ) (z : Shape) (xs : List ℕ) (from : ℕ) : Type 0 where
  pub stands : Stands d
  pub can : CanAll (numbered d) cs
  pub all : ms ≡ (changed_all (numbered d) cs).list.meetings
  pub after : rs ≡ rounds_after (numbered d) cs
  pub at : xs ≡ d.at ++ replicate (length ms - length d.at) none
  pub groups : z.groups ≡ d.list.groups
  pub stations : z.stations ≡ d.list.stations
  pub now : from ≡ rounds_of d
  pub within_now : ManyWithin z from
  pub within : (i : ℕ) → i < length rs → ManyWithin z (slice_index rs i)

-- the most rounds that there ever are
abbrev pub most_rounds : Row → ℕ
most_rounds w = max w.rounds (largest (vec_items w.tested.rounds))

-- a row that was tested, in slices of this shape that are long enough for it: m meetings have a number in the end
pub record CanMakeFirst (w : Row) (z : Shape) (m : ℕ) : Type 0 where
  pub can : CanAll (whole (contents w.list.now)) w.changes.now
  pub all : vec_items w.tested.meetings ≡ (changed_all (whole (contents w.list.now)) w.changes.now).list.meetings
  pub after : vec_items w.tested.rounds ≡ rounds_after (whole (contents w.list.now)) w.changes.now
  pub many : m ≡ length (vec_items w.tested.meetings)
  pub now : w.rounds ≡ fewest (contents w.list.now)
  pub groups : z.groups ≡ (contents w.list.now).groups
  pub stations : z.stations ≡ (contents w.list.now).stations
  pub within : ManyWithin z (most_rounds w)

-- the shape for m meetings and r rounds, of parties of a list: a slice that is too short is refused
abbrev pub shape_of_row : Contents → ℕ → ℕ → ℕ → ℕ → ℕ → Outcome Shape
shape_of_row d m r long_rounds long_groups long_stations =
    cond (nat_lt long_rounds m) (refused 5 0) (lent_shape d r long_rounds long_groups long_stations)

-- slices that are long enough for the plan of a list
pub record LongEnough (d : Contents) (long_rounds long_groups long_stations : ℕ) : Type 0 where
  pub rounds : length d.meetings ≤ long_rounds
  pub groups : fewest d ≤ width d.groups long_groups
  pub stations : fewest d ≤ width d.stations long_stations

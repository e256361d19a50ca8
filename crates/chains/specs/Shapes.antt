-- How wide the rows of lent slices are, and when these are too short. Assumes nothing.
use Rattle.std.specs.Prelude.{◌≡◌, ℕ, ◌*◌, ◌/◌, ◌≤◌, min, cond, List, length, nat_lt}
use Rattle.meetings.specs.declared.numbers.Meeting.{Meeting}
use Rattle.meetings.specs.declared.refusal.Lent.{Lent}
use Rattle.meetings.specs.Lists.{Contents, Exist}
use Rattle.meetings.specs.Refusals.{Outcome, accepted, refused, place_of_lent}
use Rattle.fewest.specs.Plans.{none}
use Rattle.chains.specs.declared.shapes.Shape.{Shape}

-- a slice has one row for each party, and each is as wide as there is room; a round is below 65,535
abbrev pub width : ℕ → ℕ → ℕ
width n long = min (long / n) none

-- the width of such rows where they have a place for each of r rounds; else the slice is too short
abbrev pub lent_width : ℕ → ℕ → ℕ → Lent → Outcome ℕ
lent_width n long r which = cond (nat_lt (width n long) r) (refused 5 (place_of_lent which)) (accepted (width n long))

abbrev pub shape_of : Contents → ℕ → ℕ → Shape
shape_of d long_groups long_stations = record {
  groups = d.groups;
  group_width = width d.groups long_groups;
  stations = d.stations;
  station_width = width d.stations long_stations;
}

-- slices of these lengths for a plan of r rounds: the first that is too short is refused
abbrev pub lent_shape : Contents → ℕ → ℕ → ℕ → ℕ → Outcome Shape
lent_shape d r long_rounds long_groups long_stations =
    cond (nat_lt long_rounds (length d.meetings)) (refused 5 0)
    (cond (nat_lt (width d.groups long_groups) r) (refused 5 1)
    (cond (nat_lt (width d.stations long_stations) r) (refused 5 2)
    (accepted (shape_of d long_groups long_stations))))

-- slices as long as a board of this shape asks for: xs for the rounds, gs and ss for the rows
pub record Sized (ms : List Meeting) (z : Shape) (xs gs ss : List ℕ) : Type 0 where
  pub few : length ms ≤ none
  pub each : length xs ≡ length ms
  pub exist : Exist z.groups z.stations ms
  pub group_narrow : z.group_width ≤ none
  pub station_narrow : z.station_width ≤ none
  pub group_room : z.groups * z.group_width ≤ length gs
  pub station_room : z.stations * z.station_width ≤ length ss

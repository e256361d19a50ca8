-- What the code's tally holds. Assumes nothing.
use Rattle.std.specs.Prelude.{◌≡◌, ℕ, ◌+◌, ◌-◌, ◌<◌, List, length, vec_items, slice_index, slice_set}
use Rattle.meetings.specs.declared.numbers.Meeting.{Meeting}
use Rattle.meetings.specs.declared.numbers.Side.{Side}
use Rattle.meetings.specs.declared.numbers.Side.TheVariants.{Groups, Stations}
use Rattle.meetings.specs.Lists.{Contents}
use Rattle.fewest.specs.declared.tally.Tally.{Tally}
use Rattle.fewest.specs.Rounds.{meetings_of, numbers}

-- each entry is the number of meetings of that party
abbrev pub Tallied : Side → List Meeting → List ℕ → Type 0
Tallied s ms xs = (p : ℕ) → p < length xs → slice_index xs p ≡ meetings_of s p ms

-- a tally of the meetings of a list
pub record Counts (d : Contents) (t : Tally) : Type 0 where
  pub of_groups : vec_items t.groups ≡ numbers Groups d
  pub of_stations : vec_items t.stations ≡ numbers Stations d

-- one meeting of party p more, and one fewer
abbrev pub one_more : List ℕ → ℕ → List ℕ
one_more xs p = slice_set xs p (slice_index xs p + 1)

abbrev pub one_fewer : List ℕ → ℕ → List ℕ
one_fewer xs p = slice_set xs p (slice_index xs p - 1)

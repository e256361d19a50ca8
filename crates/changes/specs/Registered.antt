-- What the code's register of meetings holds. Assumes nothing.
use Rattle.std.specs.Prelude.{◌≡◌, length, vec_items}
use Rattle.meetings.specs.Lists.{Proper}
use Rattle.fewest.specs.Tallies.{Counts}
use Rattle.changes.specs.declared.change.Change.{Change}
use Rattle.changes.specs.declared.register.Register.{Register}
use Rattle.changes.specs.Numbered.{Numbered, changed, left}

abbrev pub registered : Register → Numbered
registered n = record {
  list = record { groups = n.groups; stations = n.stations; rooms = n.rooms; meetings = vec_items n.meetings };
  there = vec_items n.there;
}

-- the list is proper and has a mark for each meeting, and the tally is that of the meetings that there are
pub record Agrees (n : Register) : Type 0 where
  pub proper : Proper (registered n).list
  pub each : length (registered n).there ≡ length (registered n).list.meetings
  pub tally : Counts (left (registered n)) n.tally
  pub many : n.many ≡ length (left (registered n)).meetings

-- a register n becomes o by a change
pub record ByChange (n o : Register) (c : Change) : Type 0 where
  pub is : registered o ≡ changed (registered n) c
  pub kept : Agrees o

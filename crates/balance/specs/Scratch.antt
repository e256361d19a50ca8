-- What planning works with, before it begins. Assumes nothing.
use Rattle.std.specs.Prelude.{◌≡◌, ℕ, ◌≤◌, List, length, vec_items, vec_capacity}
use Rattle.meetings.specs.declared.numbers.Meeting.{Meeting}
use Rattle.chains.specs.declared.shapes.Shape.{Shape}
use Rattle.chains.specs.Finding.{Unused, among_all}
use Rattle.balance.specs.declared.scratch.Scratch.{Scratch}
use Rattle.balance.specs.OnBoard.{RoomForTwo}

-- a size for each of r rounds, room for the meetings of two rounds, nothing found yet, and marks for what is touched
pub record Blank (s : Scratch) (ms : List Meeting) (z : Shape) (r : ℕ) : Type 0 where
  pub rounds : length (vec_items s.sizes) ≡ r
  pub enough : RoomForTwo z (vec_capacity s.ordered)
  pub unused : Unused s.found (length ms)
  pub touched : length ms ≤ among_all s.touched

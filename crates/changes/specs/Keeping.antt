-- What is kept beside the board from one change to the next. Assumes nothing.
use Rattle.std.specs.Prelude.{◌≡◌, ℕ, ◌≤◌, List, length, vec_capacity, vec_items}
use Rattle.chains.specs.declared.shapes.Shape.{Shape}
use Rattle.chains.specs.Finding.{Unused}
use Rattle.chains.specs.Partial.{round_of}
use Rattle.balance.specs.OnBoard.{RoomForTwo}
use Rattle.balance.specs.Sizes.{sizes_of}
use Rattle.changes.specs.declared.kept.Kept.{Kept}

-- room for m meetings, r rounds and the meetings of two rounds, and nothing found yet
pub record Room (k : Kept) (z : Shape) (m r : ℕ) : Type 0 where
  pub rounds : length (vec_items k.sizes) ≡ r
  pub meetings : length (vec_items k.before) ≡ m
  pub waiting : m ≤ vec_capacity k.waiting
  pub ordered : RoomForTwo z (vec_capacity k.ordered)
  pub found : Unused k.found m
  pub touched : Unused k.touched m

-- beside a board of this shape with the rounds xs: their sizes, and these rounds as those before the next change
pub record Beside (z : Shape) (xs : List ℕ) (k : Kept) (m r : ℕ) : Type 0 where
  pub room : Room k z m r
  pub sizes : vec_items k.sizes ≡ sizes_of r xs
  pub before : (i : ℕ) → round_of (vec_items k.before) i ≡ round_of xs i

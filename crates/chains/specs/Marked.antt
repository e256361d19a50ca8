-- The marks of what was found. Assumes nothing.
use Rattle.std.specs.Prelude.{◌≡◌, ℕ, ◌+◌, ◌<◌, ◌≤◌, Bool, true, false, List, length, slice_index_or}
use Rattle.chains.specs.Chains.{holds, left_of}

-- just those in the list are marked, and there is room for all that are left
pub record Marked (set : List Bool) (is : List ℕ) (capacity : ℕ) : Type 0 where
  pub marks : (i : ℕ) → i < length set → slice_index_or set i false ≡ holds is i
  pub within : (i : ℕ) → holds is i ≡ true → i < length set
  pub counted : length is + left_of (holds is) (length set) ≤ length set
  pub room : length set ≤ capacity

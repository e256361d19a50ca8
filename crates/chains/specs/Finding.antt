-- The meetings that were found while chains are followed: in a list, and marked. Assumes nothing.
use Rattle.std.specs.Prelude.{◌≡◌, ℕ, ◌≤◌, cond, List, [], ◌∷◌, ◌++◌, length, vec_items}
use Rattle.chains.specs.declared.found.Found.{Found}
use Rattle.chains.specs.Chains.{holds}

-- the meetings found, in their order
abbrev pub found_in : Found → List ℕ
found_in v = vec_items v.list

-- how many meetings there are in all
abbrev pub among_all : Found → ℕ
among_all v = length (vec_items v.marks)

-- v becomes w, which has found these
pub record Finds (v w : Found) (is : List ℕ) : Type 0 where
  pub among : among_all w ≡ among_all v
  pub list : found_in w ≡ is

-- nothing found yet, among just m meetings
pub record NoneFound (v : Found) (m : ℕ) : Type 0 where
  pub empty : found_in v ≡ []
  pub all : among_all v ≡ m

-- nothing found yet, among m meetings or more
pub record Unused (v : Found) (m : ℕ) : Type 0 where
  pub empty : found_in v ≡ []
  pub enough : m ≤ among_all v

-- a list of meetings with some more: those of them that it did not have
abbrev pub with_new : List ℕ → List ℕ → List ℕ
with_new is [] = is
with_new is (j ∷ js) = with_new (cond (holds is j) is (is ++ j ∷ [])) js

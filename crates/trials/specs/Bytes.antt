-- The bytes of a list of pairs. Assumes nothing.
use Rattle.std.specs.Prelude.{ℕ, ◌/◌, ◌%◌, List, [], ◌∷◌, length}
use Rattle.std.specs.List.{flat_map}

-- each pair is its two bytes
abbrev pub bytes_of_pairs : List (ℕ × ℕ) → List ℕ
bytes_of_pairs = flat_map (λ m. m.0 ∷ m.1 ∷ [])

-- groups, stations, rooms, how many meetings by the low byte and the high one, and each meeting by its group and its station
abbrev pub bytes_of_list : ℕ → ℕ → ℕ → List (ℕ × ℕ) → List ℕ
bytes_of_list n k q ms = n ∷ k ∷ q ∷ length ms % 256 ∷ length ms / 256 % 256 ∷ bytes_of_pairs ms

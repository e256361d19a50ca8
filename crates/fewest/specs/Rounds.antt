-- How often each party meets, the busiest, and the number of rounds. Assumes nothing.
use Rattle.std.specs.Prelude.{ℕ, ◌+◌, ◌-◌, ◌/◌, max, List, [], ◌∷◌, map, length, count_by, nat_eq}
use Rattle.std.specs.List.{range_with_len}
use Rattle.meetings.specs.declared.numbers.Meeting.{Meeting}
use Rattle.meetings.specs.declared.numbers.Side.{Side}
use Rattle.meetings.specs.declared.numbers.Side.TheVariants.{Groups, Stations}
use Rattle.meetings.specs.Lists.{Contents, party, parties}

-- how many meetings of a list a group or a station has
abbrev pub meetings_of : Side → ℕ → List Meeting → ℕ
meetings_of s p ms = count_by (λ m. nat_eq (party s m) p) ms

-- that of each party of a side, by its number
abbrev pub numbers : Side → Contents → List ℕ
numbers s d = map (λ p. meetings_of s p d.meetings) (range_with_len 0 (parties s d.groups d.stations))

abbrev pub largest : List ℕ → ℕ
largest [] = 0
largest (x ∷ xs) = max x (largest xs)

-- the most meetings that a group or a station has
abbrev pub busiest : Contents → ℕ
busiest d = max (largest (numbers Groups d)) (largest (numbers Stations d))

-- a number divided by another, rounded down and up
abbrev pub divided_down : ℕ → ℕ → ℕ
divided_down m q = m / q

abbrev pub divided_up : ℕ → ℕ → ℕ
divided_up m q = (m + (q - 1)) / q

-- meetings divided by rooms, rounded up
abbrev pub rounds_by_rooms : Contents → ℕ
rounds_by_rooms d = divided_up (length d.meetings) d.rooms

-- THE NUMBER OF ROUNDS
abbrev pub fewest : Contents → ℕ
fewest d = max (busiest d) (rounds_by_rooms d)

-- Small days with their number of rounds: one table. Definitions and a statement; assumes nothing.
use Rattle.std.specs.Prelude.{◌≡◌, ℕ, All, List, [], ◌∷◌}
use Rattle.meetings.specs.declared.numbers.Meeting.{Meeting}
use Rattle.meetings.specs.Lists.{Contents, meeting}
use Rattle.fewest.specs.Rounds.{fewest}

pub record Worked : Type 0 where
  pub day : Contents
  pub rounds : ℕ

-- groups, stations, meetings, rooms, rounds
abbrev pub row : ℕ → ℕ → List Meeting → ℕ → ℕ → Worked
row n k ms q r = record { day = record { groups = n; stations = k; rooms = q; meetings = ms }; rounds = r }

abbrev pub days : List Worked
days =
    row 2 2 (meeting 0 0 ∷ meeting 0 1 ∷ meeting 1 0 ∷ meeting 1 1 ∷ []) 2 2
    ∷ row 3 3 (meeting 0 0 ∷ meeting 1 1 ∷ meeting 2 2 ∷ []) 1 3
    ∷ row 1 2 (meeting 0 0 ∷ meeting 0 0 ∷ meeting 0 1 ∷ []) 9 3
    ∷ row 1 1 [] 4 0
    ∷ row 3 3 (meeting 0 0 ∷ meeting 0 1 ∷ meeting 0 2 ∷ meeting 1 0 ∷ meeting 2 0 ∷ []) 2 3
    ∷ []

abbrev pub DaysRight : Type 0
DaysRight = All (λ w. fewest w.day ≡ w.rounds) days

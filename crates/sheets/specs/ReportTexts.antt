-- How reports are printed. Assumes nothing.
use Rattle.std.specs.Prelude.{ℕ, ◌+◌, List, [], ◌∷◌, ◌++◌, codes, decimal}
use Rattle.changes.specs.declared.changed.Changed.{Changed}
use Rattle.sheets.specs.Reports.{Told}

-- a line for each number of a list, with its place, which is counted from i on
abbrev pub numbered_lines : List ℕ → List ℕ → ℕ → List ℕ → List ℕ
numbered_lines one other i [] = []
numbered_lines one other i (x ∷ xs) = (one ++ (decimal i ++ (other ++ (decimal x ++ 10 ∷ [])))) ++ numbered_lines one other (i + 1) xs

-- THE REPORT of a plan: the number of rounds and of looks, how many meetings each round has, and the round of each meeting
abbrev pub report_text : Told → List ℕ
report_text t =
    (codes "rounds " ++ (decimal t.rounds ++ (codes " looks " ++ (decimal t.looks ++ 10 ∷ []))))
    ++ (numbered_lines (codes "round ") (codes " meetings ") 0 t.of_rounds ++ numbered_lines (codes "meeting ") (codes " round ") 0 t.of_meetings)

-- what is printed of a change
abbrev pub change_text : Changed → List ℕ
change_text c = codes "rounds " ++ (decimal c.rounds ++ (codes " moved " ++ (decimal c.moved ++ 10 ∷ [])))

-- THE REPORT of a row of changes: a line for each
abbrev pub changes_text : List Changed → List ℕ
changes_text [] = []
changes_text (c ∷ cs) = change_text c ++ changes_text cs

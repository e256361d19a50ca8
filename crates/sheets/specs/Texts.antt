-- How sheets are printed: each party's sheet with a line for each round, in columns. Assumes nothing.
use Rattle.std.specs.Prelude.{ℕ, zero, suc, ◌+◌, ◌-◌, ◌^◌, Option, Some, None, List, [], ◌∷◌, ◌++◌, length, codes, decimal}
use Rattle.std.specs.Fmt.{format_spec, styled_decimal}
use Rattle.meetings.specs.declared.numbers.Side.{Side}
use Rattle.meetings.specs.declared.numbers.Side.TheVariants.{Groups, Stations}
use Rattle.meetings.specs.Bytes.{read_list}
use Rattle.meetings.specs.Lists.{Contents}
use Rattle.meetings.specs.Refusals.{Outcome, accepted, then}
use Rattle.plans.specs.Bytes.{read_plan}
use Rattle.plans.specs.Checking.{checked}
use Rattle.sheets.specs.Met.{row_of}

-- a number at the right end of a column that is so wide
abbrev pub in_column : ℕ → ℕ → List ℕ
in_column width x = styled_decimal (format_spec 32 3 0 width (2 ^ 64 - 1)) x

-- a round, and whom the party meets there
abbrev pub line_text : ℕ → Option ℕ → List ℕ
line_text c None = in_column 5 c ++ codes "     free"
line_text c (Some v) = in_column 5 c ++ (codes "  " ++ in_column 7 v)

-- the lines of a row from round c on, each with its end
abbrev pub lines_text : ℕ → List (Option ℕ) → List ℕ
lines_text c [] = []
lines_text c (o ∷ os) = line_text c o ++ 10 ∷ lines_text (c + 1) os

abbrev pub title : Side → ℕ → List ℕ
title Groups p = codes "group " ++ decimal p
title Stations p = codes "station " ++ decimal p

abbrev pub heading : Side → List ℕ
heading Groups = codes "round  station"
heading Stations = codes "round    group"

-- A SHEET: whose it is, what the columns are, the rounds, and an empty line
abbrev pub sheet_text : Side → ℕ → List (Option ℕ) → List ℕ
sheet_text s p row = title s p ++ (10 ∷ heading s ++ (10 ∷ lines_text 0 row ++ 10 ∷ []))

-- the sheets of so many parties from p on
abbrev pub side_text : Side → (ℕ → List (Option ℕ)) → ℕ → ℕ → List ℕ
side_text s rows zero p = []
side_text s rows (suc left) p = sheet_text s p (rows p) ++ side_text s rows left (suc p)

-- those of groups, and then those of stations
abbrev pub both_text : ℕ → ℕ → (Side → ℕ → List (Option ℕ)) → List ℕ
both_text n k rows = side_text Groups (rows Groups) n 0 ++ side_text Stations (rows Stations) k 0

-- ALL SHEETS of a plan
abbrev pub plan_text : Contents → ℕ → List ℕ → List ℕ
plan_text d r xs = both_text d.groups d.stations (row_of r d.meetings xs)

-- THE RULE FOR PRINTING the sheets of a list and a plan that bytes say: the list is refused first, then the plan as checking it does
abbrev pub printed : List ℕ → List ℕ → Outcome (List ℕ)
printed day plan =
    then (read_list day) (λ d. then (read_plan (length d.meetings) plan) (λ p. then (checked d p.rounds p.at) (λ _. accepted (plan_text d p.rounds p.at))))

-- What the sheets hold. Assumes nothing.
use Rattle.std.specs.Prelude.{◌≡◌, ℕ, ◌*◌, ◌<◌, Option, List, length, take, drop, vec_items}
use Rattle.meetings.specs.declared.numbers.Side.{Side}
use Rattle.meetings.specs.declared.numbers.Side.TheVariants.{Groups, Stations}
use Rattle.meetings.specs.Lists.{Contents, parties}
use Rattle.sheets.specs.declared.sheets.Sheets.{Sheets}
use Rattle.sheets.specs.Met.{row_of}

-- the entries of a side: its rows, one after the other
abbrev pub entries : Side → Sheets → List (Option ℕ)
entries Groups v = vec_items v.groups
entries Stations v = vec_items v.stations

-- the row of a party
abbrev pub row_in : Sheets → Side → ℕ → List (Option ℕ)
row_in v s p = take v.rounds (drop (p * v.rounds) (entries s v))

-- the rows of a side, of a plan
pub record RowsOf (d : Contents) (r : ℕ) (xs : List ℕ) (s : Side) (es : List (Option ℕ)) : Type 0 where
  pub long : length es ≡ parties s d.groups d.stations * r
  pub rows : (p : ℕ) → p < parties s d.groups d.stations → take r (drop (p * r) es) ≡ row_of r d.meetings xs s p

-- THE SHEETS OF A PLAN: for each group and each station its row
pub record SheetsOf (d : Contents) (r : ℕ) (xs : List ℕ) (v : Sheets) : Type 0 where
  pub rounds : v.rounds ≡ r
  pub of_groups : RowsOf d r xs Groups (vec_items v.groups)
  pub of_stations : RowsOf d r xs Stations (vec_items v.stations)

-- The text of sheets: one more is added, and the same rows give the same text. Assumes nothing.
use Rattle.std.proofs.Common.{◌≡◌, ℕ, zero, suc, ◌+◌, ◌-◌, ◌*◌, ◌<◌, Option, List, ◌++◌, take, drop, sym, refl, ap, ◌∙◌, append_assoc, arith}
use Rattle.meetings.specs.declared.numbers.Side.{Side}
use Rattle.meetings.specs.declared.numbers.Side.TheVariants.{Groups, Stations}
use Rattle.meetings.specs.Lists.{Contents, parties}
use Rattle.sheets.specs.declared.sheets.Sheets.{Sheets}
use Rattle.sheets.specs.Met.{row_of}
use Rattle.sheets.specs.Texts.{both_text, plan_text, sheet_text, side_text}
use Rattle.sheets.specs.Told.{RowsOf, SheetsOf, entries, row_in}

pub sheet_added : (s : Side) (rows : ℕ → List (Option ℕ)) (many p : ℕ) (came now : List ℕ) {whole : List ℕ} → p < many → came ++ side_text s rows (many - p) p ≡ whole → now ≡ came ++ sheet_text s p (rows p) → now ++ side_text s rows (many - (p + 1)) (p + 1) ≡ whole
sheet_added s rows many p came now h inv added =
    let less : many - p ≡ suc (many - (p + 1)) = omega arith in
    let one : suc p ≡ p + 1 = omega arith in
    ap (λ l. l ++ side_text s rows (many - (p + 1)) (p + 1)) added
    ∙ append_assoc came (sheet_text s p (rows p)) (side_text s rows (many - (p + 1)) (p + 1))
    ∙ ap (λ n. came ++ (sheet_text s p (rows p) ++ side_text s rows (many - (p + 1)) n)) (sym one)
    ∙ ap (λ n. came ++ side_text s rows n p) (sym less)
    ∙ inv

side_same : (s : Side) (f g : ℕ → List (Option ℕ)) (many p : ℕ) → ((q : ℕ) → q < p + many → f q ≡ g q) → side_text s f many p ≡ side_text s g many p
side_same s f g zero p same = refl
side_same s f g (suc many) p same =
    ap (λ row. sheet_text s p row ++ side_text s f many (suc p)) (same p (omega arith))
    ∙ ap (λ l. sheet_text s p (g p) ++ l) (side_same s f g many (suc p) (λ q h. same q (omega arith)))

-- the sheets of a plan are printed as the rows of the plan
pub printed_as_plan : (d : Contents) (r : ℕ) (xs : List ℕ) (v : Sheets) → SheetsOf d r xs v → both_text d.groups d.stations (row_in v) ≡ plan_text d r xs
printed_as_plan d r xs v of =
    ap (λ l. l ++ side_text Stations (row_in v Stations) d.stations 0) (side_same Groups (row_in v Groups) (row_of r d.meetings xs Groups) d.groups 0 (λ p h. same Groups p (omega arith) of.of_groups))
    ∙ ap (λ l. side_text Groups (row_of r d.meetings xs Groups) d.groups 0 ++ l) (side_same Stations (row_in v Stations) (row_of r d.meetings xs Stations) d.stations 0 (λ p h. same Stations p (omega arith) of.of_stations))
  where
    same : (s : Side) (p : ℕ) → p < parties s d.groups d.stations → RowsOf d r xs s (entries s v) → row_in v s p ≡ row_of r d.meetings xs s p
    same s p h told = ap (λ n. take n (drop (p * n) (entries s v))) of.rounds ∙ told.rows p h

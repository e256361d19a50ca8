-- When all meetings are entered, the rows are those of the plan. Assumes nothing.
use Rattle.std.proofs.Common.{◌≡◌, ℕ, ◌+◌, ◌*◌, ◌<◌, ◌≤◌, Option, None, List, length, get_or, take, drop, sym, ◌∙◌, mul-le-mul_right, suc-mul, arith}
use Rattle.std.proofs.lemmas.List.{ext_get_or, get_or-drop, get_or-take, length-drop, length-take-le}
use Rattle.std.proofs.lemmas.List.FromFn.{get_or-map-range_with_len, length-map-range_with_len}
use Rattle.meetings.specs.declared.numbers.Side.{Side}
use Rattle.meetings.specs.Lists.{Contents, parties}
use Rattle.fewest.specs.Plans.{none}
use Rattle.chains.specs.Partial.{Partial}
use Rattle.sheets.specs.Entered.{Entered}
use Rattle.sheets.specs.Met.{met, row_of}
use Rattle.sheets.specs.Told.{RowsOf}
use Rattle.sheets.proofs.Meeting.{entry_is}

module _ (d : Contents) (r : ℕ) (xs : List ℕ) (s : Side) (few : length d.meetings ≤ none) (le : r ≤ none) (part : Partial r d.meetings xs) (es : List (Option ℕ)) (long : length es ≡ parties s d.groups d.stations * r) (entered : Entered d.meetings xs s r (length d.meetings) es) where
  -- the row of a party lies within
  ends_within : (p : ℕ) → p < parties s d.groups d.stations → p * r + r ≤ length es
  ends_within p h = let more = suc-mul p r in omega (arith, long, mul-le-mul_right r h)

  row_long : (p : ℕ) → p < parties s d.groups d.stations → length (take r (drop (p * r) es)) ≡ r
  row_long p h = length-take-le r (drop (p * r) es) (omega (arith, length-drop (p * r) es, ends_within p h))

  entry_told : (p c : ℕ) → p < parties s d.groups d.stations → c < r → get_or (take r (drop (p * r) es)) c None ≡ get_or (row_of r d.meetings xs s p) c None
  entry_told p c h within =
      get_or-take r (drop (p * r) es) c None within
      ∙ get_or-drop (p * r) es c None
      ∙ entry_is r d.meetings xs s p c few le part within (get_or es (p * r + c) None) (entered.each p c within (omega (arith, ends_within p h)))
      ∙ sym (get_or-map-range_with_len (met d.meetings xs s p) 0 r c c None within (omega arith))

  pub rows_told : RowsOf d r xs s es
  rows_told = record {
    long = long;
    rows = λ p h.
        let same : length (take r (drop (p * r) es)) ≡ length (row_of r d.meetings xs s p) = row_long p h ∙ sym (length-map-range_with_len (met d.meetings xs s p) 0 r) in
        ext_get_or None (take r (drop (p * r) es)) (row_of r d.meetings xs s p) same (λ c hc. entry_told p c h (omega (arith, row_long p h)));
  }

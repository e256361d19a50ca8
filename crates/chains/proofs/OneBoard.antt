-- The rounds say what the rows hold: each entry is the meeting that the party has in the round. Assumes nothing.
use Rattle.std.proofs.Common.{◌≡◌, ℕ, ◌+◌, ◌-◌, ◌*◌, ◌/◌, ◌%◌, ◌<◌, ◌≤◌, List, length, get_or, sym, ap, ◌∙◌, ⊎_elim, mod-lt, div-lt_iff_lt-mul, mul-zero, div-add-mod', arith}
use Rattle.std.proofs.lemmas.List.{same_lists, get_or-drop, get_or_default}
use Rattle.std.proofs.lemmas.Bool.{cases_lt, cases_eq}
use Rattle.fewest.specs.Plans.{none}
use Rattle.chains.specs.Rows.{Rows, Beyond}
use Rattle.chains.specs.Statements.{OneBoard}
use Rattle.chains.proofs.Entries.{entry_at}

module _ (m : ℕ) (party rnd : ℕ → ℕ) (few : m ≤ none) (n w : ℕ) (rows rows' : List ℕ) (one : Rows m party rnd n w rows) (other : Rows m party rnd n w rows') where
  same_entry : (k : ℕ) → k < n * w → get_or rows k 0 ≡ get_or rows' k 0
  same_entry k h =
      let some : 0 < w = ⊎_elim (λ e. absurd (omega (arith, ap (λ x. n * x) e, mul-zero n))) (λ e. omega arith) (cases_eq w 0) in
      let p : k / w < n = (div-lt_iff_lt-mul some).1 h in
      let c : k % w < w = mod-lt k some in
      let at : k / w * w + k % w ≡ k = div-add-mod' k w in
      let both = entry_at m party rnd (k / w) (k % w) _ few (one.entries (k / w) (k % w) p c) ∙ sym (entry_at m party rnd (k / w) (k % w) _ few (other.entries (k / w) (k % w) p c)) in
      ap (λ x. get_or rows x 0) (sym at) ∙ both ∙ ap (λ x. get_or rows' x 0) at

  same_rows : Beyond n w rows rows' → rows ≡ rows'
  same_rows beyond = same_lists rows rows' (sym beyond.0) (λ k d h. get_or_default rows k d 0 h ∙ at k h ∙ sym (get_or_default rows' k d 0 (omega (arith, beyond.0))))
    where
      past : (k : ℕ) → n * w ≤ k → get_or rows k 0 ≡ get_or rows' k 0
      past k h =
          let whole : n * w + (k - n * w) ≡ k = omega arith in
          ap (λ x. get_or rows x 0) (sym whole) ∙ sym (get_or-drop (n * w) rows (k - n * w) 0) ∙ ap (λ l. get_or l (k - n * w) 0) (sym beyond.1) ∙ get_or-drop (n * w) rows' (k - n * w) 0 ∙ ap (λ x. get_or rows' x 0) whole

      at : (k : ℕ) → k < length rows → get_or rows k 0 ≡ get_or rows' k 0
      at k h = ⊎_elim (same_entry k) (past k) (cases_lt k (n * w))

pub one_board : OneBoard
one_board ms z xs gs gs' ss ss' one other groups stations = (
  same_rows (length ms) _ _ one.few _ _ gs gs' one.groups other.groups groups,
  same_rows (length ms) _ _ one.few _ _ ss ss' one.stations other.stations stations,
)

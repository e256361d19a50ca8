-- Rows stay the rows of the rounds where one entry is written as one meeting changes its round. Assumes nothing.
use Rattle.std.proofs.Common.{◌≡◌, ℕ, ◌+◌, ◌*◌, ◌/◌, ◌%◌, ◌<◌, List, length, get_or, set, sym, refl, ap, ◌∙◌, ⊎_elim, mul-le-mul_right, suc-mul, arith}
use Rattle.std.proofs.lemmas.Nat.{div-mul-add, mod-mul-add}
use Rattle.std.proofs.lemmas.List.{get_or-set_same, get_or-set_other, length-set}
use Rattle.std.proofs.lemmas.Bool.{cases_eq}
use Rattle.fewest.specs.Plans.{none}
use Rattle.chains.specs.Rows.{Entry, Rows}

-- two places of the rows are the same only in the same row at the same round
pub same_place : (w p c p' c' : ℕ) → c < w → c' < w → p * w + c ≡ p' * w + c' → (p ≡ p') × (c ≡ c')
same_place w p c p' c' h h' e = (
  sym (div-mul-add p w c h) ∙ ap (λ x. x / w) e ∙ div-mul-add p' w c' h',
  sym (mod-mul-add p w c h) ∙ ap (λ x. x % w) e ∙ mod-mul-add p' w c' h',
)

-- each place of a row lies before the end of all rows
pub place_before : (n w p c : ℕ) → p < n → c < w → p * w + c < n * w
place_before n w p c hp hc = let more = suc-mul p w in omega (arith, mul-le-mul_right w hp)

-- one entry is written, and each other entry still is one
pub one_entry : (m : ℕ) (party rnd rnd' : ℕ → ℕ) (n w : ℕ) (rows rows' : List ℕ) (p c y : ℕ) → Rows m party rnd n w rows → p < n → c < w → rows' ≡ set rows (p * w + c) y → Entry m party rnd' p c y → ((p' c' e : ℕ) → c' < w → ((p' ≡ p) × (c' ≡ c) → ⊥) → Entry m party rnd p' c' e → Entry m party rnd' p' c' e) → Rows m party rnd' n w rows'
one_entry m party rnd rnd' n w rows rows' p c y r hp hc e here else =
    let long : length rows' ≡ length rows = ap length e ∙ length-set rows (p * w + c) y in
    record {
      narrow = r.narrow;
      parties = r.parties;
      room = λ q h. omega (arith, r.room q h);
      entries = λ q d hq hd.
          ⊎_elim
          (λ same. let s = same_place w q d p c hd hc same in
          let is : get_or rows' (q * w + d) 0 ≡ y = ap (λ l. get_or l (q * w + d) 0) e ∙ ap (λ x. get_or (set rows (p * w + c) y) x 0) same ∙ get_or-set_same rows (p * w + c) y 0 (omega (arith, r.room p hp)) in
          rw (is, s.0, s.1) here)
          (λ other.
          let is : get_or rows' (q * w + d) 0 ≡ get_or rows (q * w + d) 0 = ap (λ l. get_or l (q * w + d) 0) e ∙ get_or-set_other rows (p * w + c) (q * w + d) y 0 other in
          rw is (else q d (get_or rows (q * w + d) 0) hd (λ s. other (ap (λ x. x * w + d) s.0 ∙ ap (λ x. p * w + x) s.1)) (r.entries q d hq hd)))
          (cases_eq (q * w + d) (p * w + c));
    }

module _ (m : ℕ) (party rnd rnd' : ℕ → ℕ) (i : ℕ) (else : (j : ℕ) → (j ≡ i → ⊥) → rnd' j ≡ rnd j) where
  -- a meeting without a round gets one in which its party is free
  pub rows_placed : (n w : ℕ) (rows rows' : List ℕ) (c : ℕ) → Rows m party rnd n w rows → i < m → rnd i ≡ none → rnd' i ≡ c → c < w → ((j : ℕ) → j < m → rnd j ≡ c → party j ≡ party i → ⊥) → rows' ≡ set rows (party i * w + c) i → Rows m party rnd' n w rows'
  rows_placed n w rows rows' c r h out here within vacant e =
      one_entry m party rnd rnd' n w rows rows' (party i) c i r (r.parties i h) within e
      (record { is = λ _. (h, refl, here); only = λ j hj u v. ⊎_elim (λ same. same) (λ other. absurd (vacant j hj (sym (else j other) ∙ v) u)) (cases_eq j i) })
      (λ p' c' x hc apart old. record {
        is = λ is_some. let some = old.is is_some in (some.0, some.1, else x (λ same. omega (arith, r.narrow, ap rnd same, some.2)) ∙ some.2);
        only = λ j hj u v. ⊎_elim (λ same. absurd (apart (sym u ∙ ap party same, sym v ∙ ap rnd' same ∙ here))) (λ other. old.only j hj u (sym (else j other) ∙ v)) (cases_eq j i);
      })

  -- a meeting with a round loses it
  pub rows_taken : (n w : ℕ) (rows rows' : List ℕ) (c : ℕ) → Rows m party rnd n w rows → i < m → rnd i ≡ c → rnd' i ≡ none → c < w → rows' ≡ set rows (party i * w + c) none → Rows m party rnd' n w rows'
  rows_taken n w rows rows' c r h here out within e =
      let was = r.entries (party i) c (r.parties i h) within in
      one_entry m party rnd rnd' n w rows rows' (party i) c none r (r.parties i h) within e
      (record { is = λ is_some. absurd (is_some refl); only = λ j hj u v. ⊎_elim (λ same. absurd (omega (arith, r.narrow, ap rnd' same))) (λ other. absurd (other (was.only j hj u (sym (else j other) ∙ v) ∙ sym (was.only i h refl here)))) (cases_eq j i) })
      (λ p' c' x hc apart old. record {
        is = λ is_some. let some = old.is is_some in (some.0, some.1, else x (λ same. apart (sym some.1 ∙ ap party same, sym some.2 ∙ ap rnd same ∙ here)) ∙ some.2);
        only = λ j hj u v. ⊎_elim (λ same. absurd (omega (arith, r.narrow, ap rnd' same))) (λ other. old.only j hj u (sym (else j other) ∙ v)) (cases_eq j i);
      })

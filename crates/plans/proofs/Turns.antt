-- One turn of a loop over tests or numbers: what is left gives the whole. Assumes nothing.
use Rattle.std.proofs.Common.{◌≡◌, ℕ, zero, suc, ◌+◌, ◌-◌, ◌*◌, ◌<◌, List, [], ◌∷◌, ◌++◌, length, ltb, get_or, sym, refl, ap, ◌∙◌, append_assoc, arith}
use Rattle.meetings.specs.Refusals.{refused, then}
use Rattle.balance.specs.Sizes.{sizes_of}
use Rattle.balance.proofs.Counted.{size_at, sizes_long}
use Rattle.plans.specs.Bytes.{number_at, numbers_at}
use Rattle.plans.specs.Checking.{Verdict, each, fine, in_rooms, refused_if}

-- so many tests, of which one is made
one_test : (test : ℕ → Verdict) (left rest i : ℕ) → left ≡ suc rest → each test left i ≡ then (test i) (λ _. each test rest (suc i))
one_test test left rest i e = ap (λ n. each test n i) e

module _ (test : ℕ → Verdict) (many i : ℕ) {whole : Verdict} (h : i < many) (inv : each test (many - i) i ≡ whole) where
  left_then : whole ≡ then (test i) (λ _. each test (many - (i + 1)) (i + 1))
  left_then =
      let less : many - i ≡ suc (many - (i + 1)) = omega arith in
      sym inv ∙ one_test test (many - i) (many - (i + 1)) i less ∙ ap (λ n. then (test i) (λ _. each test (many - (i + 1)) n)) (let one : suc i ≡ i + 1 = omega arith in one)

  -- it is passed
  pub tested_on : fine ≡ test i → each test (many - (i + 1)) (i + 1) ≡ whole
  tested_on e = sym (left_then ∙ ap (λ o. then o (λ _. each test (many - (i + 1)) (i + 1))) (sym e))

  -- it refuses
  pub refused_now : {a b : ℕ} → refused a b ≡ test i → refused a b ≡ whole
  refused_now e = sym (left_then ∙ ap (λ o. then o (λ _. each test (many - (i + 1)) (i + 1))) (sym e))

-- tests that say the same, one by one
pub each_same : (f g : ℕ → Verdict) (n i : ℕ) → ((j : ℕ) → j < i + n → f j ≡ g j) → each f n i ≡ each g n i
each_same f g zero i same = refl
each_same f g (suc n) i same =
    ap (λ o. then o (λ _. each f n (suc i))) (same i (omega arith))
    ∙ ap (λ o. then (g i) (λ _. o)) (each_same f g n (suc i) (λ j h. same j (omega arith)))

-- sizes that are those of the rounds are tested as these
pub sizes_tested : (q r : ℕ) (xs ns : List ℕ) → ns ≡ sizes_of r xs → each (λ c. refused_if (ltb q (get_or ns c 0)) 9 c) (length ns) 0 ≡ each (in_rooms q xs) r 0
sizes_tested q r xs ns is =
    let long : length ns ≡ r = ap length is ∙ sizes_long r xs in
    ap (λ n. each (λ c. refused_if (ltb q (get_or ns c 0)) 9 c) n 0) long
    ∙ each_same (λ c. refused_if (ltb q (get_or ns c 0)) 9 c) (in_rooms q xs) r 0
    (λ c h. ap (λ n. refused_if (ltb q n) 9 c) (ap (λ l. get_or l c 0) is ∙ size_at r xs c 0 (omega arith)))

-- a number is read
module _ (bs : List ℕ) (many i : ℕ) (came : List ℕ) {whole : List ℕ} (h : i < many) (inv : came ++ numbers_at bs (many - i) (2 + 2 * i) ≡ whole) where
  pub number_read : (x : ℕ) (now : List ℕ) → x ≡ number_at bs (2 + 2 * i) → now ≡ came ++ x ∷ [] → now ++ numbers_at bs (many - (i + 1)) (2 + 2 * (i + 1)) ≡ whole
  number_read x now e pushed =
      let at : 2 + 2 * (i + 1) ≡ 2 + 2 * i + 2 = omega arith in
      let less : many - i ≡ suc (many - (i + 1)) = omega arith in
      rw (at, pushed, e, ← inv, less) (append_assoc came (number_at bs (2 + 2 * i) ∷ []) (numbers_at bs (many - (i + 1)) (2 + 2 * i + 2)))

-- A party of which fewer than r meetings have one of r rounds has a free one among these: were none free, the party would have
-- a meeting in each. Assumes nothing.
use Rattle.std.proofs.Common.{◌≡◌, ℕ, zero, suc, ◌+◌, ◌<◌, ◌≤◌, Bool, true, false, ◌&&◌, eqb, ltb, List, length, sym, refl, ap, ◌∙◌, ⊎_elim, arith}
use Rattle.std.proofs.lemmas.Bool.{cases_lt, cases_eq, both_ways, and_from, eq-eqb, eqb-true, le-ltb}
use Rattle.meetings.specs.declared.numbers.Meeting.{Meeting}
use Rattle.meetings.specs.declared.numbers.Side.{Side}
use Rattle.meetings.specs.Lists.{party, nobody}
use Rattle.fewest.specs.Counting.{total, count, one_if}
use Rattle.fewest.specs.Plans.{none}
use Rattle.fewest.specs.Rounds.{meetings_of}
use Rattle.fewest.proofs.Counting.{total_le, total_add, by_rounds, count_places}
use Rattle.chains.specs.Partial.{party_of, round_of, meeting_of}
use Rattle.chains.proofs.Entries.{at_none, at_cases, at_found}
use Rattle.chains.proofs.Lowest.{lowest_of}
use Rattle.placing.specs.Putting.{free, own_free}
use Rattle.placing.specs.Statements.{placed_of}

pub count_some : (p : ℕ → Bool) (z n : ℕ) → z < n → p z ≡ true → 1 ≤ count p n
count_some p z zero h e = absurd (omega arith)
count_some p z (suc n) h e =
    ⊎_elim (λ last. omega (arith, ap one_if (sym (ap p last) ∙ e))) (λ other. omega (arith, count_some p z n (omega arith) e)) (cases_eq z n)

total_at_least : (f : ℕ → ℕ) (n : ℕ) → ((i : ℕ) → i < n → 1 ≤ f i) → n ≤ total f n
total_at_least f zero h = omega arith
total_at_least f (suc n) h = let ih = total_at_least f n (λ i l. h i (omega arith)) in omega (arith, h n (omega arith))

-- of those that pass, fewer pass a second test that one of them fails
count_fewer : (p q : ℕ → Bool) (z n : ℕ) → z < n → p z ≡ true → q z ≡ false → count (λ i. p i && q i) n < count p n
count_fewer p q z n h e f =
    let all = total_le (λ i. one_if (p i && q i) + one_if (eqb i z)) (λ i. one_if (p i)) n (λ i l. at (p i) (q i) (eqb i z) (there i)) in
    let sums = total_add (λ i. one_if (p i && q i)) (λ i. one_if (eqb i z)) n in
    omega (arith, count_some (λ i. eqb i z) z n h (eq-eqb z z refl))
  where
    at : (x y w : Bool) → (w ≡ true → (x ≡ true) × (y ≡ false)) → one_if (x && y) + one_if w ≤ one_if x
    at x y true only = rw ((only refl).0, (only refl).1) (omega arith)
    at true true false only = omega arith
    at true false false only = omega arith
    at false y false only = omega arith

    there : (i : ℕ) → eqb i z ≡ true → (p i ≡ true) × (q i ≡ false)
    there i this = let same = eqb-true i z this in (ap p same ∙ e, ap q same ∙ f)

module _ (ms : List Meeting) (xs : List ℕ) (few : length ms ≤ none) (i : ℕ) (s : Side) (c : ℕ) where
  -- in a free round the party has no meeting
  pub free_is : free ms xs i s c ≡ true → (j : ℕ) → j < length ms → party_of ms s j ≡ party_of ms s i → round_of xs j ≡ c → ⊥
  free_is e j h = at_none (length ms) (party_of ms s) (round_of xs) (party_of ms s i) c (eqb-true _ _ e) few j h

  -- in a round that is not free it has one
  pub not_free_is : free ms xs i s c ≡ false → meeting_of ms xs s (party_of ms s i) c < length ms
  not_free_is e =
      ⊎_elim
      (λ past. absurd (both_ways (free ms xs i s c) e (eq-eqb _ _ past)))
      (λ below. below)
      (at_cases (length ms) (party_of ms s) (round_of xs) (party_of ms s i) c)

  pub found_is : meeting_of ms xs s (party_of ms s i) c < length ms → (party_of ms s (meeting_of ms xs s (party_of ms s i) c) ≡ party_of ms s i) × (round_of xs (meeting_of ms xs s (party_of ms s i) c) ≡ c)
  found_is = at_found (length ms) (party_of ms s) (round_of xs) (party_of ms s i) c few

module _ (ms : List Meeting) (xs : List ℕ) (i : ℕ) (s : Side) where
  -- whether a meeting is of the group or the station of meeting i
  abbrev of_party : ℕ → Bool
  of_party j = eqb (party_of ms s j) (party_of ms s i)

  -- A FREE ROUND
  pub has_free : (r : ℕ) → length ms ≤ none → placed_of r ms xs s (party_of ms s i) < r → own_free r ms xs i s < r
  has_free r few spare = ⊎_elim (λ below. below) (λ past. absurd (full past)) (cases_lt (own_free r ms xs i s) r)
    where
      some : r ≤ own_free r ms xs i s → (c : ℕ) → c < r → 1 ≤ count (λ j. of_party j && eqb (round_of xs j) c) (length ms)
      some past c l =
          let taken = not_free_is ms xs few i s c ((lowest_of (free ms xs i s) r).before c (omega arith)) in
          let found = found_is ms xs few i s c taken in
          count_some (λ j. of_party j && eqb (round_of xs j) c) (meeting_of ms xs s (party_of ms s i) c) (length ms) taken (and_from _ _ (eq-eqb _ _ found.0) (eq-eqb _ _ found.1))

      full : r ≤ own_free r ms xs i s → ⊥
      full past =
          let each = total_at_least (λ c. count (λ j. of_party j && eqb (round_of xs j) c) (length ms)) r (some past) in
          let by = by_rounds of_party (round_of xs) (length ms) r in
          omega arith

  -- a party with r meetings at most has fewer with a round, where one of its meetings has none
  pub spare_for : (r : ℕ) → r ≤ none → i < length ms → round_of xs i ≡ none → meetings_of s (party_of ms s i) ms ≤ r → placed_of r ms xs s (party_of ms s i) < r
  spare_for r le h out most =
      let fewer = count_fewer of_party (λ j. ltb (round_of xs j) r) i (length ms) h (eq-eqb _ _ refl) (le-ltb _ _ (omega arith)) in
      let all = count_places (λ m. eqb (party s m) (party_of ms s i)) ms nobody in
      omega arith

-- The meeting that a party has in a round is found, and is the entry of its row. Assumes nothing.
use Rattle.std.proofs.Common.{◌≡◌, ℕ, ◌<◌, ◌≤◌, true, ◌&&◌, eqb, ltb, ◌⊎◌, sym, ◌∙◌, inl, inr, ⊎_elim, arith}
use Rattle.std.proofs.lemmas.Bool.{cases_eq, cases_lt, and_parts, and_from, eq-eqb, eqb-true, both_ways, lt-ltb, le-ltb, cond-true, cond-false}
use Rattle.fewest.specs.Plans.{none}
use Rattle.chains.specs.Rows.{Entry}
use Rattle.chains.specs.Lowest.{lowest}
use Rattle.chains.specs.Partial.{known, meeting_at}
use Rattle.chains.proofs.Lowest.{lowest_of}

known_below : (m i : ℕ) → i < m → known m i ≡ i
known_below m i h = cond-true (ltb i m) i none (lt-ltb i m h)

known_past : (m i : ℕ) → m ≤ i → known m i ≡ none
known_past m i h = cond-false (ltb i m) i none (le-ltb i m h)

module _ (m : ℕ) (party round : ℕ → ℕ) (p c : ℕ) where
  there : (i : ℕ) → party i ≡ p → round i ≡ c → (eqb (party i) p && eqb (round i) c) ≡ true
  there i e f = and_from _ _ (eq-eqb _ _ e) (eq-eqb _ _ f)

  -- what is found is a meeting of the party in the round
  pub at_found : m ≤ none → meeting_at m party round p c < m → (party (meeting_at m party round p c) ≡ p) × (round (meeting_at m party round p c) ≡ c)
  at_found few h =
      let x = lowest (λ i. eqb (party i) p && eqb (round i) c) m in
      ⊎_elim
      (λ below.
      let both = and_parts (eqb (party x) p) (eqb (round x) c) ((lowest_of (λ i. eqb (party i) p && eqb (round i) c) m).passes below) in
      rw (known_below m x below) (eqb-true _ _ both.0, eqb-true _ _ both.1))
      (λ past. absurd (omega (arith, known_past m x past)))
      (cases_lt x m)

  -- nothing is found only where there is nothing
  pub at_none : meeting_at m party round p c ≡ none → m ≤ none → (i : ℕ) → i < m → party i ≡ p → round i ≡ c → ⊥
  at_none e few i h u v =
      let x = lowest (λ i. eqb (party i) p && eqb (round i) c) m in
      let low = lowest_of (λ i. eqb (party i) p && eqb (round i) c) m in
      ⊎_elim
      (λ below. omega (arith, known_below m x below))
      (λ past. both_ways (eqb (party i) p && eqb (round i) c) (low.before i (omega arith)) (there i u v))
      (cases_lt x m)

  -- either nothing is found, or a meeting
  pub at_cases : (meeting_at m party round p c ≡ none) ⊎ (meeting_at m party round p c < m)
  at_cases =
      let x = lowest (λ i. eqb (party i) p && eqb (round i) c) m in
      ⊎_elim (λ below. inr (rw (known_below m x below) below)) (λ past. inl (known_past m x past)) (cases_lt x m)

  -- what is the entry of a row is what is found
  pub entry_at : (y : ℕ) → m ≤ none → Entry m party round p c y → y ≡ meeting_at m party round p c
  entry_at y few e =
      ⊎_elim
      (λ nobody. ⊎_elim (λ past. nobody ∙ sym past) (λ below. absurd (let f = at_found few below in omega (arith, e.only _ below f.0 f.1))) at_cases)
      (λ is_some.
      let some = e.is is_some in
      ⊎_elim
      (λ past. absurd (at_none past few y some.0 some.1 some.2))
      (λ below. let f = at_found few below in sym (e.only _ below f.0 f.1))
      at_cases)
      (cases_eq y none)

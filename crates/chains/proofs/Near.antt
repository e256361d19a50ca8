-- The meeting near another through one side: in the other of the two rounds, with the same party; and there is no third
-- meeting of that party in the two rounds. Assumes nothing.
use Rattle.std.proofs.Common.{◌≡◌, ℕ, ◌<◌, ◌≤◌, true, ◌||◌, eqb, ◌⊎◌, sym, ◌∙◌, inl, inr, ⊎_elim, arith}
use Rattle.std.proofs.lemmas.Bool.{cases_eq}
use Rattle.std.proofs.lemmas.Bool.Decides.{nat_tests}
use Rattle.meetings.specs.declared.numbers.Side.{Side}
use Rattle.fewest.specs.Plans.{none}
use Rattle.chains.specs.Chains.{Two, in_two, Sound, Beside, swap, near}
use Rattle.chains.proofs.Entries.{at_found, at_none, at_cases}

swap_in : (a b x y : ℕ) → (eqb x a || eqb x b) ≡ true → y ≡ swap a b x → (eqb y a || eqb y b) ≡ true
swap_in a b x y there e = grind (arith, nat_tests)

swap_other : (a b x y : ℕ) → (eqb x a || eqb x b) ≡ true → (eqb y a || eqb y b) ≡ true → (y ≡ x → ⊥) → y ≡ swap a b x
swap_other a b x y one two differ = grind (arith, nat_tests)

module _ (t : Two) (few : t.many ≤ none) where
  -- what is near is in the other round and has the same party
  pub near_found : (s : Side) (j : ℕ) → near t s j < t.many → (t.party s (near t s j) ≡ t.party s j) × (t.round (near t s j) ≡ swap t.a t.b (t.round j))
  near_found s j h = at_found t.many (t.party s) t.round (t.party s j) (swap t.a t.b (t.round j)) few h

  pub near_in : (s : Side) (j : ℕ) → in_two t j ≡ true → near t s j < t.many → in_two t (near t s j) ≡ true
  near_in s j there h = swap_in t.a t.b (t.round j) (t.round (near t s j)) there (near_found s j h).1

module _ (t : Two) (sound : Sound t) where
  pub near_beside : (s : Side) (j : ℕ) → j < t.many → in_two t j ≡ true → near t s j < t.many → Beside t j (near t s j)
  near_beside s j below there h = record { one = below; other = h; one_in = there; other_in = near_in t sound.few s j there h; shared = (s, sym (near_found t sound.few s j h).0) }

  -- who shares the party with j is j itself or the one near it
  pub near_or_self : (s : Side) (j k : ℕ) → j < t.many → in_two t j ≡ true → k < t.many → in_two t k ≡ true → t.party s k ≡ t.party s j → (k ≡ j) ⊎ ((near t s j < t.many) × (k ≡ near t s j))
  near_or_self s j k hj in_j hk in_k shared =
      ⊎_elim
      (λ same. inl (sound.apart s k j hk hj in_k same shared))
      (λ differ.
      let other = swap_other t.a t.b (t.round j) (t.round k) in_j in_k differ in
      ⊎_elim
      (λ past. absurd (at_none t.many (t.party s) t.round (t.party s j) (swap t.a t.b (t.round j)) past sound.few k hk shared other))
      (λ below. let found = near_found t sound.few s j below in inr (below, sound.apart s k (near t s j) hk below in_k (other ∙ sym found.1) (shared ∙ sym found.0)))
      (at_cases t.many (t.party s) t.round (t.party s j) (swap t.a t.b (t.round j))))
      (cases_eq (t.round k) (t.round j))

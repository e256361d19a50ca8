-- One turn of the loop along a chain: what was found, and what is followed from where the loop is, is the whole. Assumes nothing.
use Rattle.std.proofs.Common.{◌≡◌, ℕ, ◌<◌, ◌≤◌, Bool, true, false, ◌⊎◌, List, [], ◌∷◌, ◌++◌, sym, refl, ap, ◌∙◌, inl, inr, ⊎_elim, arith}
use Rattle.std.proofs.lemmas.List.{append_assoc, append-nil}
use Rattle.meetings.specs.declared.numbers.Side.{Side}
use Rattle.meetings.specs.declared.numbers.Side.TheVariants.{Groups, Stations}
use Rattle.fewest.specs.Plans.{none}
use Rattle.chains.specs.declared.found.Found.{Found}
use Rattle.meetings.specs.Lists.{other_side}
use Rattle.chains.specs.Chains.{Two, in_two, near, holds, nothing, with_one, left_of, walked, chain, part}
use Rattle.chains.specs.Finding.{Finds, among_all, found_in}
use Rattle.chains.proofs.Entries.{at_cases}
use Rattle.chains.proofs.Marks.{holds_more}
use Rattle.chains.proofs.Members.{all_append, left_with_one}
use Rattle.chains.proofs.Near.{near_in}
use Rattle.chains.proofs.Walks.{followed, run_same}

-- from a meeting that is followed, the rest is what is followed from there
walked_more : (t : Two) (V : ℕ → Bool) (s : Side) (j : ℕ) → near t s j < t.many → V (near t s j) ≡ false → walked t V s j ≡ near t s j ∷ walked t (with_one V (near t s j)) (other_side s) (near t s j)
walked_more t V s j below out = run_same t V s j _ _ (followed t V s j) (refl, below, out, followed t (with_one V (near t s j)) (other_side s) (near t s j))

walked_stops : (t : Two) (V : ℕ → Bool) (s : Side) (j : ℕ) → (t.many ≤ near t s j) ⊎ (V (near t s j) ≡ true) → walked t V s j ≡ []
walked_stops t V s j stop = run_same t V s j _ _ (followed t V s j) stop

-- the loop is at j, to go on through s; it began at from, through side, with what v had found
pub record Following (t : Two) (v : Found) (side : Side) (from : ℕ) (w : Found) (s : Side) (j : ℕ) : Type 0 where
  pub here : j < t.many
  pub of_two : in_two t j ≡ true
  pub among : among_all w ≡ among_all v
  pub whole : found_in w ++ walked t (holds (found_in w)) s j ≡ found_in v ++ walked t (holds (found_in v)) side from

module _ (t : Two) (few : t.many ≤ none) (v w : Found) (side s : Side) (from j : ℕ) (f : Following t v side from w s j) where
  -- a neighbour that there is
  pub neighbour_there : (z : ℕ) → z ≡ near t s j → (near t s j ≡ none → ⊥) → z < t.many
  neighbour_there z e some = ⊎_elim (λ past. absurd (some past)) (λ below. rw e below) (at_cases t.many (t.party s) t.round (t.party s j) _)

  pub follow_on : (z : ℕ) (w' : Found) (s' : Side) → s' ≡ other_side s → z ≡ near t s j → (near t s j ≡ none → ⊥) → holds (found_in w) z ≡ false → Finds w w' (found_in w ++ z ∷ []) → Following t v side from w' s' z
  follow_on z w' s' through e some out more =
      let below = neighbour_there z e some in
      let near_below : near t s j < t.many = omega arith in
      let near_out : holds (found_in w) (near t s j) ≡ false = ap (holds (found_in w)) (sym e) ∙ out in
      let held : holds (found_in w') ≡ with_one (holds (found_in w)) z = ap holds more.list ∙ holds_more (found_in w) z in
      let step : walked t (holds (found_in w)) s j ≡ z ∷ walked t (with_one (holds (found_in w)) z) (other_side s) z = rw e (walked_more t (holds (found_in w)) s j near_below near_out) in
      record {
        here = below;
        of_two = ap (in_two t) e ∙ near_in t few s j f.of_two near_below;
        among = more.among ∙ f.among;
        whole = ap (λ x. found_in w' ++ walked t (holds (found_in w')) x z) through ∙ ap (λ V. found_in w' ++ walked t V (other_side s) z) held ∙ ap (λ l. l ++ walked t (with_one (holds (found_in w)) z) (other_side s) z) more.list ∙ append_assoc (found_in w) (z ∷ []) _ ∙ ap (λ l. found_in w ++ l) (sym step) ∙ f.whole;
      }

  -- what is left falls
  pub follow_falls : (z : ℕ) (w' : Found) → z ≡ near t s j → (near t s j ≡ none → ⊥) → holds (found_in w) z ≡ false → Finds w w' (found_in w ++ z ∷ []) → left_of (holds (found_in w')) t.many < left_of (holds (found_in w)) t.many
  follow_falls z w' e some out more =
      omega (arith, left_with_one (holds (found_in w)) z t.many (neighbour_there z e some) out, ap (λ V. left_of V t.many) (ap holds more.list ∙ holds_more (found_in w) z))

  pub follow_ends : (z : ℕ) → z ≡ near t s j → (z ≡ none) ⊎ (holds (found_in w) z ≡ true) → Finds v w (found_in v ++ walked t (holds (found_in v)) side from)
  follow_ends z e stop = record {
    among = f.among;
    list = sym (append-nil (found_in w)) ∙ ap (λ l. found_in w ++ l) (sym (walked_stops t (holds (found_in w)) s j (⊎_elim (λ past. inl (omega arith)) (λ there. inr (ap (holds (found_in w)) (sym e) ∙ there)) stop))) ∙ f.whole;
  }

-- a meeting was added to is, then its chain was followed
pub chain_found : (t : Two) (is js : List ℕ) (i : ℕ) → js ≡ is ++ i ∷ [] → js ++ walked t (holds js) Groups i ≡ is ++ chain t (holds is) i
chain_found t is js i e =
    ap (λ l. l ++ walked t (holds l) Groups i) e ∙ append_assoc is (i ∷ []) _ ∙ ap (λ V. is ++ (i ∷ walked t V Groups i)) (holds_more is i)

-- a chain was found, then the other way was followed
pub part_found : (t : Two) (is js : List ℕ) (i : ℕ) → js ≡ is ++ chain t (holds is) i → js ++ walked t (holds js) Stations i ≡ is ++ part t (holds is) i
part_found t is js i e =
    ap (λ l. l ++ walked t (holds l) Stations i) e
    ∙ append_assoc is (chain t (holds is) i) _
    ∙ ap (λ V. is ++ (chain t (holds is) i ++ walked t V Stations i)) (all_append nothing is (chain t (holds is) i))

pub finds_then : (u v w : Found) (is js ks : List ℕ) → Finds u v is → Finds v w js → js ≡ ks → Finds u w ks
finds_then u v w is js ks one two e = record { among = two.among ∙ one.among; list = two.list ∙ e }

-- The marks are those of the list of what was found, at the start, with one more, and after all are cleared. Assumes nothing.
use Rattle.std.proofs.Common.{◌≡◌, ℕ, ◌<◌, ◌≤◌, Bool, true, false, eqb, List, [], ◌∷◌, ◌++◌, length, get_or, set, replicate, sym, ap, ◌∙◌, ⊎_elim, arith}
use Rattle.std.proofs.lemmas.List.{get_or-replicate, length-replicate, get_or-set_same, get_or-set_other, length-set, length-append, get_or_default, same_lists}
use Rattle.std.proofs.lemmas.Bool.{cases_eq, eq-eqb, ne_eqb, cond-true, cond-false}
use Rattle.fewest.proofs.Counting.{count_all}
use Rattle.fewest.specs.Plans.{none}
use Rattle.chains.specs.Chains.{holds, left_of, nothing, with_one}
use Rattle.chains.specs.Marked.{Marked}
use Rattle.chains.proofs.Members.{all_append, left_with_one, unless, one_cases, none_held, place_of}

-- nothing is marked
nothing_left : (m : ℕ) → left_of nothing m ≡ m
nothing_left m = count_all m

pub marked_none : (set : List Bool) (is : List ℕ) (many capacity : ℕ) → set ≡ replicate many false → is ≡ [] → many ≤ capacity → Marked set is capacity
marked_none set is many capacity clear empty room =
    let long : length set ≡ many = ap length clear ∙ length-replicate many false in
    let none_in : holds is ≡ nothing = ap holds empty in
    record {
      marks = λ i h. ap (λ l. get_or l i false) clear ∙ get_or-replicate many i false false (omega arith) ∙ ap (λ f. f i) (sym none_in);
      within = λ i h. absurd (none_held i (ap (λ l. holds l i) (sym empty) ∙ h));
      counted = omega (arith, ap length empty, ap (λ f. left_of f (length set)) none_in, nothing_left (length set));
      room = omega arith;
    }

-- one more
pub holds_more : (is : List ℕ) (i : ℕ) → holds (is ++ i ∷ []) ≡ with_one (holds is) i
holds_more is i = all_append nothing is (i ∷ [])

module _ (set' : List Bool) (is : List ℕ) (capacity i : ℕ) (old : Marked set' is capacity) (h : i < length set') (new : holds is i ≡ false) where
  pub room_left : length is < capacity
  room_left = omega (arith, old.counted, old.room, left_with_one (holds is) i (length set') h new)

  pub marked_more : Marked (set set' i true) (is ++ i ∷ []) capacity
  marked_more =
      let long : length (set set' i true) ≡ length set' = length-set set' i true in
      let more : holds (is ++ i ∷ []) ≡ with_one (holds is) i = holds_more is i in
      record {
        marks = λ j hj. marked j (omega arith) ∙ ap (λ f. f j) (sym more);
        within = λ j hj. ⊎_elim (λ same. omega arith) (λ before. omega (arith, old.within j before)) (one_cases (holds is) i j (ap (λ f. f j) (sym more) ∙ hj));
        counted = omega (arith, length-append is (i ∷ []), ap (λ f. left_of f (length (set set' i true))) more, ap (left_of (with_one (holds is) i)) long, left_with_one (holds is) i (length set') h new, old.counted);
        room = omega (arith, old.room);
      }
    where
      marked : (j : ℕ) → j < length set' → get_or (set set' i true) j false ≡ with_one (holds is) i j
      marked j hj = ⊎_elim
          (λ same. rw same (get_or-set_same set' i true false h) ∙ sym (cond-true (eqb j i) true (holds is j) (eq-eqb j i same)))
          (λ other. get_or-set_other set' i j true false other ∙ old.marks j hj ∙ sym (cond-false (eqb j i) true (holds is j) (ne_eqb j i other)))
          (cases_eq j i)

-- while marks are cleared: what is marked still is one of the list, from place t on
abbrev pub MarkedFrom : List Bool → List ℕ → ℕ → Type 0
MarkedFrom marks is t = (i : ℕ) → i < length marks → get_or marks i false ≡ true → (q : ℕ) × (t ≤ q) × (q < length is) × (get_or is q none ≡ i)

pub clearing_starts : (marks : List Bool) (is : List ℕ) → ((i : ℕ) → i < length marks → get_or marks i false ≡ holds is i) → MarkedFrom marks is 0
clearing_starts marks is held i h is_set = let at = place_of is i (sym (held i h) ∙ is_set) in (at.0, omega arith, at.1, at.2)

pub clearing_ends : (marks : List Bool) (is : List ℕ) (m t : ℕ) → length is ≤ t → length marks ≡ m → MarkedFrom marks is t → marks ≡ replicate m false
clearing_ends marks is m t past long from = same_lists marks (replicate m false) (long ∙ sym (length-replicate m false)) (λ i d h. get_or_default marks i d false h ∙ unless (get_or marks i false) (λ is_set. let at = from i h is_set in omega (arith, at.1, at.2)) ∙ sym (get_or-replicate m i false d (omega arith)))

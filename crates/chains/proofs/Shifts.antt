-- Giving the members in one round another, one after the other: at each turn the next may have it. Assumes nothing.
use Rattle.std.proofs.Common.{◌≡◌, ℕ, ◌+◌, ◌<◌, Bool, true, false, cond, ◌&&◌, eqb, ◌⊎◌, List, [], ◌∷◌, ◌++◌, length, get_or, take, set, sym, refl, ap, ◌∙◌, inl, inr, ⊎_elim, arith}
use Rattle.std.proofs.lemmas.List.FromFn.{length-map-range_with_len, get_or-map-range_with_len, fill_by_all}
use Rattle.std.proofs.lemmas.List.{get_or-set_same, get_or-set_other, length-set, take_more}
use Rattle.std.proofs.lemmas.Bool.{cases_eq}
use Rattle.std.proofs.lemmas.Bool.Decides.{nat_tests}
use Rattle.meetings.specs.declared.numbers.Meeting.{Meeting}
use Rattle.fewest.specs.Plans.{none}
use Rattle.chains.specs.declared.shapes.Shape.{Shape}
use Rattle.chains.specs.Rows.{FreeFor, WithinRows}
use Rattle.chains.specs.Chains.{holds, with_one}
use Rattle.chains.specs.Exchanges.{Movable, shifted}
use Rattle.chains.specs.Partial.{round_of}
use Rattle.chains.proofs.Marks.{holds_more}
use Rattle.chains.proofs.Members.{place_held, front_held}

-- the round of one meeting after it
abbrev pub given : ℕ → ℕ → Bool → ℕ → ℕ
given u v h c = cond (h && eqb c u) v c

module _ (u v : ℕ) (is xs : List ℕ) where
  pub shifted_long : length (shifted u v is xs) ≡ length xs
  shifted_long = length-map-range_with_len (λ i. given u v (holds is i) (round_of xs i)) 0 (length xs)

  shifted_at : (i d : ℕ) → i < length xs → get_or (shifted u v is xs) i d ≡ given u v (holds is i) (round_of xs i)
  shifted_at i d h = get_or-map-range_with_len (λ i. given u v (holds is i) (round_of xs i)) 0 (length xs) i i d h (omega arith)

  pub shifted_round : (i : ℕ) → i < length xs → round_of (shifted u v is xs) i ≡ given u v (holds is i) (round_of xs i)
  shifted_round i h = shifted_at i none h

-- a list that has these rounds is the shifted one
shifted_is : (u v : ℕ) (is xs ys : List ℕ) → length ys ≡ length xs → ((i : ℕ) → i < length xs → round_of ys i ≡ given u v (holds is i) (round_of xs i)) → ys ≡ shifted u v is xs
shifted_is u v is xs ys long each = fill_by_all (λ i. given u v (holds is i) (round_of xs i)) ys (length xs) none long each

-- before the first turn
pub shifted_start : (u v : ℕ) (is xs : List ℕ) → xs ≡ shifted u v (take 0 is) xs
shifted_start u v is xs = shifted_is u v (take 0 is) xs xs refl (λ i h. refl)

-- one turn, for one meeting j, where i is the member: o is its round before the turn, c that before the first
turn : (u v j i c o : ℕ) (h : Bool) → o ≡ given u v h c → cond (eqb j i && eqb o u) v o ≡ given u v (cond (eqb j i) true h) c
turn u v j i c o true e = grind (arith, nat_tests)
turn u v j i c o false e = grind (arith, nat_tests)

turn_yes : (u v i o : ℕ) → o ≡ u → v ≡ cond (eqb i i && eqb o u) v o
turn_yes u v i o e = grind (arith, nat_tests)

turn_no : (u v i o : ℕ) → (o ≡ u → ⊥) → o ≡ cond (eqb i i && eqb o u) v o
turn_no u v i o e = grind (arith, nat_tests)

turn_other : (u v j i o : ℕ) → (j ≡ i → ⊥) → o ≡ cond (eqb j i && eqb o u) v o
turn_other u v j i o e = grind (arith, nat_tests)

module _ (u v t : ℕ) (is xs : List ℕ) (i : ℕ) (here : t < length is) (at : get_or is t 0 ≡ i) where
  held_more : holds (take (t + 1) is) ≡ with_one (holds (take t is)) i
  held_more = ap holds (take_more is t 0 here ∙ ap (λ x. take t is ++ x ∷ []) at) ∙ holds_more (take t is) i

  one_turn : (ys : List ℕ) → length ys ≡ length xs → ((j : ℕ) → j < length xs → round_of ys j ≡ cond (eqb j i && eqb (round_of (shifted u v (take t is) xs) j) u) v (round_of (shifted u v (take t is) xs) j)) → ys ≡ shifted u v (take (t + 1) is) xs
  one_turn ys long each = shifted_is u v (take (t + 1) is) xs ys long (λ j h. each j h ∙ turn u v j i (round_of xs j) _ (holds (take t is) j) (shifted_round u v (take t is) xs j h) ∙ ap (λ f. given u v (f j) (round_of xs j)) (sym held_more))

  shifted_yes : i < length xs → round_of (shifted u v (take t is) xs) i ≡ u → set (shifted u v (take t is) xs) i v ≡ shifted u v (take (t + 1) is) xs
  shifted_yes h e = one_turn _ (length-set (shifted u v (take t is) xs) i v ∙ shifted_long u v (take t is) xs) (λ j hj. ⊎_elim
      (λ same. rw same (get_or-set_same (shifted u v (take t is) xs) i v none (omega (arith, shifted_long u v (take t is) xs)) ∙ turn_yes u v i _ e))
      (λ other. get_or-set_other (shifted u v (take t is) xs) i j v none other ∙ turn_other u v j i _ other)
      (cases_eq j i))

  shifted_no : (round_of (shifted u v (take t is) xs) i ≡ u → ⊥) → shifted u v (take t is) xs ≡ shifted u v (take (t + 1) is) xs
  shifted_no e = one_turn _ (shifted_long u v (take t is) xs) (λ j hj. ⊎_elim (λ same. rw same (turn_no u v i _ e)) (λ other. turn_other u v j i _ other) (cases_eq j i))

-- what was in u before the turn was there before the first
was_in : (u v o c : ℕ) (h : Bool) → o ≡ given u v h c → o ≡ u → c ≡ u
was_in u v o c true e f = grind (arith, nat_tests)
was_in u v o c false e f = grind (arith, nat_tests)

-- what is in v before the turn was in v before the first, or was a member in u
came_to : (u v o c : ℕ) (h : Bool) → o ≡ given u v h c → o ≡ v → ((h ≡ true) × (c ≡ u)) ⊎ (c ≡ v)
came_to u v o c true e f = ⊎_elim (λ same. inl (refl, same)) (λ other. inr (grind (arith, nat_tests))) (cases_eq c u)
came_to u v o c false e f = inr (grind (arith, nat_tests))

-- a member of the list is a meeting
pub member_here : (ms : List Meeting) (xs is : List ℕ) (u v t : ℕ) → Movable ms xs is u v → t < length is → get_or is t 0 < length ms
member_here ms xs is u v t m h = m.below (get_or is t 0) (place_held is t 0 h)

-- the next member that is in u may have v
shift_free : (ms : List Meeting) (z : Shape) (u v t : ℕ) (is xs : List ℕ) (i : ℕ) → length xs ≡ length ms → Movable ms xs is u v → (v ≡ none) ⊎ WithinRows z v → holds is i ≡ true → ((j : ℕ) → holds (take t is) j ≡ true → holds is j ≡ true) → round_of (shifted u v (take t is) xs) i ≡ u → FreeFor ms z (shifted u v (take t is) xs) i v
shift_free ms z u v t is xs i each m within member sub e =
    ⊎_elim inl
    (λ ok. ⊎_elim inl (λ some. inr (
      ok,
      λ s j hj f p.
          let was : round_of xs i ≡ u = was_in u v _ (round_of xs i) (holds (take t is) i) (at i (m.below i member)) e in
          ⊎_elim
          (λ moved. let same = m.apart s j i (sub j moved.0) member moved.1 was p in
          let both : round_of xs i ≡ v = was ∙ sym e ∙ ap (round_of (shifted u v (take t is) xs)) (sym same) ∙ f in
          m.vacant some s i i member was (m.below i member) refl both)
          (λ there. m.vacant some s i j member was hj p there)
          (came_to u v _ (round_of xs j) (holds (take t is) j) (at j hj) f),
    ))
    (cases_eq v none))
    within
  where
    at : (j : ℕ) → j < length ms → round_of (shifted u v (take t is) xs) j ≡ given u v (holds (take t is) j) (round_of xs j)
    at j h = shifted_round u v (take t is) xs j (omega arith)

-- the turns of the loop, where ys is what the meetings have before the turn
module _ (u v t : ℕ) (is xs ys : List ℕ) (here : t < length is) (sofar : ys ≡ shifted u v (take t is) xs) where
  pub turn_free : (ms : List Meeting) (z : Shape) → length xs ≡ length ms → Movable ms xs is u v → (v ≡ none) ⊎ WithinRows z v → round_of ys (get_or is t 0) ≡ u → FreeFor ms z ys (get_or is t 0) v
  turn_free ms z each m within e =
      rw sofar (shift_free ms z u v t is xs (get_or is t 0) each m within (place_held is t 0 here) (front_held t is) (ap (λ l. round_of l (get_or is t 0)) (sym sofar) ∙ e))

  pub turn_gives : get_or is t 0 < length xs → round_of ys (get_or is t 0) ≡ u → set ys (get_or is t 0) v ≡ shifted u v (take (t + 1) is) xs
  turn_gives h e = ap (λ l. set l (get_or is t 0) v) sofar ∙ shifted_yes u v t is xs (get_or is t 0) here refl h (ap (λ l. round_of l (get_or is t 0)) (sym sofar) ∙ e)

  pub turn_leaves : (round_of ys (get_or is t 0) ≡ u → ⊥) → ys ≡ shifted u v (take (t + 1) is) xs
  turn_leaves e = sofar ∙ shifted_no u v t is xs (get_or is t 0) here refl (λ f. e (ap (λ l. round_of l (get_or is t 0)) sofar ∙ f))

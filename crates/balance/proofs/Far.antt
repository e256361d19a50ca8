-- How far the rounds are from even falls by one with each exchange between the fullest and the emptiest round. The fullest lies
-- above meetings divided by rounds, rounded down, and the emptiest below it, rounded up; so each of the two sums falls by one or
-- is 0 before and after, and not both are 0 before. Assumes nothing.
use Rattle.std.proofs.Common.{◌⊎◌, inl, inr, subst, max, ◌≡◌, ℕ, zero, suc, ◌+◌, ◌-◌, ◌*◌, ◌<◌, ◌≤◌, true, eqb, refl, sym, ap, ◌∙◌, ⊎_elim, suc-mul, mod-lt, div-add-mod', div-mul-le_self, mul_comm, arith}
use Rattle.std.proofs.lemmas.Bool.{cases_lt, cases_eq, eq-eqb, eqb-true, ne_eqb}
use Rattle.fewest.specs.Rounds.{divided_down, divided_up}
use Rattle.fewest.specs.Counting.{total, count, one_if}
use Rattle.fewest.proofs.Counting.{total_ext, total_le, total_add, total_zero, total_at_most, count_one}
use Rattle.fewest.proofs.NoFewer.{rooms_enough, rooms_within}
use Rattle.placing.proofs.FreeRounds.{count_some}
use Rattle.balance.specs.Sizes.{fullest, emptiest, uneven, far, far_of}
use Rattle.balance.proofs.Extremes.{fullest_is, emptiest_is, uneven_is}

-- one of r rounds is z
one_place : (z r : ℕ) → z < r → count (λ c. eqb c z) r ≡ 1
one_place z r h =
    let most = count_one (λ c. eqb c z) r (λ i j hi hj u v. eqb-true i z u ∙ sym (eqb-true j z v)) in
    let some = count_some (λ c. eqb c z) z r h (eq-eqb z z refl) in
    omega arith

-- one more at round z is one more in all
one_more_in_all : (r : ℕ) (u v : ℕ → ℕ) (z : ℕ) → z < r → ((c : ℕ) → c < r → v c + one_if (eqb c z) ≡ u c) → suc (total v r) ≡ total u r
one_more_in_all r u v z h each =
    let sums = total_add v (λ c. one_if (eqb c z)) r in
    omega (arith, total_ext (λ c. v c + one_if (eqb c z)) u r each, one_place z r h)

-- h for each of r rounds
total_same : (h r : ℕ) → total (λ c. h) r ≡ r * h
total_same h zero = omega arith
total_same h (suc r) = let ih = total_same h r in omega (arith, suc-mul r h)

-- what is counted at round z, and elsewhere
at_place : (c z : ℕ) → c ≡ z → one_if (eqb c z) ≡ 1
at_place c z e = ap one_if (eq-eqb c z e)

elsewhere : (c z : ℕ) → (c ≡ z → ⊥) → one_if (eqb c z) ≡ 0
elsewhere c z e = ap one_if (ne_eqb c z e)

-- numbers that are nowhere more, and less at one round, are less together
total_less : (r : ℕ) (u v : ℕ → ℕ) (z : ℕ) → z < r → ((c : ℕ) → c < r → u c ≤ v c) → u z < v z → total u r < total v r
total_less r u v z l each less =
    let all = total_le (λ c. u c + one_if (eqb c z)) v r (λ c k. ⊎_elim (λ e. omega (arith, at_place c z e, ap u e, ap v e)) (λ e. omega (arith, elsewhere c z e, each c k)) (cases_eq c z)) in
    let sums = total_add u (λ c. one_if (eqb c z)) r in
    omega (arith, one_place z r l)

-- one number is no more than all together
one_at_most : (u : ℕ → ℕ) (r z : ℕ) → z < r → u z ≤ total u r
one_at_most u zero z h = absurd (omega arith)
one_at_most u (suc r) z h = ⊎_elim (λ before. omega (arith, one_at_most u r z before)) (λ last. let e : z ≡ r = omega arith in omega (arith, ap u e)) (cases_lt z r)

-- numbers that are all 0 are 0 together
total_none : (r : ℕ) (u : ℕ → ℕ) → ((c : ℕ) → c < r → u c ≡ 0) → total u r ≡ 0
total_none r u none = total_ext u (λ c. 0) r none ∙ total_zero r

-- g is f with one less at a and one more at b
pub record OneMoved (r : ℕ) (f g : ℕ → ℕ) (a b : ℕ) : Type 0 where
  pub one : a < r
  pub other : b < r
  pub different : a ≡ b → ⊥
  pub taken : suc (g a) ≡ f a
  pub given : g b ≡ suc (f b)
  pub rest : (c : ℕ) → (c ≡ a → ⊥) → (c ≡ b → ⊥) → g c ≡ f c

-- a round is a, or b, or another one
which_round : {X : Type 0} (a b c : ℕ) → (c ≡ a → X) → (c ≡ b → X) → ((c ≡ a → ⊥) → (c ≡ b → ⊥) → X) → X
which_round a b c one other rest = ⊎_elim one (λ u. ⊎_elim other (λ v. rest u v) (cases_eq c b)) (cases_eq c a)

module _ (r : ℕ) (f g : ℕ → ℕ) (a b : ℕ) (moved : OneMoved r f g a b) where
  -- there are as many meetings as before
  total_kept : total g r ≡ total f r
  total_kept =
      let all = total_ext (λ c. g c + one_if (eqb c a)) (λ c. f c + one_if (eqb c b)) r (λ c k. each c) in
      let before = total_add f (λ c. one_if (eqb c b)) r in
      let after = total_add g (λ c. one_if (eqb c a)) r in
      omega (arith, one_place a r moved.one, one_place b r moved.other)
    where
      each : (c : ℕ) → g c + one_if (eqb c a) ≡ f c + one_if (eqb c b)
      each c =
          which_round a b c
          (λ e. omega (arith, at_place c a e, elsewhere c b (λ d. moved.different (sym e ∙ d)), ap f e, ap g e, moved.taken))
          (λ e. omega (arith, at_place c b e, elsewhere c a (λ d. moved.different (sym d ∙ e)), ap f e, ap g e, moved.given))
          (λ u v. omega (arith, elsewhere c a u, elsewhere c b v, moved.rest c u v))

  -- what holds of the two, and of all before, holds of all after
  kept_each : (P : ℕ → Type 0) → P (g a) → P (g b) → ((c : ℕ) → c < r → P (f c)) → (c : ℕ) → c < r → P (g c)
  kept_each P one other each c k =
      which_round a b c (λ e. subst P (sym (ap g e)) one) (λ e. subst P (sym (ap g e)) other) (λ u v. subst P (sym (moved.rest c u v)) (each c k))

  -- a sum over all rounds falls by one where what p adds does so, what q adds stays, and these are a and b in either order
  falls : (w : ℕ → ℕ) (p q : ℕ) → p < r → (p ≡ q → ⊥) → ((c : ℕ) → (c ≡ p → ⊥) → (c ≡ q → ⊥) → g c ≡ f c) → suc (w (g p)) ≡ w (f p) → w (g q) ≡ w (f q) → suc (total (λ c. w (g c)) r) ≡ total (λ c. w (f c)) r
  falls w p q here differ rest less same = one_more_in_all r (λ c. w (f c)) (λ c. w (g c)) p here (λ c k. each c)
    where
      each : (c : ℕ) → w (g c) + one_if (eqb c p) ≡ w (f c)
      each c =
          which_round p q c
          (λ e. omega (arith, at_place c p e, ap (λ i. w (f i)) e, ap (λ i. w (g i)) e, less))
          (λ e. omega (arith, elsewhere c p (λ d. differ (sym d ∙ e)), ap (λ i. w (f i)) e, ap (λ i. w (g i)) e, same))
          (λ u v. omega (arith, elsewhere c p u, ap w (rest c u v)))

  -- it falls by one, or it is 0 before and after
  abbrev FallsOrNone : (ℕ → ℕ) → Type 0
  FallsOrNone w = (suc (total (λ c. w (g c)) r) ≡ total (λ c. w (f c)) r) ⊎ ((total (λ c. w (f c)) r ≡ 0) × (total (λ c. w (g c)) r ≡ 0))

  none_either : (w : ℕ → ℕ) → ((c : ℕ) → c < r → w (f c) ≡ 0) → w (g a) ≡ 0 → w (g b) ≡ 0 → FallsOrNone w
  none_either w all one other = inr (total_none r (λ c. w (f c)) all, total_none r (λ c. w (g c)) (kept_each (λ x. w x ≡ 0) one other all))

  -- how far rounds lie above h, where a was the fullest and b below h
  above_falls : (h : ℕ) → ((c : ℕ) → c < r → f c ≤ f a) → f b < h → FallsOrNone (λ x. x - h)
  above_falls h most low =
      ⊎_elim
      (λ above. inl (falls (λ x. x - h) a b moved.one moved.different moved.rest (omega (arith, moved.taken)) (omega (arith, moved.given))))
      (λ within. none_either (λ x. x - h) (λ c k. omega (arith, most c k)) (omega (arith, moved.taken)) (omega (arith, moved.given)))
      (cases_lt h (f a))

  -- how far they lie below l, where b was the emptiest and a above l
  below_falls : (l : ℕ) → ((c : ℕ) → c < r → f b ≤ f c) → l < f a → FallsOrNone (λ x. l - x)
  below_falls l least high =
      ⊎_elim
      (λ below. inl (falls (λ x. l - x) b a moved.other (λ e. moved.different (sym e)) (λ c u v. moved.rest c v u) (omega (arith, moved.given)) (omega (arith, moved.taken))))
      (λ from. none_either (λ x. l - x) (λ c k. omega (arith, least c k)) (omega (arith, moved.taken)) (omega (arith, moved.given)))
      (cases_lt (f b) l)

  -- ONE STEP NEARER, for any h and l where h is l + 1 at most
  one_nearer : (h l : ℕ) → h ≤ suc l → ((c : ℕ) → c < r → f c ≤ f a) → ((c : ℕ) → c < r → f b ≤ f c) → f b + 2 ≤ f a → f b < h → l < f a → suc (max (total (λ c. g c - h) r) (total (λ c. l - g c) r)) ≡ max (total (λ c. f c - h) r) (total (λ c. l - f c) r)
  one_nearer h l near most least apart low high =
      ⊎_elim
      (λ above. ⊎_elim (λ below. omega (arith, above, below)) (λ none. omega (arith, above, none.0, none.1)) (below_falls l least high))
      (λ none. ⊎_elim (λ below. omega (arith, below, none.0, none.1)) (λ both. absurd (not_both none.0 both.0)) (below_falls l least high))
      (above_falls h most low)
    where
      -- else the fullest would be h at most, the emptiest l at least, and two apart
      not_both : total (λ c. f c - h) r ≡ 0 → total (λ c. l - f c) r ≡ 0 → ⊥
      not_both above below = omega (arith, one_at_most (λ c. f c - h) r a moved.one, one_at_most (λ c. l - f c) r b moved.other)

-- rounded up, there is place for all; rounded down, all places are filled; and the two differ by one at most
up_is : (m r : ℕ) → 1 ≤ r → m ≤ r * divided_up m r
up_is m r some = let enough = rooms_enough m r (divided_up m r) some (omega arith) in omega (arith, mul_comm r (divided_up m r))

down_is : (m r : ℕ) → r * divided_down m r ≤ m
down_is m r = omega (arith, div-mul-le_self m r, mul_comm r (divided_down m r))

up_near_down : (m r : ℕ) → 1 ≤ r → divided_up m r ≤ suc (divided_down m r)
up_near_down m r some =
    rooms_within m r (suc (divided_down m r)) some (omega (arith, suc-mul (divided_down m r) r, div-add-mod' m r, mod-lt m some))

-- AN EXCHANGE IS ONE STEP NEARER TO EVEN
pub nearer : (r : ℕ) (f g : ℕ → ℕ) → uneven r f ≡ true → OneMoved r f g (fullest r f) (emptiest r f) → suc (far r g) ≡ far r f
nearer r f g apart moved =
    let some : 1 ≤ r = omega (arith, moved.one) in
    let most = (fullest_is r f some).1 in
    let least = (emptiest_is r f some).1 in
    let two = uneven_is r f apart in
    ap (λ m. suc (far_of m r g)) (total_kept r f g (fullest r f) (emptiest r f) moved)
    ∙ one_nearer r f g (fullest r f) (emptiest r f) moved (divided_up (total f r) r) (divided_down (total f r) r) (up_near_down (total f r) r some) most least two (low some least two) (high most two)
  where
    low : 1 ≤ r → ((c : ℕ) → c < r → f (emptiest r f) ≤ f c) → f (emptiest r f) + 2 ≤ f (fullest r f) → f (emptiest r f) < divided_up (total f r) r
    low some least two =
        ⊎_elim
        (λ below. below)
        (λ from. absurd (omega (arith, up_is (total f r) r some, total_less r (λ c. divided_up (total f r) r) f (fullest r f) moved.one (λ c k. omega (arith, least c k)) (omega arith), total_same (divided_up (total f r) r) r)))
        (cases_lt (f (emptiest r f)) (divided_up (total f r) r))

    high : ((c : ℕ) → c < r → f c ≤ f (fullest r f)) → f (emptiest r f) + 2 ≤ f (fullest r f) → divided_down (total f r) r < f (fullest r f)
    high most two =
        ⊎_elim
        (λ above. above)
        (λ within. absurd (omega (arith, down_is (total f r) r, total_less r f (λ c. divided_down (total f r) r) (emptiest r f) moved.other (λ c k. omega (arith, most c k)) (omega arith), total_same (divided_down (total f r) r) r)))
        (cases_lt (divided_down (total f r) r) (f (fullest r f)))

-- even rounds have q meetings at most, if so many for each are enough for all
pub even_within : (r q : ℕ) (f : ℕ → ℕ) → ((a b : ℕ) → a < r → b < r → f a ≤ suc (f b)) → total f r ≤ r * q → (c : ℕ) → c < r → f c ≤ q
even_within r q f even enough c h =
    ⊎_elim
    (λ more. absurd (omega (arith, total_less r (λ e. q) f c h (λ e k. omega (arith, even c e h k)) more, total_same q r)))
    (λ within. within)
    (cases_lt q (f c))

-- the rounds are no farther from even than there are meetings
pub far_below : (r : ℕ) (f : ℕ → ℕ) → far r f ≤ total f r
far_below r f =
    let above = total_le (λ c. f c - divided_up (total f r) r) f r (λ c k. omega arith) in
    let below = total_at_most (λ c. divided_down (total f r) r - f c) (divided_down (total f r) r) r (λ c k. omega arith) in
    omega (arith, down_is (total f r) r)

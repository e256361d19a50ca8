-- The fullest and the emptiest of r rounds: by each of the two tests some round is beaten by no other, so the lowest-numbered
-- such round is below r, and it is the first of those with the largest, or with the smallest, number. Assumes nothing.
use Rattle.std.proofs.Common.{◌≡◌, ℕ, zero, suc, ◌+◌, ◌<◌, ◌≤◌, Bool, true, false, eqb, ltb, leb, ◌⊎◌, inl, inr, sym, ap, ◌∙◌, ⊎_elim, arith}
use Rattle.std.proofs.lemmas.Bool.{cases_Bool, cases_lt, both_ways, eq-eqb, eqb-true, ltb-true, ltb-false, le-ltb, leb-true, leb-false}
use Rattle.std.proofs.lemmas.Bool.Decides.{nat_tests}
use Rattle.fewest.specs.Counting.{count}
use Rattle.fewest.proofs.Counting.{count_ext, count_none}
use Rattle.chains.proofs.Lowest.{lowest_of, lowest_is, lowest_ext}
use Rattle.placing.proofs.FreeRounds.{count_some}
use Rattle.balance.specs.Sizes.{unbeaten, more, fullest, emptiest, uneven}

-- a test by which no number beats itself, which goes on over a third number, and by which one of two numbers beats the other
record Strict (beats : ℕ → ℕ → Bool) : Type 0 where
  itself : (x : ℕ) → beats x x ≡ false
  onward : (x y z : ℕ) → beats x y ≡ true → beats y z ≡ true → beats x z ≡ true
  either : (x y : ℕ) → beats x y ≡ false → beats y x ≡ false → x ≡ y

strict_less : Strict ltb
strict_less = record {
  itself = λ x. le-ltb x x (omega arith);
  onward = λ x y z u v. grind (arith, nat_tests);
  either = λ x y u v. grind (arith, nat_tests);
}

strict_more : Strict more
strict_more = record {
  itself = λ x. strict_less.itself x;
  onward = λ x y z u v. strict_less.onward z y x v u;
  either = λ x y u v. strict_less.either x y v u;
}

-- no round below r has a number that beats the one of round c
abbrev best : (ℕ → ℕ → Bool) → (ℕ → ℕ) → ℕ → ℕ → Bool
best beats f r c = eqb (count (λ e. beats (f e) (f c)) r) 0

module _ (beats : ℕ → ℕ → Bool) (strict : Strict beats) (f : ℕ → ℕ) where
  best_is : (r c : ℕ) → best beats f r c ≡ true → (e : ℕ) → e < r → beats (f e) (f c) ≡ false
  best_is r c h e l =
      ⊎_elim
      (λ beaten. absurd (omega (arith, eqb-true _ _ h, count_some (λ e. beats (f e) (f c)) e r l beaten)))
      (λ no. no)
      (cases_Bool (beats (f e) (f c)))

  is_best : (r c : ℕ) → ((e : ℕ) → e < r → beats (f e) (f c) ≡ false) → best beats f r c ≡ true
  is_best r c h = eq-eqb _ _ (count_none (λ e. beats (f e) (f c)) r h)

  -- of some rounds there is one that no other beats
  some_best : (r : ℕ) → 1 ≤ r → (c : ℕ) × (c < r) × ((e : ℕ) → e < r → beats (f e) (f c) ≡ false)
  some_best zero h = absurd (omega arith)
  some_best (suc zero) h = (0, omega arith, λ e l. let first : e ≡ 0 = omega arith in ap (λ x. beats (f x) (f 0)) first ∙ strict.itself (f 0))
  some_best (suc (suc r)) h =
      let before = some_best (suc r) (omega arith) in
      ⊎_elim
      (λ beaten. (suc r, omega arith, λ e l. ⊎_elim (λ old. later before.0 beaten before.2 e old) (λ same. ap (λ x. beats (f x) (f (suc r))) same ∙ strict.itself (f (suc r))) (last e l)))
      (λ no. (before.0, omega (arith, before.1), λ e l. ⊎_elim (λ old. before.2 e old) (λ same. ap (λ x. beats (f x) (f before.0)) same ∙ no) (last e l)))
      (cases_Bool (beats (f (suc r)) (f before.0)))
    where
      last : (e : ℕ) → e < suc (suc r) → (e < suc r) ⊎ (e ≡ suc r)
      last e l = ⊎_elim (λ old. inl old) (λ new. inr (omega arith)) (cases_lt e (suc r))

      later : (c : ℕ) → beats (f (suc r)) (f c) ≡ true → ((e : ℕ) → e < suc r → beats (f e) (f c) ≡ false) → (e : ℕ) → e < suc r → beats (f e) (f (suc r)) ≡ false
      later c beaten old e l =
          ⊎_elim
          (λ yes. absurd (both_ways _ (old e l) (strict.onward (f e) (f (suc r)) (f c) yes beaten)))
          (λ no. no)
          (cases_Bool (beats (f e) (f (suc r))))

  -- so one is found, and it is one that no other beats
  unbeaten_below : (r : ℕ) → 1 ≤ r → unbeaten beats f r < r
  unbeaten_below r h =
      let some = some_best r h in
      ⊎_elim
      (λ below. below)
      (λ past. absurd (both_ways _ ((lowest_of (best beats f r) r).before some.0 (omega (arith, some.1))) (is_best r some.0 some.2)))
      (cases_lt (unbeaten beats f r) r)

  unbeaten_is : (r : ℕ) → 1 ≤ r → (e : ℕ) → e < r → beats (f e) (f (unbeaten beats f r)) ≡ false
  unbeaten_is r h = best_is r (unbeaten beats f r) ((lowest_of (best beats f r) r).passes (unbeaten_below r h))

  -- a round that no other beats, and whose number no lower one has
  unbeaten_found : (r c : ℕ) → c < r → ((e : ℕ) → e < r → beats (f e) (f c) ≡ false) → ((e : ℕ) → e < c → (f e ≡ f c → ⊥)) → unbeaten beats f r ≡ c
  unbeaten_found r c h top first =
      lowest_is (best beats f r) r c (record {
        most = omega arith;
        before = λ e l. ⊎_elim (λ yes. absurd (first e l (strict.either (f e) (f c) (top e (omega arith)) (best_is r e yes c h)))) (λ no. no) (cases_Bool (best beats f r e));
        passes = λ l. is_best r c top;
      })

-- whether a round is beaten depends on the numbers below r alone
unbeaten_ext : (beats : ℕ → ℕ → Bool) (r : ℕ) (f g : ℕ → ℕ) → ((c : ℕ) → c < r → f c ≡ g c) → unbeaten beats f r ≡ unbeaten beats g r
unbeaten_ext beats r f g same =
    lowest_ext (best beats f r) (best beats g r) r (λ c h. ap (λ x. eqb x 0) (count_ext (λ e. beats (f e) (f c)) (λ e. beats (g e) (g c)) r (λ e l. ap (λ x. beats x (f c)) (same e l) ∙ ap (beats (g e)) (same c h))))

-- of the rounds before it, the number of each is beaten by its own
unbeaten_before : (beats : ℕ → ℕ → Bool) → Strict beats → (r : ℕ) (f : ℕ → ℕ) → 1 ≤ r → (e : ℕ) → e < unbeaten beats f r → beats (f (unbeaten beats f r)) (f e) ≡ true
unbeaten_before beats strict r f h e l =
    let c = unbeaten beats f r in
    let top = unbeaten_is beats strict f r h in
    let below = unbeaten_below beats strict f r h in
    ⊎_elim
    (λ yes. yes)
    (λ no.
    let same : f e ≡ f c = strict.either (f e) (f c) (top e (omega (arith, below))) no in
    absurd (both_ways _ ((lowest_of (best beats f r) r).before e l) (is_best beats strict f r e (λ i k. ap (beats (f i)) same ∙ top i k))))
    (cases_Bool (beats (f c) (f e)))

-- the next of a size that no other beats, where those before are beaten, is unbeaten
unbeaten_next : (beats : ℕ → ℕ → Bool) → Strict beats → (f : ℕ → ℕ) (r from c x : ℕ) → c < r → f c ≡ x → ((e : ℕ) → e < r → beats (f e) x ≡ false) → ((e : ℕ) → e < from → beats x (f e) ≡ true) → ((e : ℕ) → from ≤ e → e < c → (f e ≡ x → ⊥)) → unbeaten beats f r ≡ c
unbeaten_next beats strict f r from c x h is top before first =
    unbeaten_found beats strict f r c h (λ e l. ap (beats (f e)) is ∙ top e l)
    (λ e l same. ⊎_elim
    (λ old. both_ways _ (strict.itself x) (ap (beats x) (sym (same ∙ is)) ∙ before e old))
    (λ new. first e new l (same ∙ is))
    (cases_lt e from))

pub fullest_next : (f : ℕ → ℕ) (r from c x : ℕ) → c < r → f c ≡ x → ((e : ℕ) → e < r → more (f e) x ≡ false) → ((e : ℕ) → e < from → more x (f e) ≡ true) → ((e : ℕ) → from ≤ e → e < c → (f e ≡ x → ⊥)) → fullest r f ≡ c
fullest_next = unbeaten_next more strict_more

pub emptiest_next : (f : ℕ → ℕ) (r from c x : ℕ) → c < r → f c ≡ x → ((e : ℕ) → e < r → ltb (f e) x ≡ false) → ((e : ℕ) → e < from → ltb x (f e) ≡ true) → ((e : ℕ) → from ≤ e → e < c → (f e ≡ x → ⊥)) → emptiest r f ≡ c
emptiest_next = unbeaten_next ltb strict_less

pub fullest_before : (r : ℕ) (f : ℕ → ℕ) → 1 ≤ r → (e : ℕ) → e < fullest r f → f e < f (fullest r f)
fullest_before r f h e l = ltb-true _ _ (unbeaten_before more strict_more r f h e l)

pub emptiest_before : (r : ℕ) (f : ℕ → ℕ) → 1 ≤ r → (e : ℕ) → e < emptiest r f → f (emptiest r f) < f e
emptiest_before r f h e l = ltb-true _ _ (unbeaten_before ltb strict_less r f h e l)

-- THE FULLEST ROUND has the most
pub fullest_is : (r : ℕ) (f : ℕ → ℕ) → 1 ≤ r → (fullest r f < r) × ((c : ℕ) → c < r → f c ≤ f (fullest r f))
fullest_is r f h = (unbeaten_below more strict_more f r h, λ c l. ltb-false _ _ (unbeaten_is more strict_more f r h c l))

-- THE EMPTIEST the fewest
pub emptiest_is : (r : ℕ) (f : ℕ → ℕ) → 1 ≤ r → (emptiest r f < r) × ((c : ℕ) → c < r → f (emptiest r f) ≤ f c)
emptiest_is r f h = (unbeaten_below ltb strict_less f r h, λ c l. ltb-false _ _ (unbeaten_is ltb strict_less f r h c l))

-- the first of the rounds with the most is the fullest, and likewise with the fewest
pub fullest_found : (r : ℕ) (f : ℕ → ℕ) (c : ℕ) → c < r → ((e : ℕ) → e < r → f e ≤ f c) → ((e : ℕ) → e < c → (f e ≡ f c → ⊥)) → fullest r f ≡ c
fullest_found r f c h most first = unbeaten_found more strict_more f r c h (λ e l. le-ltb _ _ (most e l)) first

pub emptiest_found : (r : ℕ) (f : ℕ → ℕ) (c : ℕ) → c < r → ((e : ℕ) → e < r → f c ≤ f e) → ((e : ℕ) → e < c → (f e ≡ f c → ⊥)) → emptiest r f ≡ c
emptiest_found r f c h fewest first = unbeaten_found ltb strict_less f r c h (λ e l. le-ltb _ _ (fewest e l)) first

pub fullest_ext : (r : ℕ) (f g : ℕ → ℕ) → ((c : ℕ) → c < r → f c ≡ g c) → fullest r f ≡ fullest r g
fullest_ext r f g = unbeaten_ext more r f g

pub emptiest_ext : (r : ℕ) (f g : ℕ → ℕ) → ((c : ℕ) → c < r → f c ≡ g c) → emptiest r f ≡ emptiest r g
emptiest_ext r f g = unbeaten_ext ltb r f g

-- whether the rounds are uneven depends on the numbers below r alone
pub uneven_ext : (r : ℕ) (f g : ℕ → ℕ) → 1 ≤ r → ((c : ℕ) → c < r → f c ≡ g c) → uneven r f ≡ uneven r g
uneven_ext r f g h same =
    let low = same (emptiest r f) (emptiest_is r f h).0 ∙ ap g (emptiest_ext r f g same) in
    let high = same (fullest r f) (fullest_is r f h).0 ∙ ap g (fullest_ext r f g same) in
    ap (λ x. leb (x + 2) (f (fullest r f))) low ∙ ap (λ x. leb (g (emptiest r g) + 2) x) high

-- EVEN: then no two rounds differ by more than one
pub even_is : (r : ℕ) (f : ℕ → ℕ) → uneven r f ≡ false → (a b : ℕ) → a < r → b < r → f a ≤ suc (f b)
even_is r f even a b h k =
    let most = (fullest_is r f (omega arith)).1 a h in
    let fewest = (emptiest_is r f (omega arith)).1 b k in
    omega (arith, leb-false _ _ even)

-- UNEVEN: then the fullest and the emptiest differ by two or more
pub uneven_is : (r : ℕ) (f : ℕ → ℕ) → uneven r f ≡ true → f (emptiest r f) + 2 ≤ f (fullest r f)
uneven_is r f = leb-true _ _

-- The members of a list as a set, and how many of them pass a test: counted in a list without repeats or over all numbers
-- below m, it is the same number. Assumes nothing.
use Rattle.std.proofs.Common.{◌≡◌, ℕ, zero, suc, ◌+◌, ◌<◌, ◌≤◌, Bool, true, false, cond, not, ◌&&◌, ◌||◌, eqb, ◌⊎◌, List, [], ◌∷◌, ◌++◌, length, get_or, take, drop, count_by, sym, refl, ap, ◌∙◌, inl, inr, ⊎_elim, arith}
use Rattle.std.proofs.lemmas.List.{take-append-drop}
use Rattle.std.proofs.lemmas.List.Sums.{sum_by-cons}
use Rattle.std.proofs.lemmas.Bool.{both_ways, cases_eq, or_cases, or_left, eqb-true, eq-eqb}
use Rattle.std.proofs.lemmas.Bool.Decides.{nat_tests}
use Rattle.fewest.specs.Counting.{count, one_if}
use Rattle.fewest.specs.Plans.{none}
use Rattle.fewest.proofs.Counting.{count_at_most, count_ext, count_none}
use Rattle.chains.specs.Chains.{with_one, with_all, nothing, holds, left_of}
use Rattle.chains.specs.Statements.{Once}

-- a member with one more: the new one, or one from before
pub one_cases : (V : ℕ → Bool) (z i : ℕ) → with_one V z i ≡ true → (i ≡ z) ⊎ (V i ≡ true)
one_cases V z i = step (V i) i z
  where
    step : (v : Bool) (i z : ℕ) → cond (eqb i z) true v ≡ true → (i ≡ z) ⊎ (v ≡ true)
    step v i z h = grind (arith, nat_tests)

pub one_there : (V : ℕ → Bool) (z i : ℕ) → i ≡ z → with_one V z i ≡ true
one_there V z i = step (V i) i z
  where
    step : (v : Bool) (i z : ℕ) → i ≡ z → cond (eqb i z) true v ≡ true
    step v i z e = grind (arith, nat_tests)

pub one_before : (V : ℕ → Bool) (z i : ℕ) → V i ≡ true → with_one V z i ≡ true
one_before V z i = step (V i) i z
  where
    step : (v : Bool) (i z : ℕ) → v ≡ true → cond (eqb i z) true v ≡ true
    step v i z e = grind (arith, nat_tests)

-- one that is not there with one more is not that one, and was not there
pub not_one : (V : ℕ → Bool) (z k : ℕ) → with_one V z k ≡ false → (V k ≡ false) × (k ≡ z → ⊥)
not_one V z k out = (outside (V k) k z out, λ e. differ (V k) k z out e)
  where
    outside : (v : Bool) (k z : ℕ) → cond (eqb k z) true v ≡ false → v ≡ false
    outside v k z out = grind (arith, nat_tests)

    differ : (v : Bool) (k z : ℕ) → cond (eqb k z) true v ≡ false → k ≡ z → ⊥
    differ v k z out e = grind (arith, nat_tests)

-- with more members: those that were there, and the members of the list
pub in_all : (V : ℕ → Bool) (zs : List ℕ) (j : ℕ) → with_all V zs j ≡ (V j || holds zs j)
in_all V [] j = either (V j)
  where
    either : (b : Bool) → b ≡ (b || false)
    either true = refl
    either false = refl
in_all V (z ∷ zs) j =
    let one = in_all (with_one V z) zs j in
    let two = in_all (with_one nothing z) zs j in
    one ∙ step (eqb j z) (V j) (holds zs j) ∙ ap (λ h. V j || h) (sym two)
  where
    step : (e v h : Bool) → (cond e true v || h) ≡ (v || (cond e true false || h))
    step e v h = grind (arith, nat_tests)

pub holds_cons : (z : ℕ) (zs : List ℕ) (j : ℕ) → holds (z ∷ zs) j ≡ (eqb j z || holds zs j)
holds_cons z zs j = in_all (with_one nothing z) zs j ∙ step (eqb j z) (holds zs j)
  where
    step : (e h : Bool) → (cond e true false || h) ≡ (e || h)
    step e h = grind (arith, nat_tests)

-- what was there still is
pub all_before : (V : ℕ → Bool) (zs : List ℕ) (j : ℕ) → V j ≡ true → with_all V zs j ≡ true
all_before V zs j h = in_all V zs j ∙ or_left (V j) (holds zs j) h

pub all_append : (V : ℕ → Bool) (xs ys : List ℕ) → with_all V (xs ++ ys) ≡ with_all (with_all V xs) ys
all_append V [] ys = refl
all_append V (x ∷ xs) ys = all_append (with_one V x) xs ys

-- the first is a member, and so is what is a member of the rest
pub first_held : (z : ℕ) (zs : List ℕ) → holds (z ∷ zs) z ≡ true
first_held z zs = holds_cons z zs z ∙ step (eqb z z) (holds zs z) (eq-eqb z z refl)
  where
    step : (e h : Bool) → e ≡ true → (e || h) ≡ true
    step e h f = grind (arith, nat_tests)

pub rest_held : (z : ℕ) (zs : List ℕ) (j : ℕ) → holds zs j ≡ true → holds (z ∷ zs) j ≡ true
rest_held z zs j h = holds_cons z zs j ∙ step (eqb j z) (holds zs j) h
  where
    step : (e h : Bool) → h ≡ true → (e || h) ≡ true
    step e h f = grind (arith, nat_tests)

pub held_cases : (z : ℕ) (zs : List ℕ) (j : ℕ) → holds (z ∷ zs) j ≡ true → (j ≡ z) ⊎ (holds zs j ≡ true)
held_cases z zs j h = ⊎_elim (λ e. inl (eqb-true j z e)) inr (or_cases (eqb j z) (holds zs j) (sym (holds_cons z zs j) ∙ h))

pub append_cases : (xs ys : List ℕ) (j : ℕ) → holds (xs ++ ys) j ≡ true → (holds xs j ≡ true) ⊎ (holds ys j ≡ true)
append_cases [] ys j h = inr h
append_cases (x ∷ xs) ys j h =
    ⊎_elim
    (λ e. inl (ap (holds (x ∷ xs)) e ∙ first_held x xs))
    (λ later. ⊎_elim (λ l. inl (rest_held x xs j l)) inr (append_cases xs ys j later))
    (held_cases x (xs ++ ys) j h)

pub none_held : (j : ℕ) → holds [] j ≡ true → ⊥
none_held j h = both_ways (holds [] j) refl h

-- a member stands at a place, and what stands at a place is a member
pub place_held : (zs : List ℕ) (q d : ℕ) → q < length zs → holds zs (get_or zs q d) ≡ true
place_held [] q d h = absurd (omega arith)
place_held (z ∷ zs) zero d h = first_held z zs
place_held (z ∷ zs) (suc q) d h = rest_held z zs (get_or zs q d) (place_held zs q d (omega arith))

-- who is among the first is a member
pub front_held : (t : ℕ) (zs : List ℕ) (j : ℕ) → holds (take t zs) j ≡ true → holds zs j ≡ true
front_held t zs j h = ap (λ l. holds l j) (sym (take-append-drop t zs)) ∙ ap (λ f. f j) (all_append nothing (take t zs) (drop t zs)) ∙ all_before (holds (take t zs)) (drop t zs) j h

pub place_of : (zs : List ℕ) (j : ℕ) → holds zs j ≡ true → (q : ℕ) × (q < length zs) × (get_or zs q none ≡ j)
place_of [] j h = absurd (none_held j h)
place_of (z ∷ zs) j h = ⊎_elim (λ e. (0, omega arith, sym e)) (λ l. let p = place_of zs j l in (suc p.0, omega arith, p.2)) (held_cases z zs j h)

-- the same, said along the list: each differs from all that come after it
abbrev pub Fresh : List ℕ → Type 0
Fresh [] = Unit {0}
Fresh (z ∷ zs) = (holds zs z ≡ false) × Fresh zs

pub unless : (b : Bool) → (b ≡ true → ⊥) → b ≡ false
unless true f = absurd (f refl)
unless false f = refl

pub fresh_from_once : (zs : List ℕ) → Once zs → Fresh zs
fresh_from_once [] once = tt
fresh_from_once (z ∷ zs) once = (
  unless (holds zs z) (λ again. let p = place_of zs z again in omega (arith, once 0 (suc p.0) (omega arith) (omega arith) (sym p.2))),
  fresh_from_once zs (λ p q hp hq e. let same = once (suc p) (suc q) (omega arith) (omega arith) e in omega arith),
)

pub once_from_fresh : (zs : List ℕ) → Fresh zs → Once zs
once_from_fresh [] fresh p q hp hq e = absurd (omega arith)
once_from_fresh (z ∷ zs) fresh zero zero hp hq e = refl
once_from_fresh (z ∷ zs) fresh zero (suc q) hp hq e = absurd (both_ways (holds zs z) fresh.0 (ap (holds zs) e ∙ place_held zs q none (omega arith)))
once_from_fresh (z ∷ zs) fresh (suc p) zero hp hq e = absurd (both_ways (holds zs z) fresh.0 (ap (holds zs) (sym e) ∙ place_held zs p none (omega arith)))
once_from_fresh (z ∷ zs) fresh (suc p) (suc q) hp hq e = ap suc (once_from_fresh zs fresh.1 p q (omega arith) (omega arith) e)

-- two lists that have no common member, one after the other
pub fresh_append : (xs ys : List ℕ) → Fresh xs → Fresh ys → ((j : ℕ) → holds xs j ≡ true → holds ys j ≡ true → ⊥) → Fresh (xs ++ ys)
fresh_append [] ys one two apart = two
fresh_append (x ∷ xs) ys one two apart = (
  unless (holds (xs ++ ys) x) (λ again. ⊎_elim (λ l. both_ways (holds xs x) one.0 l) (apart x (first_held x xs)) (append_cases xs ys x again)),
  fresh_append xs ys one.1 two (λ j h. apart j (rest_held x xs j h)),
)

-- counting by two tests that differ at most at z, where the second fails
pub count_but_one : (p q : ℕ → Bool) (z m : ℕ) → z < m → ((i : ℕ) → (i ≡ z → ⊥) → p i ≡ q i) → q z ≡ false → count p m ≡ one_if (p z) + count q m
count_but_one p q z zero h same not_there = absurd (omega arith)
count_but_one p q z (suc m) h same not_there =
    ⊎_elim
    (λ last.
    let before = count_ext p q m (λ i l. same i (λ e. omega arith)) in
    let here : one_if (p m) ≡ one_if (p z) = ap (λ i. one_if (p i)) (sym last) in
    let there : one_if (q m) ≡ 0 = ap (λ i. one_if (q i)) (sym last) ∙ ap one_if not_there in
    omega arith)
    (λ earlier.
    let ih = count_but_one p q z m (omega arith) same not_there in
    let here : one_if (p m) ≡ one_if (q m) = ap one_if (same m (λ e. earlier (sym e))) in
    omega arith)
    (cases_eq z m)

-- one more member is one less that is left
pub left_with_one : (V : ℕ → Bool) (z m : ℕ) → z < m → V z ≡ false → left_of V m ≡ suc (left_of (with_one V z) m)
left_with_one V z m h out =
    let but = count_but_one (λ i. not (V i)) (λ i. not (with_one V z i)) z m h (λ i other. step i z (V i) other) (here (V z)) in
    let one : one_if (not (V z)) ≡ 1 = ap (λ b. one_if (not b)) out in
    omega arith
  where
    step : (i z : ℕ) (v : Bool) → (i ≡ z → ⊥) → not v ≡ not (cond (eqb i z) true v)
    step i z v other = grind (arith, nat_tests)

    here : (v : Bool) → not (cond (eqb z z) true v) ≡ false
    here v = grind (arith, nat_tests)

fresh_count : (p : ℕ → Bool) (is : List ℕ) (m : ℕ) → Fresh is → ((j : ℕ) → holds is j ≡ true → j < m) → count_by p is ≡ count (λ j. holds is j && p j) m
fresh_count p [] m fresh within = sym (count_none (λ j. holds [] j && p j) m (λ i h. refl))
fresh_count p (z ∷ zs) m fresh within =
    let ih = fresh_count p zs m fresh.1 (λ j h. within j (rest_held z zs j h)) in
    let cons = sum_by-cons (λ x. cond (p x) 1 0) z zs in
    let but =
    count_but_one (λ j. holds (z ∷ zs) j && p j) (λ j. holds zs j && p j) z m (within z (first_held z zs))
    (λ i other. ap (λ h. h && p i) (holds_cons z zs i) ∙ step i z (holds zs i) (p i) other)
    (ap (λ h. h && p z) fresh.0) in
    let one : one_if (holds (z ∷ zs) z && p z) ≡ cond (p z) 1 0 = ap (λ h. one_if (h && p z)) (first_held z zs) in
    omega arith
  where
    step : (i z : ℕ) (h p : Bool) → (i ≡ z → ⊥) → ((eqb i z || h) && p) ≡ (h && p)
    step i z h p other = grind (arith, nat_tests)

pub count_members : (p : ℕ → Bool) (is : List ℕ) (m : ℕ) → Once is → ((j : ℕ) → holds is j ≡ true → j < m) → count_by p is ≡ count (λ j. holds is j && p j) m
count_members p is m once within = fresh_count p is m (fresh_from_once is once) within

-- numbers below m, each once, are m at most
pub once_short : (is : List ℕ) (m : ℕ) → Once is → ((j : ℕ) → holds is j ≡ true → j < m) → length is ≤ m
once_short is m once within =
    omega (arith, all is, count_members (λ j. true) is m once within, count_at_most (λ j. holds is j && true) m)
  where
    all : (zs : List ℕ) → count_by (λ j. true) zs ≡ length zs
    all [] = refl
    all (z ∷ zs) = omega (arith, sum_by-cons (λ (x : ℕ). 1) z zs, all zs)

-- Sums and counts over the numbers below n: sums may be exchanged, so what is counted round by round is counted whole.
-- Assumes nothing.
use Rattle.std.proofs.Common.{◌≡◌, ℕ, zero, suc, ◌+◌, ◌*◌, ◌<◌, ◌≤◌, Bool, true, false, ◌&&◌, eqb, ltb, List, length, get_or, take, count_by, sym, refl, ap, ◌∙◌, ⊎_elim, suc-mul, arith}
use Rattle.std.proofs.lemmas.List.{take_all}
use Rattle.std.proofs.lemmas.List.Sums.{sum_by_more}
use Rattle.std.proofs.lemmas.Bool.{cases_Bool}
use Rattle.std.proofs.lemmas.Bool.Decides.{nat_tests}
use Rattle.fewest.specs.Counting.{total, one_if, count, ByRounds}

pub total_ext : (f g : ℕ → ℕ) (n : ℕ) → ((i : ℕ) → i < n → f i ≡ g i) → total f n ≡ total g n
total_ext f g zero h = refl
total_ext f g (suc n) h = let ih = total_ext f g n (λ i l. h i (omega arith)) in omega (arith, h n (omega arith))

pub total_le : (f g : ℕ → ℕ) (n : ℕ) → ((i : ℕ) → i < n → f i ≤ g i) → total f n ≤ total g n
total_le f g zero h = omega arith
total_le f g (suc n) h = let ih = total_le f g n (λ i l. h i (omega arith)) in omega (arith, h n (omega arith))

pub total_add : (f g : ℕ → ℕ) (n : ℕ) → total (λ i. f i + g i) n ≡ total f n + total g n
total_add f g zero = refl
total_add f g (suc n) = let ih = total_add f g n in omega arith

pub total_zero : (n : ℕ) → total (λ i. 0) n ≡ 0
total_zero zero = refl
total_zero (suc n) = let ih = total_zero n in omega arith

-- the sum of sums, in either order
pub total_swap : (f : ℕ → ℕ → ℕ) (n m : ℕ) → total (λ a. total (f a) m) n ≡ total (λ b. total (λ a. f a b) n) m
total_swap f zero m = sym (total_zero m)
total_swap f (suc n) m = let ih = total_swap f n m in let both = total_add (f n) (λ b. total (λ a. f a b) n) m in omega arith

pub total_at_most : (f : ℕ → ℕ) (most n : ℕ) → ((i : ℕ) → i < n → f i ≤ most) → total f n ≤ n * most
total_at_most f most zero h = omega arith
total_at_most f most (suc n) h =
    let ih = total_at_most f most n (λ i l. h i (omega arith)) in
    let more = suc-mul n most in
    omega (arith, h n (omega arith))

pub count_ext : (p q : ℕ → Bool) (n : ℕ) → ((i : ℕ) → i < n → p i ≡ q i) → count p n ≡ count q n
count_ext p q n h = total_ext (λ i. one_if (p i)) (λ i. one_if (q i)) n (λ i l. ap one_if (h i l))

pub one_most : (b : Bool) → one_if b ≤ 1
one_most true = omega arith
one_most false = omega arith

pub count_at_most : (p : ℕ → Bool) (n : ℕ) → count p n ≤ n
count_at_most p n = let all = total_at_most (λ i. one_if (p i)) 1 n (λ i h. one_most (p i)) in omega arith

-- among r rounds there is one that is x, if x is below r
one_round : (p : Bool) (x r : ℕ) → total (λ c. one_if (p && eqb x c)) r ≡ one_if (p && ltb x r)
one_round p x zero = grind (arith, nat_tests)
one_round p x (suc r) = let ih = one_round p x r in step p x r (total (λ c. one_if (p && eqb x c)) r) ih
  where
    step : (p : Bool) (x r t : ℕ) → t ≡ one_if (p && ltb x r) → one_if (p && eqb x r) + t ≡ one_if (p && ltb x (suc r))
    step p x r t e = grind (arith, nat_tests)

pub by_rounds : ByRounds
by_rounds p round m r =
    total_swap (λ c i. one_if (p i && eqb (round i) c)) r m
    ∙ total_ext (λ i. total (λ c. one_if (p i && eqb (round i) c)) r) (λ i. one_if (p i && ltb (round i) r)) m (λ i l. one_round (p i) (round i) r)

pub count_none : (p : ℕ → Bool) (n : ℕ) → ((i : ℕ) → i < n → p i ≡ false) → count p n ≡ 0
count_none p n h = count_ext p (λ i. false) n h ∙ total_zero n

pub count_all : (n : ℕ) → count (λ i. true) n ≡ n
count_all zero = refl
count_all (suc n) = let ih = count_all n in omega arith

-- where no two pass, at most one does
pub count_one : (p : ℕ → Bool) (n : ℕ) → ((i j : ℕ) → i < n → j < n → p i ≡ true → p j ≡ true → i ≡ j) → count p n ≤ 1
count_one p zero h = omega arith
count_one p (suc n) h =
    let before = count_one p n (λ i j hi hj. h i j (omega arith) (omega arith)) in
    ⊎_elim
    (λ last. let none = count_none p n (λ i hi. unless (p i) (λ yes. absurd (omega (arith, h i n (omega arith) (omega arith) yes last)))) in omega (arith, ap one_if last))
    (λ last. omega (arith, ap one_if last))
    (cases_Bool (p n))
  where
    unless : (b : Bool) → (b ≡ true → b ≡ false) → b ≡ false
    unless true f = f refl
    unless false f = refl

-- counting in a list is counting its places
count_front : {X : Type 0} (p : X → Bool) (xs : List X) (d : X) (i : ℕ) → i ≤ length xs → count_by p (take i xs) ≡ count (λ i. p (get_or xs i d)) i
count_front p xs d zero h = refl
count_front p xs d (suc i) h =
    let ih = count_front p xs d i (omega arith) in
    let more = sum_by_more (λ x. one_if (p x)) xs i d (omega arith) in
    let next : i + 1 ≡ suc i = omega arith in
    ap (λ n. count_by p (take n xs)) (sym next) ∙ omega arith

pub count_places : {X : Type 0} (p : X → Bool) (xs : List X) (d : X) → count_by p xs ≡ count (λ i. p (get_or xs i d)) (length xs)
count_places p xs d =
    ap (count_by p) (sym (take_all (length xs) xs (omega arith))) ∙ count_front p xs d (length xs) (omega arith)

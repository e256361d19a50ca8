-- The sizes of the rounds, entry by entry: as meetings are counted one after the other, and as one meeting less is in one round
-- and one more in another. Assumes nothing.
use Rattle.std.proofs.Common.{◌≡◌, ℕ, ◌+◌, ◌-◌, ◌<◌, ◌≤◌, eqb, List, [], length, get_or, set, take, replicate, sym, refl, ap, ◌∙◌, ⊎_elim, arith}
use Rattle.std.proofs.lemmas.List.{length-set, length-take-le, length-replicate, get_or-replicate, get_or-set_same, get_or-set_other, ext_get_or}
use Rattle.std.proofs.lemmas.List.FromFn.{length-map-range_with_len, get_or-map-range_with_len}
use Rattle.std.proofs.lemmas.List.Sums.{count_by-le-length, sum_by_more}
use Rattle.std.proofs.lemmas.Bool.{cases_eq, eq-eqb, ne_eqb}
use Rattle.fewest.specs.Counting.{one_if}
use Rattle.fewest.specs.Plans.{in_round}
use Rattle.balance.specs.Sizes.{size, sizes_of}
use Rattle.balance.proofs.Far.{OneMoved}

pub sizes_long : (r : ℕ) (xs : List ℕ) → length (sizes_of r xs) ≡ r
sizes_long r xs = length-map-range_with_len (size xs) 0 r

pub size_at : (r : ℕ) (xs : List ℕ) (c d : ℕ) → c < r → get_or (sizes_of r xs) c d ≡ in_round c xs
size_at r xs c d h = get_or-map-range_with_len (size xs) 0 r c c d h (omega arith)

-- numbers that are the sizes, one by one
pub are_sizes : (r : ℕ) (xs ns : List ℕ) → length ns ≡ r → ((c : ℕ) → c < r → get_or ns c 0 ≡ in_round c xs) → ns ≡ sizes_of r xs
are_sizes r xs ns long each =
    ext_get_or 0 ns (sizes_of r xs) (long ∙ sym (sizes_long r xs)) (λ c h. each c (omega (arith, long)) ∙ sym (size_at r xs c 0 (omega (arith, long))))

pub none_counted : (r : ℕ) → replicate r 0 ≡ sizes_of r []
none_counted r = are_sizes r [] (replicate r 0) (length-replicate r 0) (λ c h. get_or-replicate r c 0 0 h)

pub size_short : (xs : List ℕ) (c : ℕ) → in_round c xs ≤ length xs
size_short xs c = count_by-le-length (λ x. eqb x c) xs

-- before a meeting is counted, fewer are counted than there are
pub counted_front : (r : ℕ) (xs : List ℕ) (i : ℕ) (ns : List ℕ) → i < length xs → ns ≡ sizes_of r (take i xs) → get_or xs i 0 < r → get_or ns (get_or xs i 0) 0 < length xs
counted_front r xs i ns h e here =
    omega (arith, ap (λ m. get_or m (get_or xs i 0) 0) e, size_at r (take i xs) (get_or xs i 0) 0 here, size_short (take i xs) (get_or xs i 0), length-take-le i xs (omega arith))

module _ (r : ℕ) (xs : List ℕ) (i : ℕ) (h : i < length xs) where
  more_in : (c : ℕ) → in_round c (take (i + 1) xs) ≡ in_round c (take i xs) + one_if (eqb (get_or xs i 0) c)
  more_in c = sum_by_more (λ x. one_if (eqb x c)) xs i 0 h

  other_round : (c : ℕ) → (get_or xs i 0 ≡ c → ⊥) → in_round c (take (i + 1) xs) ≡ in_round c (take i xs)
  other_round c differ = omega (arith, more_in c, ap one_if (ne_eqb (get_or xs i 0) c differ))

  -- a meeting with one of the rounds is counted for it
  pub counted_more : (ns : List ℕ) → ns ≡ sizes_of r (take i xs) → get_or xs i 0 < r → set ns (get_or xs i 0) (get_or ns (get_or xs i 0) 0 + 1) ≡ sizes_of r (take (i + 1) xs)
  counted_more ns e here =
      are_sizes r (take (i + 1) xs) _ (length-set ns (get_or xs i 0) _ ∙ ap length e ∙ sizes_long r (take i xs)) each
    where
      x : ℕ
      x = get_or xs i 0

      long : length ns ≡ r
      long = ap length e ∙ sizes_long r (take i xs)

      was : (c : ℕ) → c < r → get_or ns c 0 ≡ in_round c (take i xs)
      was c l = ap (λ m. get_or m c 0) e ∙ size_at r (take i xs) c 0 l

      each : (c : ℕ) → c < r → get_or (set ns x (get_or ns x 0 + 1)) c 0 ≡ in_round c (take (i + 1) xs)
      each c l =
          ⊎_elim
          (λ same. ap (λ j. get_or (set ns x (get_or ns x 0 + 1)) j 0) same ∙ get_or-set_same ns x _ 0 (omega (arith, long)) ∙ omega (arith, was x here, more_in x, ap one_if (eq-eqb x x refl)) ∙ ap (λ j. in_round j (take (i + 1) xs)) (sym same))
          (λ other. get_or-set_other ns x c _ 0 other ∙ was c l ∙ sym (other_round c (λ e. other (sym e))))
          (cases_eq c x)

  -- one without a round is not
  pub counted_same : (ns : List ℕ) → ns ≡ sizes_of r (take i xs) → r ≤ get_or xs i 0 → ns ≡ sizes_of r (take (i + 1) xs)
  counted_same ns e past =
      are_sizes r (take (i + 1) xs) ns (ap length e ∙ sizes_long r (take i xs))
      (λ c l. ap (λ m. get_or m c 0) e ∙ size_at r (take i xs) c 0 l ∙ sym (other_round c (λ same. omega arith)))

-- one less at a and one more at b
pub moved_sizes : (r : ℕ) (xs ys : List ℕ) (ns : List ℕ) (a b : ℕ) → ns ≡ sizes_of r xs → OneMoved r (size xs) (size ys) a b → set (set ns a (get_or ns a 0 - 1)) b (get_or ns b 0 + 1) ≡ sizes_of r ys
moved_sizes r xs ys ns a b e moved =
    are_sizes r ys _ (length-set (set ns a _) b _ ∙ length-set ns a _ ∙ long) each
  where
    long : length ns ≡ r
    long = ap length e ∙ sizes_long r xs

    was : (c : ℕ) → c < r → get_or ns c 0 ≡ in_round c xs
    was c l = ap (λ m. get_or m c 0) e ∙ size_at r xs c 0 l

    ms : List ℕ
    ms = set ns a (get_or ns a 0 - 1)

    each : (c : ℕ) → c < r → get_or (set ms b (get_or ns b 0 + 1)) c 0 ≡ in_round c ys
    each c l =
        ⊎_elim
        (λ at_b. ap (λ j. get_or (set ms b (get_or ns b 0 + 1)) j 0) at_b ∙ get_or-set_same ms b _ 0 (omega (arith, length-set ns a (get_or ns a 0 - 1), long, moved.other)) ∙ omega (arith, was b moved.other, moved.given) ∙ ap (λ j. in_round j ys) (sym at_b))
        (λ not_b. get_or-set_other ms b c _ 0 not_b ∙ ⊎_elim
        (λ at_a. ap (λ j. get_or ms j 0) at_a ∙ get_or-set_same ns a _ 0 (omega (arith, long, moved.one)) ∙ omega (arith, was a moved.one, moved.taken) ∙ ap (λ j. in_round j ys) (sym at_a))
        (λ not_a. get_or-set_other ns a c _ 0 not_a ∙ was c l ∙ sym (moved.rest c not_a not_b))
        (cases_eq c a))
        (cases_eq c b)

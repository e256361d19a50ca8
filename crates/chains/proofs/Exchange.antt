-- An exchange on a closed set keeps a partial plan, and only the two rounds get other numbers of meetings: two meetings of a
-- party that clash after it clashed before, since in the two rounds both are members or neither is. Assumes nothing.
use Rattle.std.proofs.Common.{◌≡◌, ℕ, ◌+◌, ◌<◌, ◌≤◌, Bool, true, false, cond, ◌&&◌, ◌||◌, eqb, ◌⊎◌, List, length, sym, refl, ap, ◌∙◌, inl, inr, ⊎_elim, arith}
use Rattle.std.proofs.lemmas.List.FromFn.{length-map-range_with_len, get_or-map-range_with_len}
use Rattle.std.proofs.lemmas.List.{get_or_past}
use Rattle.std.proofs.lemmas.Bool.{cases_Bool, cases_lt}
use Rattle.std.proofs.lemmas.Bool.Decides.{nat_tests}
use Rattle.meetings.specs.declared.numbers.Meeting.{Meeting}
use Rattle.meetings.specs.declared.numbers.Side.{Side}
use Rattle.fewest.specs.Counting.{count, one_if}
use Rattle.fewest.specs.Plans.{none, in_round}
use Rattle.fewest.proofs.Counting.{total_ext, total_add, count_ext, count_places}
use Rattle.chains.proofs.Members.{count_members}
use Rattle.chains.specs.Chains.{Sound, two, in_two, swap, holds}
use Rattle.chains.specs.Exchanges.{exchanged, among}
use Rattle.chains.specs.Partial.{Partial, round_of, party_of}
use Rattle.chains.specs.Statements.{Once, ExchangeKeeps, OthersStay, ExchangeCounts}

-- the round of one meeting after the exchange: of a member, and of any other
abbrev pub moved : ℕ → ℕ → Bool → ℕ → ℕ
moved a b h c = cond h (swap a b c) c

moved_in : (a b r : ℕ) (h : Bool) (c : ℕ) → a < r → b < r → c < r → moved a b h c < r
moved_in a b r h c la lb lc = grind (arith, nat_tests)

moved_from : (a b r : ℕ) (h : Bool) (c : ℕ) → a < r → b < r → moved a b h c < r → c < r
moved_from a b r h c la lb l = grind (arith, nat_tests)

moved_third : (a b : ℕ) (h : Bool) (c : ℕ) → (c ≡ a → ⊥) → (c ≡ b → ⊥) → moved a b h c ≡ c
moved_third a b h c na nb = grind (arith, nat_tests)

-- where the rounds agree after it they agreed before it
moved_same : (a b : ℕ) (h : Bool) (c d : ℕ) → moved a b h c ≡ moved a b h d → c ≡ d
moved_same a b true c d e = grind (arith, nat_tests)
moved_same a b false c d e = e

-- and so of two meetings, if both are members or neither is, where both are in the two rounds
moved_apart : (a b : ℕ) (h k : Bool) (c d : ℕ) → ((eqb c a || eqb c b) ≡ true → (eqb d a || eqb d b) ≡ true → h ≡ k) → moved a b h c ≡ moved a b k d → c ≡ d
moved_apart a b h k c d agree e =
    ⊎_elim (λ one. ⊎_elim (λ other. moved_same a b h c d (e ∙ ap (λ m. moved a b m d) (sym (agree one other)))) (second one) (cases_Bool (eqb d a || eqb d b)))
    first (cases_Bool (eqb c a || eqb c b))
  where
    first : (eqb c a || eqb c b) ≡ false → c ≡ d
    first third = grind (arith, nat_tests)

    second : (eqb c a || eqb c b) ≡ true → (eqb d a || eqb d b) ≡ false → c ≡ d
    second one third = grind (arith, nat_tests)

module _ (a b : ℕ) (is xs : List ℕ) where
  pub exchanged_long : length (exchanged a b is xs) ≡ length xs
  exchanged_long = length-map-range_with_len (λ i. moved a b (holds is i) (round_of xs i)) 0 (length xs)

  pub exchanged_round : (i : ℕ) → i < length xs → round_of (exchanged a b is xs) i ≡ moved a b (holds is i) (round_of xs i)
  exchanged_round i h = get_or-map-range_with_len (λ i. moved a b (holds is i) (round_of xs i)) 0 (length xs) i i none h (omega arith)

  -- past the end of the list nothing has a round, before and after
  pub exchanged_past : (i : ℕ) → length xs ≤ i → round_of (exchanged a b is xs) i ≡ none
  exchanged_past i h = get_or_past (exchanged a b is xs) i none (omega (arith, exchanged_long))

  -- who is no member keeps the round
  pub exchanged_stays : (i : ℕ) → holds is i ≡ false → round_of (exchanged a b is xs) i ≡ round_of xs i
  exchanged_stays i out =
      ⊎_elim (λ h. exchanged_round i h ∙ rw out) (λ h. exchanged_past i h ∙ sym (get_or_past xs i none h)) (cases_lt i (length xs))

  -- who has a round below r has one still, and who has none has none
  pub exchanged_below : (r i : ℕ) → a < r → b < r → i < length xs → round_of xs i < r → round_of (exchanged a b is xs) i < r
  exchanged_below r i la lb h l = rw (exchanged_round i h) (moved_in a b r (holds is i) (round_of xs i) la lb l)

  pub exchanged_none : (r i : ℕ) → r ≤ none → a < r → b < r → round_of xs i ≡ none → round_of (exchanged a b is xs) i ≡ none
  exchanged_none r i le la lb out =
      ⊎_elim
      (λ h. exchanged_round i h ∙ moved_third a b (holds is i) (round_of xs i) (λ e. omega arith) (λ e. omega arith) ∙ out)
      (exchanged_past i)
      (cases_lt i (length xs))

  -- who is in a after it is a member and was in b, or is no member and was in a
  pub exchanged_to : (i : ℕ) → (a ≡ b → ⊥) → i < length xs → round_of (exchanged a b is xs) i ≡ a → ((holds is i ≡ true) × (round_of xs i ≡ b)) ⊎ ((holds is i ≡ false) × (round_of xs i ≡ a))
  exchanged_to i differ h e = to (holds is i) (round_of xs i) (sym (exchanged_round i h) ∙ e)
    where
      to : (m : Bool) (c : ℕ) → moved a b m c ≡ a → ((m ≡ true) × (c ≡ b)) ⊎ ((m ≡ false) × (c ≡ a))
      to true c f = inl (refl, grind (arith, nat_tests))
      to false c f = inr (refl, f)

pub exchange_keeps : ExchangeKeeps
exchange_keeps r ms xs a b is le la lb plan closed = record {
  each = exchanged_long a b is xs ∙ plan.each;
  round = λ i h. ⊎_elim (λ out. inl (exchanged_none a b is xs r i le la lb out)) (λ l. inr (exchanged_below a b is xs r i la lb (omega (arith, plan.each)) l)) (plan.round i h);
  apart = λ s i j hi hj l e p.
      let same = sym (at i hi) ∙ e ∙ at j hj in
      let was = moved_apart a b (holds is i) (holds is j) (round_of xs i) (round_of xs j) (λ one other. together s i j hi hj one other p) same in
      plan.apart s i j hi hj (moved_from a b r (holds is i) (round_of xs i) la lb (rw (at i hi) at l)) was p;
}
  where
    at : (i : ℕ) → i < length ms → round_of (exchanged a b is xs) i ≡ moved a b (holds is i) (round_of xs i)
    at i h = exchanged_round a b is xs i (omega (arith, plan.each))

    alike : (x y : Bool) → (x ≡ true → y ≡ true) → (y ≡ true → x ≡ true) → x ≡ y
    alike true y f g = sym (f refl)
    alike false true f g = g refl
    alike false false f g = refl

    -- two that share a party and are in the two rounds are both members, or neither is
    together : (s : Side) (i j : ℕ) → i < length ms → j < length ms → in_two (two ms xs a b) i ≡ true → in_two (two ms xs a b) j ≡ true → party_of ms s i ≡ party_of ms s j → holds is i ≡ holds is j
    together s i j hi hj one other p =
        alike (holds is i) (holds is j)
        (closed i j (record { one = hi; other = hj; one_in = one; other_in = other; shared = (s, p) }))
        (closed j i (record { one = hj; other = hi; one_in = other; other_in = one; shared = (s, sym p) }))

-- any two rounds of a partial plan are sound
pub two_sound : (r : ℕ) (ms : List Meeting) (xs : List ℕ) (a b : ℕ) → length ms ≤ none → a < r → b < r → (a ≡ b → ⊥) → Partial r ms xs → Sound (two ms xs a b)
two_sound r ms xs a b few la lb differ plan = record {
  few = few;
  different = differ;
  apart = λ s i j hi hj one e p. plan.apart s i j hi hj (within (round_of xs i) one) e p;
}
  where
    within : (c : ℕ) → (eqb c a || eqb c b) ≡ true → c < r
    within c one = grind (arith, nat_tests)

module _ (a b : ℕ) (is xs : List ℕ) where
  in_exchanged : (c : ℕ) → in_round c (exchanged a b is xs) ≡ count (λ i. eqb (moved a b (holds is i) (round_of xs i)) c) (length xs)
  in_exchanged c =
      count_places (λ x. eqb x c) (exchanged a b is xs) none
      ∙ ap (count (λ i. eqb (round_of (exchanged a b is xs) i) c)) (exchanged_long a b is xs)
      ∙ count_ext (λ i. eqb (round_of (exchanged a b is xs) i) c) (λ i. eqb (moved a b (holds is i) (round_of xs i)) c) (length xs) (λ i h. ap (λ x. eqb x c) (exchanged_round a b is xs i h))

  -- every third round keeps its number
  third_round : (c : ℕ) → (c ≡ a → ⊥) → (c ≡ b → ⊥) → in_round c (exchanged a b is xs) ≡ in_round c xs
  third_round c na nb =
      in_exchanged c
      ∙ count_ext (λ i. eqb (moved a b (holds is i) (round_of xs i)) c) (λ i. eqb (round_of xs i) c) (length xs) (λ i h. same (holds is i) (round_of xs i))
      ∙ sym (count_places (λ x. eqb x c) xs none)
    where
      same : (h : Bool) (x : ℕ) → eqb (moved a b h x) c ≡ eqb x c
      same h x = grind (arith, nat_tests)

  -- a round c gets the members that were in d and loses those in c, if each meeting says so
  gains : (c d : ℕ) → Once is → ((i : ℕ) → holds is i ≡ true → i < length xs) → ((h : Bool) (x : ℕ) → one_if (eqb (moved a b h x) c) + one_if (h && eqb x c) ≡ one_if (eqb x c) + one_if (h && eqb x d)) → in_round c (exchanged a b is xs) + among is c xs ≡ in_round c xs + among is d xs
  gains c d once below each =
      let n = length xs in
      let after = in_exchanged c in
      let before = count_places (λ x. eqb x c) xs none in
      let lost = count_members (λ i. eqb (round_of xs i) c) is n once below in
      let got = count_members (λ i. eqb (round_of xs i) d) is n once below in
      let left = total_add (λ i. one_if (eqb (moved a b (holds is i) (round_of xs i)) c)) (λ i. one_if (holds is i && eqb (round_of xs i) c)) n in
      let right = total_add (λ i. one_if (eqb (round_of xs i) c)) (λ i. one_if (holds is i && eqb (round_of xs i) d)) n in
      let all = total_ext (λ i. one_if (eqb (moved a b (holds is i) (round_of xs i)) c) + one_if (holds is i && eqb (round_of xs i) c)) (λ i. one_if (eqb (round_of xs i) c) + one_if (holds is i && eqb (round_of xs i) d)) n (λ i h. each (holds is i) (round_of xs i)) in
      omega arith

pub others_stay : OthersStay
others_stay a b is xs = (exchanged_stays a b is xs, third_round a b is xs)

-- so it is of the first round and of the second
first_gains : (a b : ℕ) → (a ≡ b → ⊥) → (h : Bool) (x : ℕ) → one_if (eqb (moved a b h x) a) + one_if (h && eqb x a) ≡ one_if (eqb x a) + one_if (h && eqb x b)
first_gains a b differ true x = grind (arith, nat_tests)
first_gains a b differ false x = grind (arith, nat_tests)

second_gains : (a b : ℕ) → (a ≡ b → ⊥) → (h : Bool) (x : ℕ) → one_if (eqb (moved a b h x) b) + one_if (h && eqb x b) ≡ one_if (eqb x b) + one_if (h && eqb x a)
second_gains a b differ true x = grind (arith, nat_tests)
second_gains a b differ false x = grind (arith, nat_tests)

pub exchange_counts : ExchangeCounts
exchange_counts a b is xs differ once below = (gains a b is xs a b once below (first_gains a b differ), gains a b is xs b a once below (second_gains a b differ))

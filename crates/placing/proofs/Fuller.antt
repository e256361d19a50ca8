-- Which round has one meeting more after a meeting was put in: a chain has as many meetings in its first round as in its second,
-- or one more, as its length is even or odd; the exchange makes up for that, and the meeting is one more in the first. Assumes
-- nothing.
use Rattle.std.proofs.Common.{◌≡◌, ℕ, ◌+◌, ◌%◌, ◌<◌, ◌≤◌, true, ◌||◌, eqb, ◌⊎◌, List, [], ◌∷◌, length, set, sym, refl, ap, ◌∙◌, inl, inr, ⊎_elim, arith}
use Rattle.std.proofs.lemmas.List.Sums.{sum_by-cons, sum_by-set}
use Rattle.std.proofs.lemmas.Bool.{cases_Bool, cases_eq, cond-true, cond-false, eq-eqb, eqb-true, eqb-false, ne_eqb}
use Rattle.std.proofs.lemmas.Bool.Decides.{nat_tests}
use Rattle.meetings.specs.declared.numbers.Meeting.{Meeting}
use Rattle.fewest.specs.Counting.{one_if}
use Rattle.fewest.specs.Plans.{none, in_round}
use Rattle.chains.specs.declared.board.Board.{Board}
use Rattle.chains.specs.declared.found.Found.{Found}
use Rattle.chains.specs.Boards.{Becomes, meetings_on, rounds_on}
use Rattle.chains.specs.Chains.{Two, two, in_two, holds}
use Rattle.chains.specs.Exchanges.{among, exchanged}
use Rattle.chains.specs.Partial.{round_of}
use Rattle.chains.specs.Statements.{in_part}
use Rattle.chains.proofs.Exchange.{exchange_counts, exchanged_long, exchanged_none, others_stay}
use Rattle.chains.proofs.Members.{first_held, rest_held}
use Rattle.placing.specs.OnBoard.{Opened, OpensOn}
use Rattle.placing.specs.Putting.{chain_for}
use Rattle.placing.specs.Statements.{OneMoreIn, Opens}
use Rattle.placing.specs.Steps.{fuller_of}

-- a meeting without a round gets one
pub one_more_set : (xs : List ℕ) (i c : ℕ) → i < length xs → round_of xs i ≡ none → OneMoreIn xs (set xs i c) c
one_more_set xs i c here out e some =
    let counts = sum_by-set (λ x. one_if (eqb x e)) xs i c none here in
    let was : one_if (eqb (round_of xs i) e) ≡ 0 = ap (λ x. one_if (eqb x e)) out ∙ ap one_if (ne_eqb none e (λ same. some (sym same))) in
    let same : one_if (eqb c e) ≡ one_if (eqb e c) = ap one_if (turned c e) in
    omega arith
  where
    turned : (c e : ℕ) → eqb c e ≡ eqb e c
    turned c e = grind (arith, nat_tests)

-- each meeting of a part is in one of the two rounds, and not in both
pub parts_add : (t : Two) (is : List ℕ) → (t.a ≡ t.b → ⊥) → ((j : ℕ) → holds is j ≡ true → in_two t j ≡ true) → in_part t t.a is + in_part t t.b is ≡ length is
parts_add t [] differ within = refl
parts_add t (z ∷ zs) differ within =
    let ih = parts_add t zs differ (λ j h. within j (rest_held z zs j h)) in
    let in_a = sum_by-cons (λ j. one_if (eqb (t.round j) t.a)) z zs in
    let in_b = sum_by-cons (λ j. one_if (eqb (t.round j) t.b)) z zs in
    let here = just_one (t.round z) t.a t.b differ (within z (first_held z zs)) in
    omega arith
  where
    just_one : (c a b : ℕ) → (a ≡ b → ⊥) → (eqb c a || eqb c b) ≡ true → one_if (eqb c a) + one_if (eqb c b) ≡ 1
    just_one c a b differ h = grind (arith, nat_tests)

-- as many of the one as of the other, or one more: which it is, the sum says
even_or_odd : (a b x y long : ℕ) → x + y ≡ long → y ≤ x → (x ≤ y + 1) → ((fuller_of a b long ≡ a) × (x ≡ y)) ⊎ ((fuller_of a b long ≡ b) × (x ≡ y + 1))
even_or_odd a b x y long sum more most =
    ⊎_elim
    (λ even. let two : long % 2 ≡ 0 = eqb-true (long % 2) 0 even in inl (cond-true (eqb (long % 2) 0) a b even, omega arith))
    (λ odd. let two : long % 2 ≡ 0 → ⊥ = eqb-false (long % 2) 0 odd in inr (cond-false (eqb (long % 2) 0) a b odd, omega (arith, two)))
    (cases_Bool (eqb (long % 2) 0))

-- the numbers of the rounds after an exchange of a and b, of which x members were in a and y in b, and one more in a
module _ (a b x y c : ℕ) (xs zs : List ℕ) (differ : a ≡ b → ⊥) (in_a : in_round a zs + x ≡ in_round a xs + y) (in_b : in_round b zs + y ≡ in_round b xs + x) (rest : (e : ℕ) → (e ≡ a → ⊥) → (e ≡ b → ⊥) → in_round e zs ≡ in_round e xs) where
  one_more : ((c ≡ a) × (x ≡ y)) ⊎ ((c ≡ b) × (x ≡ y + 1)) → (e : ℕ) → in_round e zs + one_if (eqb e a) ≡ in_round e xs + one_if (eqb e c)
  one_more (inl p) e = ap (λ n. n + one_if (eqb e a)) (kept e) ∙ ap (λ d. in_round e xs + one_if (eqb e d)) (sym p.0)
    where
      kept : (e : ℕ) → in_round e zs ≡ in_round e xs
      kept e =
          ⊎_elim
          (λ at_a. rw at_a (omega (arith, p.1)))
          (λ not_a. ⊎_elim (λ at_b. rw at_b (omega (arith, p.1))) (rest e not_a) (cases_eq e b))
          (cases_eq e a)
  one_more (inr p) e =
      ⊎_elim
      (λ at_a. let here : one_if (eqb e a) ≡ 1 = ap one_if (eq-eqb e a at_a) in let there : one_if (eqb e c) ≡ 0 = ap one_if (ne_eqb e c (λ f. differ (sym at_a ∙ f ∙ p.0))) in omega (arith, ap (λ d. in_round d zs) at_a, ap (λ d. in_round d xs) at_a, p.1))
      (λ not_a. let here : one_if (eqb e a) ≡ 0 = ap one_if (ne_eqb e a not_a) in ⊎_elim
      (λ at_b. let there : one_if (eqb e c) ≡ 1 = ap one_if (eq-eqb e c (at_b ∙ sym p.0)) in omega (arith, ap (λ d. in_round d zs) at_b, ap (λ d. in_round d xs) at_b, p.1))
      (λ not_b. let there : one_if (eqb e c) ≡ 0 = ap one_if (ne_eqb e c (λ f. not_b (f ∙ p.0))) in omega (arith, rest e not_a not_b))
      (cases_eq e b))
      (cases_eq e a)

-- after the exchange of the chain that opens a
module _ (n k : ℕ) (ms : List Meeting) (xs : List ℕ) (i a b : ℕ) (is : List ℕ) (opens : Opens n k ms xs i a b is) (each : length xs ≡ length ms) (here : i < length ms) (out : round_of xs i ≡ none) (la : a < none) (lb : b < none) where
  pub chain_fuller : OneMoreIn xs (set (exchanged a b is xs) i a) (fuller_of a b (length is))
  chain_fuller e some =
      let t = two ms xs a b in
      let zs = exchanged a b is xs in
      let counts = exchange_counts a b is xs opens.different opens.whole.once (λ j h. omega (arith, (opens.whole.within j h).0)) in
      let sum = parts_add t is opens.different (λ j h. (opens.whole.within j h).1) in
      let which = even_or_odd a b (among is a xs) (among is b xs) (length is) sum opens.more (omega (arith, opens.whole.even.0)) in
      let more = one_more a b (among is a xs) (among is b xs) (fuller_of a b (length is)) xs zs opens.different counts.0 counts.1 (others_stay a b is xs).1 which e in
      let given = one_more_set zs i a (omega (arith, exchanged_long a b is xs)) (exchanged_none a b is xs none i (omega arith) la lb out) e some in
      omega (arith, more, given)

-- so it is on a board, where the chain for the meeting was exchanged, and then it got a
pub fuller_on : (d e f : Board) (v w : Found) (i a b long : ℕ) → OpensOn d v i a b → Opened d e v w i a b long → Becomes e f (set (rounds_on e) i a) → OneMoreIn (rounds_on d) (rounds_on f) (fuller_of a b long)
fuller_on d e f v w i a b long on opened put =
    let is = chain_for (meetings_on d) (rounds_on d) i a b in
    let la : a < none = omega (arith, on.one.0, d.held.groups.narrow) in
    let lb : b < none = omega (arith, on.other.0, d.held.groups.narrow) in
    rw (put.rounds, opened.board.rounds, opened.counted) (chain_fuller _ _ (meetings_on d) (rounds_on d) i a b is on.opens d.held.each on.here on.out la lb)

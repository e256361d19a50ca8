-- Evening out: each exchange makes the rounds one step nearer to even, so the steps allowed are just those that are left, and
-- rounds that are no step away are even. Assumes nothing.
use Rattle.std.proofs.Common.{◌≡◌, ℕ, zero, suc, ◌+◌, ◌*◌, ◌≤◌, true, false, cond, List, [], ◌∷◌, length, refl, sym, ap, ◌∙◌, ⊎_elim, suc-mul, arith}
use Rattle.std.proofs.lemmas.Bool.{cases_Bool, cond_both, cond-true, cond-false}
use Rattle.meetings.specs.declared.numbers.Meeting.{Meeting}
use Rattle.meetings.specs.Lists.{Exist}
use Rattle.fewest.specs.Plans.{none}
use Rattle.chains.specs.Partial.{Partial}
use Rattle.placing.specs.Putting.{Placed}
use Rattle.placing.specs.Steps.{exchange}
use Rattle.balance.specs.Sizes.{size, fullest, emptiest, uneven, far}
use Rattle.balance.specs.Evening.{extremes, one_exchange, exchanges, even_out, exchange_steps, even_steps, number_of_exchanges}
use Rattle.balance.specs.Looking.{look}
use Rattle.balance.specs.Statements.{EvenedOut, Ends, EvensOut}
use Rattle.balance.proofs.Extremes.{fullest_is, emptiest_is, even_is}
use Rattle.balance.proofs.OneExchange.{one_exchange_is, round_short, some_rounds}

-- where the rounds are uneven the next step is an exchange
next_step : (r : ℕ) (ms : List Meeting) (left : ℕ) (p : Placed) → uneven r (size p.rounds) ≡ true → exchanges r ms (suc left) p ≡ exchanges r ms left (one_exchange r ms p)
next_step r ms left p apart = ap (λ u. cond u (exchanges r ms left (one_exchange r ms p)) p) apart

-- and where they are not it is none, whatever is allowed
no_step : (r : ℕ) (ms : List Meeting) (left : ℕ) (p : Placed) → uneven r (size p.rounds) ≡ false → exchanges r ms left p ≡ p
no_step r ms zero p even = refl
no_step r ms (suc left) p even = ap (λ u. cond u (exchanges r ms left (one_exchange r ms p)) p) even

-- evening out starts with an exchange, where the rounds are uneven
pub exchanges_more : (r : ℕ) (ms : List Meeting) (p : Placed) → r ≤ none → length ms ≤ none → Partial r ms p.rounds → uneven r (size p.rounds) ≡ true → even_out r ms p ≡ even_out r ms (one_exchange r ms p)
exchanges_more r ms p le few plan apart =
    ap (λ left. exchanges r ms left p) (sym (one_exchange_is r ms p le few plan apart).nearer) ∙ next_step r ms (far r (size (one_exchange r ms p).rounds)) p apart

-- and changes nothing where they are not
pub exchanges_end : (r : ℕ) (ms : List Meeting) (p : Placed) → uneven r (size p.rounds) ≡ false → even_out r ms p ≡ p
exchanges_end r ms p even = no_step r ms (far r (size p.rounds)) p even

-- the steps: where the rounds are uneven, that of one exchange and then those of evening out what it leaves
pub steps_more : (r : ℕ) (ms : List Meeting) (p : Placed) → r ≤ none → length ms ≤ none → Partial r ms p.rounds → uneven r (size p.rounds) ≡ true → even_steps r ms p ≡ exchange (fullest r (size p.rounds)) (emptiest r (size p.rounds)) (look (extremes r ms p.rounds)).taken ∷ even_steps r ms (one_exchange r ms p)
steps_more r ms p le few plan apart =
    ap (λ left. exchange_steps r ms left p) (sym (one_exchange_is r ms p le few plan apart).nearer)
    ∙ cond-true (uneven r (size p.rounds)) _ _ apart

-- and none where they are not, whatever is allowed
no_steps : (r : ℕ) (ms : List Meeting) (left : ℕ) (p : Placed) → uneven r (size p.rounds) ≡ false → exchange_steps r ms left p ≡ []
no_steps r ms zero p even = refl
no_steps r ms (suc left) p even = cond-false (uneven r (size p.rounds)) _ _ even

pub steps_end : (r : ℕ) (ms : List Meeting) (p : Placed) → uneven r (size p.rounds) ≡ false → even_steps r ms p ≡ []
steps_end r ms p even = no_steps r ms (far r (size p.rounds)) p even

module _ (r : ℕ) (ms : List Meeting) (le : r ≤ none) (few : length ms ≤ none) where
  -- rounds that are no step away are not uneven
  none_left : (p : Placed) → Partial r ms p.rounds → far r (size p.rounds) ≡ 0 → uneven r (size p.rounds) ≡ false
  none_left p plan end =
      ⊎_elim
      (λ apart. absurd (omega (arith, (one_exchange_is r ms p le few plan apart).nearer)))
      (λ even. even)
      (cases_Bool (uneven r (size p.rounds)))

  -- as many steps as they are away, and more, come to the same
  ends_after : (left longer : ℕ) (p : Placed) → left ≤ longer → Partial r ms p.rounds → far r (size p.rounds) ≡ left → exchanges r ms longer p ≡ exchanges r ms left p
  ends_after zero longer p h plan e = no_step r ms longer p (none_left p plan e)
  ends_after (suc left) zero p h plan e = absurd (omega arith)
  ends_after (suc left) (suc longer) p h plan e =
      ⊎_elim
      (λ apart.
      let one = one_exchange_is r ms p le few plan apart in
      next_step r ms longer p apart ∙ ends_after left longer (one_exchange r ms p) (omega arith) one.plan (omega (arith, one.nearer)) ∙ sym (next_step r ms left p apart))
      (λ even. no_step r ms (suc longer) p even ∙ sym (no_step r ms (suc left) p even))
      (cases_Bool (uneven r (size p.rounds)))

  -- however many are allowed, there are no more than the steps that they are away
  no_more : (left longer : ℕ) (p : Placed) → Partial r ms p.rounds → far r (size p.rounds) ≡ left → number_of_exchanges r ms longer p ≤ left
  no_more left zero p plan e = omega arith
  no_more left (suc longer) p plan e =
      cond_both (uneven r (size p.rounds)) (suc (number_of_exchanges r ms longer (one_exchange r ms p))) 0 (λ n. n ≤ left)
      (λ apart.
      let one = one_exchange_is r ms p le few plan apart in
      omega (arith, no_more (far r (size (one_exchange r ms p).rounds)) longer (one_exchange r ms p) one.plan refl, one.nearer))
      (λ even. omega arith)

pub ends : Ends
ends r more ms p le few plan = (
  ends_after r ms le few (far r (size p.rounds)) (far r (size p.rounds) + more) p (omega arith) plan refl,
  no_more r ms le few (far r (size p.rounds)) (far r (size p.rounds) + more) p plan refl,
)

module _ (n k r : ℕ) (ms : List Meeting) (exist : Exist n k ms) (le : r ≤ none) (few : length ms ≤ none) where
  -- rounds that are even already
  even_already : (p : Placed) → Partial r ms p.rounds → uneven r (size p.rounds) ≡ false → EvenedOut n k r ms p p
  even_already p plan even = record {
    plan = plan;
    still = λ i h l. l;
    out = λ i e. e;
    even = even_is r (size p.rounds) even;
    looks = omega arith;
  }

  -- an exchange, and what evening out leaves after it
  one_more_step : (p q : Placed) → Partial r ms p.rounds → uneven r (size p.rounds) ≡ true → EvenedOut n k r ms (one_exchange r ms p) q → EvenedOut n k r ms p q
  one_more_step p q plan apart rest =
      let one = one_exchange_is r ms p le few plan apart in
      let some = some_rounds r (size p.rounds) apart in
      let in_a = round_short n k r ms p.rounds (fullest r (size p.rounds)) exist plan (fullest_is r (size p.rounds) some).0 in
      let in_b = round_short n k r ms p.rounds (emptiest r (size p.rounds)) exist plan (emptiest_is r (size p.rounds) some).0 in
      let steps = ap (λ d. d * (n + k)) (sym one.nearer) ∙ suc-mul (far r (size (one_exchange r ms p).rounds)) (n + k) in
      record {
        plan = rest.plan;
        still = λ i h l. rest.still i h (one.still i h l);
        out = λ i e. rest.out i (one.out i e);
        even = rest.even;
        looks = omega (arith, rest.looks, one.looks, in_a.0, in_b.1);
      }

  evened_after : (left : ℕ) (p : Placed) → Partial r ms p.rounds → far r (size p.rounds) ≡ left → EvenedOut n k r ms p (exchanges r ms left p)
  evened_after zero p plan e = even_already p plan (none_left r ms le few p plan e)
  evened_after (suc left) p plan e =
      cond_both (uneven r (size p.rounds)) (exchanges r ms left (one_exchange r ms p)) p (EvenedOut n k r ms p)
      (λ apart.
      let one = one_exchange_is r ms p le few plan apart in
      one_more_step p (exchanges r ms left (one_exchange r ms p)) plan apart (evened_after left (one_exchange r ms p) one.plan (omega (arith, one.nearer))))
      (λ even. even_already p plan even)

-- EVENING OUT leaves even rounds
pub evens_out : EvensOut
evens_out n k r ms p exist le few plan = evened_after n k r ms exist le few (far r (size p.rounds)) p plan refl

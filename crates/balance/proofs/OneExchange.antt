-- One exchange between the fullest and the emptiest round: the part that is taken has one meeting more in the fullest, so that
-- round loses one and the emptiest gets one, and all else is as it was. Assumes nothing.
use Rattle.std.proofs.Common.{◌≡◌, ℕ, zero, suc, ◌+◌, ◌<◌, ◌≤◌, true, ◌&&◌, eqb, ltb, List, length, sym, ap, ◌∙◌, arith}
use Rattle.std.proofs.lemmas.Bool.{and_parts, eqb-true}
use Rattle.meetings.specs.declared.numbers.Meeting.{Meeting}
use Rattle.meetings.specs.declared.numbers.Side.{Side}
use Rattle.meetings.specs.declared.numbers.Side.TheVariants.{Groups, Stations}
use Rattle.meetings.specs.Lists.{Exist, parties}
use Rattle.fewest.specs.Counting.{total, count}
use Rattle.fewest.specs.Plans.{none, in_round}
use Rattle.fewest.proofs.Counting.{total_ext, count_at_most, count_one, by_rounds}
use Rattle.fewest.proofs.NoFewer.{in_all_rounds}
use Rattle.chains.specs.declared.shapes.Shape.{Shape}
use Rattle.chains.specs.Rows.{WithinRows}
use Rattle.chains.specs.Chains.{two}
use Rattle.chains.specs.Exchanges.{exchanged, Exchangeable}
use Rattle.chains.specs.Partial.{Partial, round_of, party_of}
use Rattle.chains.proofs.Exchange.{exchange_keeps, others_stay, exchange_counts, exchanged_below, exchanged_none, two_sound}
use Rattle.balance.specs.Looking.{look, looks_of}
use Rattle.balance.specs.Sizes.{size, fullest, emptiest, uneven}
use Rattle.balance.specs.Evening.{one_exchange}
use Rattle.balance.specs.Statements.{OneExchange}
use Rattle.balance.proofs.Extremes.{fullest_is, emptiest_is, uneven_is}
use Rattle.balance.proofs.Far.{OneMoved, nearer}
use Rattle.balance.proofs.Looking.{looked_at, looks_within}
use Rattle.balance.proofs.FirstPart.{finds_first, count_round}

-- on the part that was taken, or on nothing, two rounds can be exchanged
pub exchange_allowed : (r : ℕ) (ms : List Meeting) (xs : List ℕ) (a b : ℕ) → r ≤ none → length ms ≤ none → Partial r ms xs → a < r → b < r → (a ≡ b → ⊥) → (z : Shape) → WithinRows z a → WithinRows z b → Exchangeable ms z xs (look (two ms xs a b)).taken a b
exchange_allowed r ms xs a b le few plan la lb differ z one other =
    let all = looked_at (two ms xs a b) (two_sound r ms xs a b few la lb differ plan) in
    record { one = one; other = other; different = differ; within = all.taken_within; closed = all.taken_closed }

-- an exchange of two rounds on the part that is taken, where the first has more meetings
module _ (r : ℕ) (ms : List Meeting) (xs : List ℕ) (a b : ℕ) (le : r ≤ none) (few : length ms ≤ none) (plan : Partial r ms xs) (la : a < r) (lb : b < r) (fuller : in_round b xs < in_round a xs) where
  differ : a ≡ b → ⊥
  differ e = omega (arith, ap (λ c. in_round c xs) e, fuller)

  -- it leaves a partial plan
  exchange_plan : Partial r ms (exchanged a b (look (two ms xs a b)).taken xs)
  exchange_plan = exchange_keeps r ms xs a b (look (two ms xs a b)).taken le la lb plan (finds_first r ms xs a b le few plan la lb fuller).1.whole.closed

  -- one meeting goes from the one to the other
  pub exchange_moves : OneMoved r (size xs) (size (exchanged a b (look (two ms xs a b)).taken xs)) a b
  exchange_moves =
      let is = (look (two ms xs a b)).taken in
      let found = (finds_first r ms xs a b le few plan la lb fuller).1 in
      let counts = exchange_counts a b is xs differ found.whole.once (λ i h. omega (arith, (found.whole.within i h).0, plan.each)) in
      record {
        one = la;
        other = lb;
        different = differ;
        taken = omega (arith, counts.0, found.one_more);
        given = omega (arith, counts.1, found.one_more);
        rest = (others_stay a b is xs).1;
      }

  -- one look at most for each meeting of the two
  exchange_looks : looks_of (look (two ms xs a b)) ≤ in_round a xs + in_round b xs
  exchange_looks =
      let most = looks_within (two ms xs a b) (two_sound r ms xs a b few la lb differ plan) in
      omega (arith, count_round r ms xs a plan, count_round r ms xs b plan)

-- where rounds are uneven there are some
pub some_rounds : (r : ℕ) (f : ℕ → ℕ) → uneven r f ≡ true → 1 ≤ r
some_rounds zero f h = absurd (omega (arith, uneven_is zero f h))
some_rounds (suc r) f h = omega arith

-- ONE EXCHANGE
pub one_exchange_is : OneExchange
one_exchange_is r ms p le few plan apart =
    let some = some_rounds r (size p.rounds) apart in
    let a = fullest r (size p.rounds) in
    let b = emptiest r (size p.rounds) in
    let la = (fullest_is r (size p.rounds) some).0 in
    let lb = (emptiest_is r (size p.rounds) some).0 in
    let more : in_round b p.rounds < in_round a p.rounds = omega (arith, uneven_is r (size p.rounds) apart) in
    let moves = exchange_moves r ms p.rounds a b le few plan la lb more in
    record {
      plan = exchange_plan r ms p.rounds a b le few plan la lb more;
      still = λ i h l. exchanged_below a b (look (two ms p.rounds a b)).taken p.rounds r i la lb (omega (arith, plan.each)) l;
      out = λ i h. exchanged_none a b (look (two ms p.rounds a b)).taken p.rounds r i le la lb h;
      fuller = moves.taken;
      emptier = moves.given;
      others = moves.rest;
      nearer = nearer r (size p.rounds) (size (one_exchange r ms p).rounds) apart moves;
      looks = omega (arith, exchange_looks r ms p.rounds a b le few plan la lb more);
    }

-- a round has at most one meeting of each party
round_within : (n k r : ℕ) (ms : List Meeting) (xs : List ℕ) (c : ℕ) → Exist n k ms → Partial r ms xs → c < r → (s : Side) → in_round c xs ≤ parties s n k
round_within n k r ms xs c exist plan h s =
    let most = in_all_rounds (λ i. eqb (round_of xs i) c) (party_of ms s) (length ms) (parties s n k) 1 (exist s) (λ p l. count_one (λ i. eqb (round_of xs i) c && eqb (party_of ms s i) p) (length ms) (same p)) in
    omega (arith, count_round r ms xs c plan)
  where
    same : (p i j : ℕ) → i < length ms → j < length ms → (eqb (round_of xs i) c && eqb (party_of ms s i) p) ≡ true → (eqb (round_of xs j) c && eqb (party_of ms s j) p) ≡ true → i ≡ j
    same p i j hi hj one other =
        let u = and_parts (eqb (round_of xs i) c) (eqb (party_of ms s i) p) one in
        let v = and_parts (eqb (round_of xs j) c) (eqb (party_of ms s j) p) other in
        plan.apart s i j hi hj (omega (arith, eqb-true _ _ u.0)) (eqb-true _ _ u.0 ∙ sym (eqb-true _ _ v.0)) (eqb-true _ _ u.1 ∙ sym (eqb-true _ _ v.1))

-- so it has no more than there are groups, and no more than there are stations
pub round_short : (n k r : ℕ) (ms : List Meeting) (xs : List ℕ) (c : ℕ) → Exist n k ms → Partial r ms xs → c < r → (in_round c xs ≤ n) × (in_round c xs ≤ k)
round_short n k r ms xs c exist plan h = (round_within n k r ms xs c exist plan h Groups, round_within n k r ms xs c exist plan h Stations)

-- all rounds together have no more meetings than there are
pub sizes_together : (r : ℕ) (ms : List Meeting) (xs : List ℕ) → Partial r ms xs → total (size xs) r ≤ length ms
sizes_together r ms xs plan =
    let each = total_ext (size xs) (λ c. count (λ i. eqb (round_of xs i) c) (length ms)) r (λ c h. count_round r ms xs c plan) in
    let by = by_rounds (λ i. true) (round_of xs) (length ms) r in
    omega (arith, count_at_most (λ i. ltb (round_of xs i) r) (length ms))

-- No plan has fewer rounds: each round has at most one meeting of a party, and at most as many as there are rooms; counted
-- round by round these are all. Assumes nothing.
use Rattle.std.proofs.Common.{min, ◌≡◌, ℕ, suc, ◌+◌, ◌-◌, ◌*◌, ◌/◌, ◌%◌, ◌<◌, ◌≤◌, Bool, true, false, ◌&&◌, eqb, ltb, List, length, get_or, Result, Ok, Err, IfOk, sym, refl, ap, ◌∙◌, mul-le-mul_right, mod-lt, suc-mul, div-lt_iff_lt-mul, div-add-mod', zero-mul, arith}
use Rattle.std.proofs.lemmas.Grind.{div_ceil_times}
use Rattle.std.proofs.lemmas.Nat.{le-div}
use Rattle.std.proofs.lemmas.List.Sums.{count_by-le-length}
use Rattle.std.proofs.lemmas.Bool.{and_parts, eqb-true, lt-ltb}
use Rattle.meetings.specs.declared.numbers.Meeting.{Meeting}
use Rattle.meetings.specs.declared.refusal.Refusal.{Refusal}
use Rattle.meetings.specs.declared.numbers.Side.{Side}
use Rattle.meetings.specs.declared.numbers.Side.TheVariants.{Groups, Stations}
use Rattle.meetings.specs.Lists.{Contents, party, nobody}
use Rattle.meetings.specs.Refusals.{IfMemory}
use Rattle.fewest.specs.Counting.{count}
use Rattle.fewest.specs.Plans.{none, Plan, Rooms, in_round}
use Rattle.fewest.specs.Rounds.{meetings_of, numbers, largest, fewest}
use Rattle.fewest.specs.Statements.{Suffices, Least, LeastOfPlans, FewestLeast, NoneWithoutMeetings, NoFewer}
use Rattle.fewest.proofs.Numbers.{largest_within, numbers_long, number_at}
use Rattle.fewest.proofs.Counting.{total_at_most, count_ext, count_all, count_one, count_places, by_rounds}

-- a sum over rounds bounds what is counted, where every meeting has a round
pub in_all_rounds : (p : ℕ → Bool) (round : ℕ → ℕ) (m r most : ℕ) → ((i : ℕ) → i < m → round i < r) → ((c : ℕ) → c < r → count (λ i. p i && eqb (round i) c) m ≤ most) → count p m ≤ r * most
in_all_rounds p round m r most placed few =
    let whole = count_ext p (λ i. p i && ltb (round i) r) m (λ i h. passes (p i) (lt-ltb (round i) r (placed i h))) in
    let by = by_rounds p round m r in
    omega (arith, total_at_most (λ c. count (λ i. p i && eqb (round i) c) m) most r few)
  where
    passes : (b : Bool) {t : Bool} → t ≡ true → b ≡ b && t
    passes true e = sym e
    passes false e = refl

module _ (r : ℕ) (ms : List Meeting) (xs : List ℕ) (plan : Plan r ms xs) where
  together : (s : Side) (p c i j : ℕ) → i < length ms → j < length ms → (eqb (party s (get_or ms i nobody)) p && eqb (get_or xs i none) c) ≡ true → (eqb (party s (get_or ms j nobody)) p && eqb (get_or xs j none) c) ≡ true → i ≡ j
  together s p c i j hi hj one other =
      let a = and_parts (eqb (party s (get_or ms i nobody)) p) (eqb (get_or xs i none) c) one in
      let b = and_parts (eqb (party s (get_or ms j nobody)) p) (eqb (get_or xs j none) c) other in
      plan.apart s i j hi hj (plan.round i hi) (eqb-true _ _ a.1 ∙ sym (eqb-true _ _ b.1)) (eqb-true _ _ a.0 ∙ sym (eqb-true _ _ b.0))

  -- a party has one meeting a round at most
  pub party_within : (s : Side) (p : ℕ) → meetings_of s p ms ≤ r
  party_within s p =
      let most = in_all_rounds (λ i. eqb (party s (get_or ms i nobody)) p) (λ i. get_or xs i none) (length ms) r 1 plan.round (λ c h. count_one (λ i. eqb (party s (get_or ms i nobody)) p && eqb (get_or xs i none) c) (length ms) (together s p c)) in
      omega (arith, count_places (λ m. eqb (party s m) p) ms nobody)

  -- and there are rooms for all
  pub all_within : (q : ℕ) → Rooms q r xs → length ms ≤ r * q
  all_within q rooms =
      let most = in_all_rounds (λ i. true) (λ i. get_or xs i none) (length ms) r q plan.round (λ c h. few c (rooms c h)) in
      omega (arith, count_all (length ms))
    where
      few : (c : ℕ) → in_round c xs ≤ q → count (λ i. eqb (get_or xs i none) c) (length ms) ≤ q
      few c h = rw (← plan.each) (rw (count_places (λ x. eqb x c) xs none) at h)

numbers_within : (s : Side) (d : Contents) (r : ℕ) → ((p : ℕ) → meetings_of s p d.meetings ≤ r) → largest (numbers s d) ≤ r
numbers_within s d r each =
    let long = numbers_long s d in
    largest_within r (numbers s d) (λ i h. omega (arith, number_at s d i (omega arith), each i))

-- meetings divided by rooms, rounded up, is the least number of rounds with rooms enough
pub rooms_within : (m q r : ℕ) → 1 ≤ q → m ≤ r * q → (m + (q - 1)) / q ≤ r
rooms_within m q r some enough =
    let more = suc-mul r q in
    let fits : m + (q - 1) < suc r * q = omega arith in
    omega (arith, (div-lt_iff_lt-mul some).1 fits)

-- it is what `div_ceil` answers
pub rounded_up : (m q : ℕ) → 1 ≤ q → m / q + min 1 (m % q) ≡ (m + (q - 1)) / q
rounded_up m q some =
    let bounds = div_ceil_times m q some in
    let most = rooms_within m q (m / q + min 1 (m % q)) some bounds.0 in
    let least = le-div (m / q + min 1 (m % q)) (m + (q - 1)) q some (omega (arith, bounds.1)) in
    omega (arith, most, least)

pub rooms_enough : (m q r : ℕ) → 1 ≤ q → (m + (q - 1)) / q ≤ r → m ≤ r * q
rooms_enough m q r some h =
    let whole = div-add-mod' (m + (q - 1)) q in
    let rest = mod-lt (m + (q - 1)) some in
    omega (arith, mul-le-mul_right q h)

pub suffices : (d : Contents) (r : ℕ) (xs : List ℕ) → Plan r d.meetings xs → Rooms d.rooms r xs → Suffices d r
suffices d r xs plan rooms =
    let each = party_within r d.meetings xs plan in
    let groups = numbers_within Groups d r (each Groups) in
    let stations = numbers_within Stations d r (each Stations) in
    (omega arith, all_within r d.meetings xs plan d.rooms rooms)

pub least : (d : Contents) (r : ℕ) → 1 ≤ d.rooms → Suffices d r → fewest d ≤ r
least d r some enough = let rooms = rooms_within (length d.meetings) d.rooms r some enough.1 in omega (arith, enough.0)

pub fewest_suffices : (d : Contents) → 1 ≤ d.rooms → Suffices d (fewest d)
fewest_suffices d some = (omega arith, rooms_enough (length d.meetings) d.rooms (fewest d) some (omega arith))

pub fewest_least : FewestLeast
fewest_least d some = (fewest_suffices d some, λ r. least d r some)

-- without meetings no rounds suffice
none_suffice : (d : Contents) → length d.meetings ≡ 0 → Suffices d 0
none_suffice d none =
    let each = λ (s : Side). numbers_within s d 0 (λ p. omega (arith, count_by-le-length (λ m. eqb (party s m) p) d.meetings)) in
    (omega (arith, each Groups, each Stations), omega arith)

pub none_without_meetings : NoneWithoutMeetings
none_without_meetings d some = (
  λ e. let enough = (fewest_suffices d some).1 in rooms_of_none (fewest d) d.rooms e enough,
  λ none. omega (arith, least d 0 some (none_suffice d none)),
)
  where
    rooms_of_none : (r q : ℕ) {m : ℕ} → r ≡ 0 → m ≤ r * q → m ≡ 0
    rooms_of_none r q e h = let none : r * q ≡ 0 = ap (λ x. x * q) e ∙ zero-mul q in omega arith

pub no_fewer : NoFewer
no_fewer d r xs some plan rooms = let enough = suffices d r xs plan rooms in (enough, least d r some enough)

-- the same of a number that was computed
pub least_said : (d : Contents) (x : ℕ) → 1 ≤ d.rooms → x ≡ fewest d → Least d x
least_said d x some e = rw e (fewest_least d some)

pub no_fewer_said : (d : Contents) (x : ℕ) → 1 ≤ d.rooms → x ≡ fewest d → LeastOfPlans d x
no_fewer_said d x some e r xs plan rooms = rw e (no_fewer d r xs some plan rooms).1

-- and of what is answered, if anything is
pub no_fewer_answered : (d : Contents) (o : Result ℕ Refusal) → 1 ≤ d.rooms → IfMemory o (λ x. x ≡ fewest d) → IfOk o (LeastOfPlans d)
no_fewer_answered d (Ok x) some e = no_fewer_said d x some e
no_fewer_answered d (Err e) some h = tt

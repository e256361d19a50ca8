-- A plan is refused for its first fault, and just for that: the tests go by the numbers of the faults, and for each number by its
-- turns; and two first faults have the same number and turn, so the same place. Assumes nothing.
use Rattle.std.proofs.Common.{◌≡◌, ℕ, suc, ◌+◌, ◌*◌, ◌<◌, ◌≤◌, ◌&&◌, leb, ltb, List, length, inl, inr, sym, refl, ap, ◌∙◌, ⊎_elim, arith}
use Rattle.std.proofs.lemmas.Bool.{and_parts, cases_eq, cases_lt, leb-true, ltb-true}
use Rattle.meetings.specs.declared.numbers.Side.{Side}
use Rattle.meetings.specs.declared.numbers.Side.TheVariants.{Groups, Stations}
use Rattle.meetings.specs.Lists.{Contents}
use Rattle.meetings.specs.Refusals.{accepted, refused, then}
use Rattle.meetings.proofs.Outcomes.{never_accepted}
use Rattle.fewest.specs.Plans.{in_round}
use Rattle.chains.specs.Partial.{round_of}
use Rattle.changes.specs.Days.{has_round}
use Rattle.changes.proofs.Standing.{round_has}
use Rattle.plans.specs.Checking.{Verdict, alone, as_long, both_alone, checked, each, fine, in_rooms, in_rounds, is_fewest}
use Rattle.plans.specs.Faults.{Fault, FirstFault, NotAfter, clash, crowded, no_such_round, not_fewest, too_few, too_many, turn_of}
use Rattle.plans.specs.Statements.{RefusesFirst}
use Rattle.plans.proofs.SeenBefore.{clash_if_refused}
use Rattle.plans.proofs.Tests.{each_fine, each_refused, if_refused, same_refusal, then_fine, then_refused}
use Rattle.plans.proofs.WhereFaults.{clash_fault, fewest_fault, fewest_refused, length_fault, long_refused, number_of_fault, place_by, place_is, rooms_fault, rounds_fault}

not_after : (number turn n t : ℕ) → number ≤ n → (n ≡ number → turn ≤ t) → NotAfter number turn n t
not_after number turn n t le here = ⊎_elim (λ same. inr (sym same, here same)) (λ other. inl (omega arith)) (cases_eq n number)

both_first : (m u n t : ℕ) → NotAfter m u n t → NotAfter n t m u → (m ≡ n) × (u ≡ t)
both_first m u n t (inl below) (inl above) = absurd (omega arith)
both_first m u n t (inl below) (inr same) = absurd (omega (arith, same.0))
both_first m u n t (inr same) (inl above) = absurd (omega (arith, same.0))
both_first m u n t (inr one) (inr other) = (one.0, omega (arith, one.1, other.1))

module _ (d : Contents) (r : ℕ) (xs : List ℕ) where
  -- all faults have this number or a higher one
  abbrev From : ℕ → Type 0
  From number = (n t p : ℕ) → Fault d r xs n t p → number ≤ n

  -- what holds of a verdict
  abbrev Tells : Verdict → Type 0
  Tells (accepted x) = (n t p : ℕ) → Fault d r xs n t p → ⊥
  Tells (refused number place) = FirstFault d r xs number place

  stage : (o : Verdict) (next : Unit {0} → Verdict) → ((number place : ℕ) → o ≡ refused number place → FirstFault d r xs number place) → (o ≡ fine → Tells (next tt)) → Tells (then o next)
  stage (accepted x) next first more = more refl
  stage (refused number place) next first more = first number place refl

  from_next : (number : ℕ) → From number → ((n t p : ℕ) → Fault d r xs n t p → n ≡ number → ⊥) → From (suc number)
  from_next number from none n t p f = ⊎_elim (λ same. absurd (none n t p f same)) (λ other. omega (arith, from n t p f)) (cases_eq n number)

  first_of : (number turn place : ℕ) → Fault d r xs number turn place → From number → ((n t p : ℕ) → Fault d r xs n t p → n ≡ number → turn ≤ t) → FirstFault d r xs number place
  first_of number turn place f from here = record {
    turn = turn;
    fault = f;
    first = λ n t p g. not_after number turn n t (from n t p g) (here n t p g);
  }

  -- the length
  long_first : (number place : ℕ) → as_long (length d.meetings) (length xs) ≡ refused number place → FirstFault d r xs number place
  long_first number place e =
      let why = long_refused (length d.meetings) (length xs) number place e in
      rw why.0
      (⊎_elim
      (λ few. rw few.0 (alone_of_it _ (too_few few.1)))
      (λ many. rw many.0 (alone_of_it _ (too_many many.1)))
      why.1)
    where
      alone_of_it : (p : ℕ) → Fault d r xs 1 0 p → FirstFault d r xs 1 p
      alone_of_it p f = first_of 1 0 p f (λ n t p g. (number_of_fault d r xs n t p g).least) (λ n t p g e. omega arith)

  long_past : as_long (length d.meetings) (length xs) ≡ fine → From 7
  long_past e n t p f = (number_of_fault d r xs n t p f).after (λ one. length_fault d r xs n t p f one e)

  -- the rounds of the meetings
  rounds_first : From 7 → (number place : ℕ) → each (in_rounds r xs) (length d.meetings) 0 ≡ refused number place → FirstFault d r xs number place
  rounds_first from number place e =
      let stop = each_refused (in_rounds r xs) (length d.meetings) 0 number place e in
      let i = stop.at in
      let why = if_refused (has_round (round_of xs i) && leb r (round_of xs i)) 7 i number place stop.says in
      let both = and_parts (has_round (round_of xs i)) (leb r (round_of xs i)) why.0 in
      rw (← why.1, ← why.2)
      (first_of 7 i i (no_such_round i (omega (arith, stop.below)) (round_has (round_of xs i) both.0) (leb-true r (round_of xs i) both.1)) from
      (λ n t p f is.
      ⊎_elim (λ before. absurd ((rounds_fault d r xs n t p f is).1 (stop.before t (omega arith) before))) (λ le. le) (cases_lt t i)))

  rounds_past : From 7 → each (in_rounds r xs) (length d.meetings) 0 ≡ fine → From 8
  rounds_past from e =
      from_next 7 from
      (λ n t p f is.
      let bad = rounds_fault d r xs n t p f is in
      bad.1 (each_fine (in_rounds r xs) (length d.meetings) 0 e t (omega arith) (omega (arith, bad.0))))

  -- that nobody is twice in a round
  side_fine : (s : Side) (i : ℕ) → both_alone d.meetings xs i ≡ fine → alone d.meetings xs s i ≡ fine
  side_fine Groups i e = (then_fine (alone d.meetings xs Groups i) (λ _. alone d.meetings xs Stations i) e).0
  side_fine Stations i e = (then_fine (alone d.meetings xs Groups i) (λ _. alone d.meetings xs Stations i) e).1

  clash_first : From 8 → (s : Side) (i number place : ℕ) → i < length d.meetings → alone d.meetings xs s i ≡ refused number place → ((z : Side) (k : ℕ) → turn_of z k < turn_of s i → alone d.meetings xs z k ≡ fine) → FirstFault d r xs number place
  clash_first from s i number place h e before =
      let why = clash_if_refused d.meetings xs s i number place e in
      let other = why.earlier in
      rw (why.number_is, why.place_is)
      (first_of 8 (turn_of s i) _ (clash s other.meeting i other.before h why.some other.in_it other.of) from
      (λ n t p f is.
      let bad = clash_fault d r xs n t p f is in
      ⊎_elim (λ less. absurd (bad.not_alone (before bad.side bad.meeting (omega (arith, bad.turn))))) (λ le. le) (cases_lt t (turn_of s i))))

  before_group : (i : ℕ) → ((k : ℕ) → k < i → both_alone d.meetings xs k ≡ fine) → (z : Side) (k : ℕ) → turn_of z k < 2 * i → alone d.meetings xs z k ≡ fine
  before_group i all Groups k less = side_fine Groups k (all k (omega arith))
  before_group i all Stations k less = side_fine Stations k (all k (omega arith))

  before_station : (i : ℕ) → alone d.meetings xs Groups i ≡ fine → ((k : ℕ) → k < i → both_alone d.meetings xs k ≡ fine) → (z : Side) (k : ℕ) → turn_of z k < 2 * i + 1 → alone d.meetings xs z k ≡ fine
  before_station i here all Groups k less =
      ⊎_elim (λ same. ap (alone d.meetings xs Groups) same ∙ here) (λ other. side_fine Groups k (all k (omega arith))) (cases_eq k i)
  before_station i here all Stations k less = side_fine Stations k (all k (omega arith))

  clashes_first : From 8 → (number place : ℕ) → each (both_alone d.meetings xs) (length d.meetings) 0 ≡ refused number place → FirstFault d r xs number place
  clashes_first from number place e =
      let stop = each_refused (both_alone d.meetings xs) (length d.meetings) 0 number place e in
      let i = stop.at in
      let here : i < length d.meetings = omega (arith, stop.below) in
      let before : (k : ℕ) → k < i → both_alone d.meetings xs k ≡ fine = λ k less. stop.before k (omega arith) less in
      then_refused (alone d.meetings xs Groups i) (λ _. alone d.meetings xs Stations i) number place (FirstFault d r xs number place)
      (λ group. clash_first from Groups i number place here group (before_group i before))
      (λ group station. clash_first from Stations i number place here station (before_station i group before))
      stop.says

  clashes_past : From 8 → each (both_alone d.meetings xs) (length d.meetings) 0 ≡ fine → From 9
  clashes_past from e =
      from_next 8 from
      (λ n t p f is.
      let bad = clash_fault d r xs n t p f is in
      bad.not_alone (side_fine bad.side bad.meeting (each_fine (both_alone d.meetings xs) (length d.meetings) 0 e bad.meeting (omega arith) (omega (arith, bad.here)))))

  -- the rooms
  rooms_first : From 9 → (number place : ℕ) → each (in_rooms d.rooms xs) r 0 ≡ refused number place → FirstFault d r xs number place
  rooms_first from number place e =
      let stop = each_refused (in_rooms d.rooms xs) r 0 number place e in
      let c = stop.at in
      let why = if_refused (ltb d.rooms (in_round c xs)) 9 c number place stop.says in
      rw (← why.1, ← why.2)
      (first_of 9 c c (crowded c (omega (arith, stop.below)) (ltb-true d.rooms (in_round c xs) why.0)) from
      (λ n t p f is.
      ⊎_elim (λ before. absurd ((rooms_fault d r xs n t p f is).1 (stop.before t (omega arith) before))) (λ le. le) (cases_lt t c)))

  rooms_past : From 9 → each (in_rooms d.rooms xs) r 0 ≡ fine → From 10
  rooms_past from e =
      from_next 9 from
      (λ n t p f is.
      let bad = rooms_fault d r xs n t p f is in
      bad.1 (each_fine (in_rooms d.rooms xs) r 0 e t (omega arith) (omega (arith, bad.0))))

  -- the number of rounds
  fewest_last : From 10 → (o : Verdict) → is_fewest d r xs ≡ o → Tells o
  fewest_last from (accepted x) e = λ n t p f. fewest_fault d r xs n t p f (omega (arith, from n t p f, (number_of_fault d r xs n t p f).most)) e
  fewest_last from (refused number place) e =
      let why = fewest_refused d r xs number place e in
      rw (← why.0, ← why.1) (first_of 10 0 r (not_fewest why.2) from (λ n t p f is. omega arith))

  -- all tests
  pub told : Tells (checked d r xs)
  unfolding checked
  told =
      stage (as_long (length d.meetings) (length xs)) _ long_first
      (λ long. let seven = long_past long in
      stage (each (in_rounds r xs) (length d.meetings) 0) _ (rounds_first seven)
      (λ rounds. let eight = rounds_past seven rounds in
      stage (each (both_alone d.meetings xs) (length d.meetings) 0) _ (clashes_first eight)
      (λ clashes. let nine = clashes_past eight clashes in
      stage (each (in_rooms d.rooms xs) r 0) _ (rooms_first nine)
      (λ rooms. fewest_last (rooms_past nine rooms) (is_fewest d r xs) refl))))

  tells_refused : (o : Verdict) → Tells o → (number place : ℕ) → o ≡ refused number place → FirstFault d r xs number place
  tells_refused (accepted x) tells number place e = absurd (never_accepted (sym e))
  tells_refused (refused n p) tells number place e =
      let same = same_refusal n p number place e in
      rw (← same.0, ← same.1) tells

  -- two first faults are in the same place
  first_once : (m p n q : ℕ) → FirstFault d r xs m p → FirstFault d r xs n q → (m ≡ n) × (p ≡ q)
  first_once m p n q one other =
      let same = both_first m one.turn n other.turn (one.first n other.turn q other.fault) (other.first m one.turn p one.fault) in
      (same.0, place_is d r xs m one.turn p one.fault ∙ ap (λ x. place_by d r xs x one.turn) same.0 ∙ ap (place_by d r xs n) same.1 ∙ sym (place_is d r xs n other.turn q other.fault))

  tells_first : (o : Verdict) → Tells o → (number place : ℕ) → FirstFault d r xs number place → o ≡ refused number place
  tells_first (accepted x) none number place first = absurd (none number first.turn place first.fault)
  tells_first (refused n p) one number place first =
      let same = first_once n p number place one first in
      rw (same.0, same.1) refl

  -- a plan without faults is accepted, and no other is
  pub fine_without_fault : (o : Verdict) → Tells o → ((n t p : ℕ) → Fault d r xs n t p → ⊥) → o ≡ fine
  fine_without_fault (accepted x) tells none = refl
  fine_without_fault (refused number place) first none = absurd (none number first.turn place first.fault)

  pub no_fault_if_fine : (o : Verdict) → Tells o → o ≡ fine → (n t p : ℕ) → Fault d r xs n t p → ⊥
  no_fault_if_fine (accepted x) none e = none
  no_fault_if_fine (refused number place) first e = absurd (never_accepted e)

-- A PLAN IS REFUSED for its first fault, and just for that
pub refuses_first : RefusesFirst
refuses_first d r xs number place = (
  tells_refused d r xs (checked d r xs) (told d r xs) number place,
  tells_first d r xs (checked d r xs) (told d r xs) number place,
)

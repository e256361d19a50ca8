-- A plan is accepted just where it is one of the fewest rounds: without a fault its rounds are a partial plan, and so those that are
-- kept a plan; and in a plan of the fewest rounds each fault would be one of the kept meetings. Assumes nothing.
use Rattle.std.proofs.Common.{◌≡◌, ◌≢◌, ℕ, zero, suc, ◌<◌, ◌≤◌, ◌⊎◌, Bool, true, false, ◌&&◌, eqb, List, [], ◌∷◌, length, get_or, inl, inr, sym, refl, ap, ◌∙◌, ⊎_elim, arith}
use Rattle.std.proofs.lemmas.Bool.{both_ways, cases_eq, cases_lt, cases_order}
use Rattle.std.proofs.lemmas.Bool.Decides.{nat_tests}
use Rattle.std.proofs.lemmas.List.{length-map}
use Rattle.meetings.specs.declared.numbers.Side.{Side}
use Rattle.meetings.specs.Lists.{Contents, Proper, nobody, party}
use Rattle.fewest.specs.Plans.{none, in_round}
use Rattle.fewest.specs.Rounds.{fewest}
use Rattle.fewest.proofs.Counting.{count_ext, count_places}
use Rattle.fewest.proofs.NoFewer.{fewest_suffices, no_fewer, no_fewer_said}
use Rattle.chains.specs.Partial.{Partial, party_of, round_of}
use Rattle.balance.specs.Lent.{plan_of}
use Rattle.balance.proofs.EnoughRooms.{EvenPlan, planned_all}
use Rattle.changes.specs.Days.{has_round}
use Rattle.changes.specs.Numbered.{those}
use Rattle.changes.proofs.Left.{left_proper, place, rounds_few, those_at, those_counted}
use Rattle.changes.proofs.Standing.{left_plan, marked_is, marked_long}
use Rattle.plans.specs.Checking.{checked}
use Rattle.plans.specs.Faults.{Fault, clash, crowded, no_such_round, not_fewest, too_few, too_many}
use Rattle.plans.specs.Given.{FewestPlan, kept, kept_rounds, marked}
use Rattle.plans.specs.Statements.{AcceptsFewest}
use Rattle.plans.proofs.FirstFault.{fine_without_fault, no_fault_if_fine, told}
use Rattle.plans.proofs.SeenBefore.{has_round_from}

-- each marked place is that of one of the marked elements
pub place_back : {A : Type 0} (bs : List Bool) (xs : List A) (i : ℕ) → i < length xs → get_or bs i false ≡ true → (j : ℕ) × (j < length (those bs xs)) × (place bs j ≡ i)
place_back [] xs i h e = absurd (both_ways false refl e)
place_back (b ∷ bs) [] i h e = absurd (omega arith)
place_back (true ∷ bs) (x ∷ xs) zero h e = (0, omega arith, refl)
place_back (true ∷ bs) (x ∷ xs) (suc i) h e =
    let one = place_back bs xs i (omega arith) e in
    (suc one.0, omega (arith, one.1), ap suc one.2)
place_back (false ∷ bs) (x ∷ xs) zero h e = absurd (both_ways false refl e)
place_back (false ∷ bs) (x ∷ xs) (suc i) h e =
    let one = place_back bs xs i (omega arith) e in
    (one.0, one.1, ap suc one.2)

-- the meetings that are kept are as many in each round as all
pub kept_in_round : (d : Contents) (xs : List ℕ) (c : ℕ) → c < none → in_round c (kept_rounds d xs) ≡ in_round c xs
kept_in_round d xs c below =
    those_counted (λ x. eqb x c) (marked d xs).there xs none (length-map xs has_round)
    ∙ count_ext (λ i. get_or (marked d xs).there i false && eqb (round_of xs i) c) (λ i. eqb (round_of xs i) c) (length xs)
    (λ i h. ap (λ b. b && eqb (round_of xs i) c) (marked_is (record { list = d; at = xs }) i) ∙ same (round_of xs i))
    ∙ sym (count_places (λ x. eqb x c) xs none)
  where
    same : (x : ℕ) → (has_round x && eqb x c) ≡ eqb x c
    same x = grind (arith, nat_tests)

module _ (d : Contents) (r : ℕ) (xs : List ℕ) (proper : Proper d) (le : r ≤ none) where
  -- WITHOUT FAULTS it is a plan
  module _ (clear : (n t p : ℕ) → Fault d r xs n t p → ⊥) where
    long : length xs ≡ length d.meetings
    long =
        ⊎_elim
        (λ few. absurd (clear _ _ _ (too_few few)))
        (λ enough. ⊎_elim (λ many. absurd (clear _ _ _ (too_many many))) (λ no_more. omega arith) (cases_lt (length d.meetings) (length xs)))
        (cases_lt (length xs) (length d.meetings))

    one_of_rounds : (i : ℕ) → i < length d.meetings → (round_of xs i ≡ none) ⊎ (round_of xs i < r)
    one_of_rounds i h =
        ⊎_elim
        (λ out. inl out)
        (λ some. ⊎_elim (λ below. inr below) (λ past. absurd (clear _ _ _ (no_such_round i h some past))) (cases_lt (round_of xs i) r))
        (cases_eq (round_of xs i) none)

    once : (s : Side) (i j : ℕ) → i < length d.meetings → j < length d.meetings → round_of xs i < r → round_of xs i ≡ round_of xs j → party_of d.meetings s i ≡ party_of d.meetings s j → i ≡ j
    once s i j hi hj below same of =
        ⊎_elim
        (λ e. e)
        (λ other. ⊎_elim (λ before. absurd (clear _ _ _ (clash s i j before hj (λ out. omega arith) same of))) (λ after. absurd (clear _ _ _ (clash s j i after hi (λ out. omega arith) (sym same) (sym of)))) other)
        (cases_order i j)

    pub partial : Partial r d.meetings xs
    partial = record { each = long; round = one_of_rounds; apart = once }

    within : (c : ℕ) → c < r → in_round c xs ≤ d.rooms
    within c h = ⊎_elim (λ many. absurd (clear _ _ _ (crowded c h many))) (λ few. few) (cases_lt d.rooms (in_round c xs))

    least : r ≡ fewest (kept d xs)
    least = ⊎_elim (λ e. e) (λ other. absurd (clear _ _ _ (not_fewest other))) (cases_eq r (fewest (kept d xs)))

    pub plan_without_fault : FewestPlan d r xs
    plan_without_fault = record {
      each = long;
      plan = left_plan (record { list = d; at = xs }) r partial;
      within = λ c h. rw (kept_in_round d xs c (omega arith)) (within c h);
      no_fewer = no_fewer_said (kept d xs) r proper.rooms_within.0 least;
    }

  -- A PLAN of the fewest rounds has no fault
  module _ (plan : FewestPlan d r xs) where
    -- a meeting that has a round is one of those that are kept
    record Kept (i : ℕ) : Type 0 where
      pub nth : ℕ
      pub here : nth < length (kept d xs).meetings
      pub place_is : place (marked d xs).there nth ≡ i
      pub meeting : (s : Side) → party_of (kept d xs).meetings s nth ≡ party_of d.meetings s i
      pub round : round_of (kept_rounds d xs) nth ≡ round_of xs i

    kept_at : (i : ℕ) → i < length d.meetings → round_of xs i ≢ none → Kept i
    kept_at i h some =
        let back = place_back (marked d xs).there d.meetings i h (marked_is (record { list = d; at = xs }) i ∙ has_round_from (round_of xs i) some) in
        let one = those_at (marked d xs).there d.meetings nobody back.0 back.1 in
        let other = those_at (marked d xs).there xs none back.0 (omega (arith, plan.plan.each, back.1)) in
        record {
          nth = back.0;
          here = back.1;
          place_is = back.2;
          meeting = λ s. ap (party s) one.is ∙ ap (party_of d.meetings s) back.2;
          round = other.is ∙ ap (round_of xs) back.2;
        }

    proper_kept : Proper (kept d xs)
    proper_kept = left_proper (marked d xs) (marked_long (record { list = d; at = xs }) plan.each) proper

    few : fewest (kept d xs) ≤ none
    few = rounds_few (marked d xs) (marked_long (record { list = d; at = xs }) plan.each) proper

    even : EvenPlan (kept d xs) (fewest (kept d xs)) (plan_of (kept d xs)).rounds
    even = planned_all (kept d xs) (fewest (kept d xs)) proper_kept.exist (omega (arith, proper_kept.few)) few (fewest_suffices (kept d xs) proper.rooms_within.0)

    is_least : r ≡ fewest (kept d xs)
    is_least =
        let below = (no_fewer (kept d xs) r (kept_rounds d xs) proper.rooms_within.0 plan.plan plan.within).1 in
        let above = plan.no_fewer (fewest (kept d xs)) (plan_of (kept d xs)).rounds even.plan even.within in
        omega (arith, below, above)

    pub no_fault_in_plan : (n t p : ℕ) → Fault d r xs n t p → ⊥
    no_fault_in_plan n t p (too_few h) = omega (arith, plan.each)
    no_fault_in_plan n t p (too_many h) = omega (arith, plan.each)
    no_fault_in_plan n t p (no_such_round i h some past) =
        let one = kept_at i h some in
        omega (arith, one.round, plan.plan.round one.nth one.here)
    no_fault_in_plan n t p (clash s j i before h some in_it of) =
        let one = kept_at i h some in
        let other = kept_at j (omega arith) (λ out. some (sym in_it ∙ out)) in
        let same = plan.plan.apart s other.nth one.nth other.here one.here (plan.plan.round other.nth other.here) (other.round ∙ in_it ∙ sym one.round) (other.meeting s ∙ of ∙ sym (one.meeting s)) in
        omega (arith, sym other.place_is ∙ ap (place (marked d xs).there) same ∙ one.place_is)
    no_fault_in_plan n t p (crowded c h many) = omega (arith, plan.within c h, kept_in_round d xs c (omega arith))
    no_fault_in_plan n t p (not_fewest other) = other is_least

-- all meetings with their rounds are a partial plan
pub partial_of : (d : Contents) (r : ℕ) (xs : List ℕ) → Proper d → r ≤ none → FewestPlan d r xs → Partial r d.meetings xs
partial_of d r xs proper le plan = partial d r xs proper le (no_fault_in_plan d r xs proper le plan)

-- A PLAN IS ACCEPTED just where it is one of the fewest rounds
pub accepts_fewest : AcceptsFewest
accepts_fewest d r xs proper le = (
  λ e. plan_without_fault d r xs proper le (no_fault_if_fine d r xs (checked d r xs) (told d r xs) e),
  λ plan. fine_without_fault d r xs (checked d r xs) (told d r xs) (no_fault_in_plan d r xs proper le plan),
)

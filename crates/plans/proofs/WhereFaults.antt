-- Each fault of a plan is where a test refuses, by its number and its turn; and these decide its place. Assumes nothing.
use Rattle.std.proofs.Common.{◌≡◌, ◌≢◌, ℕ, ◌+◌, ◌*◌, ◌/◌, ◌%◌, ◌<◌, ◌≤◌, ◌⊎◌, Bool, true, false, cond, ◌&&◌, eqb, leb, ltb, List, length, inl, inr, sym, refl, ⊎_elim, arith}
use Rattle.std.proofs.lemmas.Bool.{and_from, both_ways, cases_lt, eqb-false, eqb-true, le-leb, le-ltb, lt-ltb}
use Rattle.meetings.specs.declared.numbers.Side.{Side}
use Rattle.meetings.specs.declared.numbers.Side.TheVariants.{Groups, Stations}
use Rattle.meetings.specs.Lists.{Contents}
use Rattle.meetings.specs.Refusals.{place_of_clash, refused}
use Rattle.meetings.proofs.Outcomes.{never_accepted}
use Rattle.fewest.specs.Plans.{in_round}
use Rattle.fewest.specs.Rounds.{fewest}
use Rattle.chains.specs.Partial.{round_of}
use Rattle.changes.specs.Days.{has_round}
use Rattle.plans.specs.Bytes.{long_for}
use Rattle.plans.specs.Checking.{alone, as_long, fine, in_rooms, in_rounds, is_fewest}
use Rattle.plans.specs.Faults.{Fault, clash, crowded, no_such_round, not_fewest, too_few, too_many, turn_of}
use Rattle.plans.specs.Given.{kept}
use Rattle.plans.proofs.SeenBefore.{has_round_from, no_clash_if_fine}
use Rattle.plans.proofs.Tests.{if_fine, if_refused, same_refusal}

-- the test of the length
pub long_refused : (many long number place : ℕ) → as_long many long ≡ refused number place → (number ≡ 1) × (((place ≡ long_for long) × (long < many)) ⊎ ((place ≡ long_for many) × (many < long)))
long_refused many long number place e =
    ⊎_elim
    (λ few. let same = same_refusal 1 (long_for long) number place (rw (lt-ltb long many few) at e) in (sym same.0, inl (sym same.1, few)))
    (λ enough.
    let why = if_refused (ltb many long) 1 (long_for many) number place (rw (le-ltb long many enough) at e) in
    (sym why.1, inr (sym why.2, ⊎_elim (λ more. more) (λ no_more. absurd (both_ways (ltb many long) (le-ltb many long no_more) why.0)) (cases_lt many long))))
    (cases_lt long many)

pub long_fine : (many long : ℕ) → as_long many long ≡ fine → long ≡ many
long_fine many long e =
    ⊎_elim
    (λ few. absurd (never_accepted (rw (lt-ltb long many few) at e)))
    (λ enough.
    let no_more = if_fine (ltb many long) 1 (long_for many) (rw (le-ltb long many enough) at e) in
    ⊎_elim (λ more. absurd (both_ways (ltb many long) no_more (lt-ltb many long more))) (λ le. omega arith) (cases_lt many long))
    (cases_lt long many)

-- the test of the number of rounds
only_where : (b : Bool) (r number place : ℕ) → cond b fine (refused 10 r) ≡ refused number place → (b ≡ false) × (10 ≡ number) × (r ≡ place)
only_where true r number place e = absurd (never_accepted (sym e))
only_where false r number place e = let same = same_refusal 10 r number place e in (refl, same.0, same.1)

only_fine : (b : Bool) (r : ℕ) → cond b fine (refused 10 r) ≡ fine → b ≡ true
only_fine true r e = refl
only_fine false r e = absurd (never_accepted e)

module _ (d : Contents) (r : ℕ) (xs : List ℕ) where
  pub fewest_refused : (number place : ℕ) → is_fewest d r xs ≡ refused number place → (10 ≡ number) × (r ≡ place) × (r ≢ fewest (kept d xs))
  fewest_refused number place e =
      let why = only_where (eqb r (fewest (kept d xs))) r number place e in
      (why.1, why.2, eqb-false r (fewest (kept d xs)) why.0)

  -- numbers of faults
  pub record Numbered (n : ℕ) : Type 0 where
    pub least : 1 ≤ n
    pub most : n ≤ 10
    pub after : n ≢ 1 → 7 ≤ n

  numbered_at : (n : ℕ) → n ≡ 1 → Numbered n
  numbered_at n e = record { least = omega arith; most = omega arith; after = λ other. absurd (other e) }

  numbered_in : (n : ℕ) → 7 ≤ n → n ≤ 10 → Numbered n
  numbered_in n from to = record { least = omega arith; most = omega arith; after = λ other. from }

  pub number_of_fault : (n t p : ℕ) → Fault d r xs n t p → Numbered n
  number_of_fault n t p (too_few h) = numbered_at 1 refl
  number_of_fault n t p (too_many h) = numbered_at 1 refl
  number_of_fault n t p (no_such_round i h some past) = numbered_in 7 (omega arith) (omega arith)
  number_of_fault n t p (clash s j i before h some in_it of) = numbered_in 8 (omega arith) (omega arith)
  number_of_fault n t p (crowded c h many) = numbered_in 9 (omega arith) (omega arith)
  number_of_fault n t p (not_fewest other) = numbered_in 10 (omega arith) (omega arith)

  pub length_fault : (n t p : ℕ) → Fault d r xs n t p → n ≡ 1 → as_long (length d.meetings) (length xs) ≡ fine → ⊥
  length_fault n t p (too_few h) e is = omega (arith, long_fine (length d.meetings) (length xs) is)
  length_fault n t p (too_many h) e is = omega (arith, long_fine (length d.meetings) (length xs) is)
  length_fault n t p (no_such_round i h some past) e is = omega arith
  length_fault n t p (clash s j i before h some in_it of) e is = omega arith
  length_fault n t p (crowded c h many) e is = omega arith
  length_fault n t p (not_fewest other) e is = omega arith

  pub rounds_fault : (n t p : ℕ) → Fault d r xs n t p → n ≡ 7 → (t < length d.meetings) × (in_rounds r xs t ≡ fine → ⊥)
  rounds_fault n t p (too_few h) e = absurd (omega arith)
  rounds_fault n t p (too_many h) e = absurd (omega arith)
  rounds_fault n t p (no_such_round i h some past) e =
      (h, λ is. both_ways (has_round (round_of xs i) && leb r (round_of xs i)) (if_fine _ 7 i is) (and_from _ _ (has_round_from (round_of xs i) some) (le-leb r (round_of xs i) past)))
  rounds_fault n t p (clash s j i before h some in_it of) e = absurd (omega arith)
  rounds_fault n t p (crowded c h many) e = absurd (omega arith)
  rounds_fault n t p (not_fewest other) e = absurd (omega arith)

  -- the meeting and the side that a turn looks at, and that are not alone
  pub record NotAlone (t : ℕ) : Type 0 where
    pub side : Side
    pub meeting : ℕ
    pub here : meeting < length d.meetings
    pub turn : t ≡ turn_of side meeting
    pub not_alone : alone d.meetings xs side meeting ≡ fine → ⊥

  pub clash_fault : (n t p : ℕ) → Fault d r xs n t p → n ≡ 8 → NotAlone t
  clash_fault n t p (too_few h) e = absurd (omega arith)
  clash_fault n t p (too_many h) e = absurd (omega arith)
  clash_fault n t p (no_such_round i h some past) e = absurd (omega arith)
  clash_fault n t p (clash s j i before h some in_it of) e = record {
    side = s;
    meeting = i;
    here = h;
    turn = refl;
    not_alone = λ is. no_clash_if_fine d.meetings xs s j i is before some in_it of;
  }
  clash_fault n t p (crowded c h many) e = absurd (omega arith)
  clash_fault n t p (not_fewest other) e = absurd (omega arith)

  pub rooms_fault : (n t p : ℕ) → Fault d r xs n t p → n ≡ 9 → (t < r) × (in_rooms d.rooms xs t ≡ fine → ⊥)
  rooms_fault n t p (too_few h) e = absurd (omega arith)
  rooms_fault n t p (too_many h) e = absurd (omega arith)
  rooms_fault n t p (no_such_round i h some past) e = absurd (omega arith)
  rooms_fault n t p (clash s j i before h some in_it of) e = absurd (omega arith)
  rooms_fault n t p (crowded c h many) e = (h, λ is. both_ways (ltb d.rooms (in_round c xs)) (if_fine _ 9 c is) (lt-ltb d.rooms (in_round c xs) many))
  rooms_fault n t p (not_fewest other) e = absurd (omega arith)

  pub fewest_fault : (n t p : ℕ) → Fault d r xs n t p → n ≡ 10 → is_fewest d r xs ≡ fine → ⊥
  fewest_fault n t p (too_few h) e is = omega arith
  fewest_fault n t p (too_many h) e is = omega arith
  fewest_fault n t p (no_such_round i h some past) e is = omega arith
  fewest_fault n t p (clash s j i before h some in_it of) e is = omega arith
  fewest_fault n t p (crowded c h many) e is = omega arith
  fewest_fault n t p (not_fewest other) e is = other (eqb-true r (fewest (kept d xs)) (only_fine (eqb r (fewest (kept d xs))) r is))

  -- the place, from the number and the turn
  abbrev pub place_by : ℕ → ℕ → ℕ
  place_by n t =
      cond (eqb n 1) (cond (ltb (length xs) (length d.meetings)) (long_for (length xs)) (long_for (length d.meetings)))
      (cond (eqb n 8) (t / 2 + 8192 * (t % 2)) (cond (eqb n 10) r t))

  clash_place : (s : Side) (i : ℕ) → place_of_clash s i ≡ turn_of s i / 2 + 8192 * (turn_of s i % 2)
  clash_place Groups i = omega arith
  clash_place Stations i = omega arith

  pub place_is : (n t p : ℕ) → Fault d r xs n t p → p ≡ place_by n t
  place_is n t p (too_few h) = rw (lt-ltb (length xs) (length d.meetings) h) refl
  place_is n t p (too_many h) = rw (le-ltb (length xs) (length d.meetings) (omega arith)) refl
  place_is n t p (no_such_round i h some past) = refl
  place_is n t p (clash s j i before h some in_it of) = clash_place s i
  place_is n t p (crowded c h many) = refl
  place_is n t p (not_fewest other) = refl

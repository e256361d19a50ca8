-- A refusal tells the first fault: the rule goes over the bytes in their order, and no fault shows before the place that it
-- has come to. Assumes nothing.
use Rattle.std.proofs.Common.{◌≡◌, ℕ, zero, suc, ◌+◌, ◌*◌, ◌%◌, ◌<◌, ◌≤◌, ◌⊎◌, List, [], ◌∷◌, ◌++◌, length, get_or, refl, ap, inl, inr, ⊎_elim, arith}
use Rattle.std.proofs.lemmas.Bool.{cases_eq, cases_lt, lt-ltb, le-ltb}
use Rattle.std.proofs.lemmas.Bool.Decides.{nat_tests}
use Rattle.meetings.specs.declared.numbers.Meeting.{Meeting}
use Rattle.meetings.specs.Bytes.{limit, count, party_at, meeting_at, meetings_at}
use Rattle.meetings.specs.Faults.{said, end, many_at, Fault, short, out_of_limits, too_many, no_such_party, ends_early, goes_on, Clear, TellsFirst, FirstFault}
use Rattle.meetings.specs.Lists.{meeting, Within, most, most_meetings}
use Rattle.meetings.specs.Refusals.{Outcome, accepted, refused, then}
use Rattle.meetings.proofs.Accepted.{limit_accepted, count_accepted, party_accepted, meeting_accepted}

-- a step of the rule that has come to a place, before which no fault shows: it refuses for a fault there, or goes on
pub record Step {S : Type 0} (bs : List ℕ) (next : ℕ) (o : Outcome S) : Type 0 where
  pub refuses : (number place : ℕ) → o ≡ refused number place → Fault bs number place × Clear bs place
  pub goes_on_to : (x : S) → o ≡ accepted x → Clear bs next

-- no fault at a place
clear_more : (bs : List ℕ) (p : ℕ) → Clear bs p → ((number place : ℕ) → Fault bs number place → place ≡ p → ⊥) → Clear bs (p + 1)
clear_more bs p clear none number place f =
    ⊎_elim (λ here. absurd (none number place f here)) (λ other. omega (arith, clear number place f)) (cases_eq place p)

none_in_limits : (bs : List ℕ) (i : ℕ) (number place : ℕ) → Fault bs number place → place ≡ i → 5 ≤ length bs → i < 3 → Within (get_or bs i 0) → ⊥
none_in_limits bs i number place (short h) e long low within = omega arith
none_in_limits bs i number place (out_of_limits j h l bad) e long low within = ⊎_elim (λ none. omega (arith, within.0, ap (λ x. get_or bs x 0) e)) (λ more. omega (arith, within.1, ap (λ x. get_or bs x 0) e)) bad
none_in_limits bs i number place (too_many l h) e long low within = omega arith
none_in_limits bs i number place (no_such_party p h l m b) e long low within = omega arith
none_in_limits bs i number place (ends_early l h) e long low within = omega arith
none_in_limits bs i number place (goes_on h) e long low within = omega arith

none_in_count : (bs : List ℕ) (number place : ℕ) → Fault bs number place → 3 ≤ place → place < 5 → 5 ≤ length bs → said bs ≤ most_meetings → ⊥
none_in_count bs number place (short h) from to long few = omega arith
none_in_count bs number place (out_of_limits j h l bad) from to long few = omega arith
none_in_count bs number place (too_many l h) from to long few = omega arith
none_in_count bs number place (no_such_party p h l m b) from to long few = omega arith
none_in_count bs number place (ends_early l h) from to long few = omega arith
none_in_count bs number place (goes_on h) from to long few = omega arith

none_in_party : (bs : List ℕ) (p number place : ℕ) → Fault bs number place → place ≡ p → 5 ≤ p → p < end bs → p < length bs → get_or bs p 0 < many_at bs p → ⊥
none_in_party bs p number place (short h) e from to long is = omega arith
none_in_party bs p number place (out_of_limits j h l bad) e from to long is = omega arith
none_in_party bs p number place (too_many l h) e from to long is = omega arith
none_in_party bs p number place (no_such_party j h l m b) e from to long is = omega (arith, ap (λ x. get_or bs x 0) e, ap (many_at bs) e)
none_in_party bs p number place (ends_early l h) e from to long is = omega arith
none_in_party bs p number place (goes_on h) e from to long is = omega arith

none_at_end : (bs : List ℕ) (number place : ℕ) → Fault bs number place → 5 ≤ place → length bs ≡ end bs → end bs ≤ place → ⊥
none_at_end bs number place (short h) from whole to = omega arith
none_at_end bs number place (out_of_limits j h l bad) from whole to = omega arith
none_at_end bs number place (too_many l h) from whole to = omega arith
none_at_end bs number place (no_such_party j h l m b) from whole to = omega arith
none_at_end bs number place (ends_early l h) from whole to = omega arith
none_at_end bs number place (goes_on h) from whole to = omega arith

clear_short : (bs : List ℕ) (number place : ℕ) → Fault bs number place → length bs < 5 → length bs ≤ place
clear_short bs number place (short h) few = omega arith
clear_short bs number place (out_of_limits j h l bad) few = omega arith
clear_short bs number place (too_many l h) few = omega arith
clear_short bs number place (no_such_party j h l m b) few = omega arith
clear_short bs number place (ends_early l h) few = omega arith
clear_short bs number place (goes_on h) few = omega arith

limit_refused : (x at number place : ℕ) → limit x at ≡ refused number place → (number ≡ 2) × (place ≡ at) × ((x ≡ 0) ⊎ (most < x))
limit_refused x at number place e = (
  grind (arith, nat_tests),
  grind (arith, nat_tests),
  ⊎_elim (λ none. inl none) (λ some. inr (grind (arith, nat_tests))) (cases_eq x 0),
)

count_refused : (low high number place : ℕ) → count low high ≡ refused number place → (number ≡ 3) × (place ≡ 3) × (most_meetings < low + 256 * high)
count_refused low high number place e = (grind (arith, nat_tests), grind (arith, nat_tests), grind (arith, nat_tests))

party_refused : (bs : List ℕ) (at many number place : ℕ) → party_at bs at many ≡ refused number place → ((number ≡ 1) × (place ≡ length bs) × (length bs ≤ at)) ⊎ ((number ≡ 4) × (place ≡ at) × (at < length bs) × (many ≤ get_or bs at 0))
party_refused bs at many number place e =
    ⊎_elim (λ here. inr (grind (arith, nat_tests), grind (arith, nat_tests), here, grind (arith, nat_tests)))
    (λ past. inl (grind (arith, nat_tests), grind (arith, nat_tests), past))
    (cases_lt at (length bs))

limit_step : (bs : List ℕ) (i : ℕ) → 5 ≤ length bs → i < 3 → Clear bs i → Step bs (i + 1) (limit (get_or bs i 0) i)
limit_step bs i long low clear = record {
  refuses = λ number place e.
      let why = limit_refused (get_or bs i 0) i number place e in
      rw (why.0, why.1) (out_of_limits i low long why.2, clear);
  goes_on_to = λ x e.
      let fine = limit_accepted (get_or bs i 0) i x e in
      clear_more bs i clear (λ number place f here. none_in_limits bs i number place f here long low (rw fine.0 at fine.1));
}

count_step : (bs : List ℕ) → 5 ≤ length bs → Clear bs 3 → Step bs 5 (count (get_or bs 3 0) (get_or bs 4 0))
count_step bs long clear = record {
  refuses = λ number place e.
      let why = count_refused (get_or bs 3 0) (get_or bs 4 0) number place e in
      rw (why.0, why.1) (too_many long why.2, clear);
  goes_on_to = λ x e number place f.
      let fine = count_accepted (get_or bs 3 0) (get_or bs 4 0) x e in
      ⊎_elim (λ low. absurd (none_in_count bs number place f (clear number place f) low long (omega arith))) (λ high. high) (cases_lt place 5);
}

party_step : (bs : List ℕ) (at many : ℕ) → many ≡ many_at bs at → 5 ≤ at → at ≤ length bs → at < end bs → Clear bs at → Step bs (at + 1) (party_at bs at many)
party_step bs at many is from here to clear = record {
  refuses = λ number place e.
      ⊎_elim
      (λ past. let same : at ≡ length bs = omega (arith, past.2) in rw (past.0, past.1) (ends_early (omega arith) (omega arith), rw same at clear))
      (λ why. rw (why.0, why.1) (no_such_party at from to why.2 (rw is at why.3), clear))
      (party_refused bs at many number place e);
  goes_on_to = λ x e.
      let fine = party_accepted bs at many x e in
      let below : get_or bs at 0 < many_at bs at = omega (arith, fine.1, fine.2) in
      clear_more bs at clear (λ number place f same. none_in_party bs at number place f same from to fine.0 below);
}

-- a rule in two steps
two_steps : {S T : Type 0} (bs : List ℕ) (at : ℕ) (o : Outcome S) (next : S → Outcome T) → Step bs at o → ((x : S) → o ≡ accepted x → Clear bs at → TellsFirst bs (next x)) → TellsFirst bs (then o next)
two_steps bs at (accepted x) next step more = more x refl (step.goes_on_to x refl)
two_steps bs at (refused number place) next step more = step.refuses number place refl

step_then : {S T : Type 0} (bs : List ℕ) (a b : ℕ) (o : Outcome S) (next : S → Outcome T) → Step bs a o → ((x : S) → o ≡ accepted x → Clear bs a → Step bs b (next x)) → Step bs b (then o next)
step_then bs a b (accepted x) next step more = more x refl (step.goes_on_to x refl)
step_then bs a b (refused number place) next step more = record {
  refuses = λ m p e. let same_number : number ≡ m = cc e in let same_place : place ≡ p = cc e in rw (← same_number, ← same_place) (step.refuses number place refl);
  goes_on_to = λ x e. absurd (let z : ◌≡◌ {A = ℕ} 0 1 = cc e in omega arith);
}

step_accepted : {S : Type 0} (bs : List ℕ) (at : ℕ) (x : S) → Clear bs at → Step bs at (accepted x)
step_accepted bs at x clear = record {
  refuses = λ m p e. absurd (let z : ◌≡◌ {A = ℕ} 0 1 = cc e in omega arith);
  goes_on_to = λ y e. clear;
}

meeting_step : (bs : List ℕ) (at : ℕ) → at % 2 ≡ 1 → 5 ≤ at → at ≤ length bs → at + 1 < end bs → Clear bs at → Step bs (at + 2) (meeting_at bs at (get_or bs 0 0) (get_or bs 1 0))
meeting_step bs at odd from here to clear =
    let group : get_or bs 0 0 ≡ many_at bs at = grind (arith, nat_tests) in
    let station : get_or bs 1 0 ≡ many_at bs (at + 1) = let even : (at + 1) % 2 ≡ 0 = omega arith in grind (arith, nat_tests) in
    let two : at + 1 + 1 ≡ at + 2 = omega arith in
    step_then bs (at + 1) (at + 2) (party_at bs at (get_or bs 0 0)) _ (party_step bs at (get_or bs 0 0) group from here (omega arith) clear)
    (λ g is_g clear_g.
    let there = (party_accepted bs at (get_or bs 0 0) g is_g).0 in
    step_then bs (at + 2) (at + 2) (party_at bs (at + 1) (get_or bs 1 0)) _ (rw two at (party_step bs (at + 1) (get_or bs 1 0) station (omega arith) (omega arith) to clear_g))
    (λ s is_s clear_s. step_accepted bs (at + 2) (meeting g s) clear_s))

meetings_first : (bs : List ℕ) (left at : ℕ) (came : List Meeting) → at % 2 ≡ 1 → 5 ≤ at → at ≤ length bs → at + 2 * left ≡ end bs → Clear bs at → TellsFirst bs (meetings_at bs (get_or bs 0 0) (get_or bs 1 0) left at came)
meetings_first bs zero at came odd from here to clear =
    let there : at ≡ end bs = omega arith in
    ⊎_elim
    (λ more. rw (lt-ltb at (length bs) more) (rw there (goes_on (omega arith), rw there at clear)))
    (λ whole. rw (le-ltb at (length bs) whole) (λ number place f. none_at_end bs number place f (omega (arith, clear number place f)) (omega arith) (omega (arith, clear number place f))))
    (cases_lt at (length bs))
meetings_first bs (suc left) at came odd from here to clear =
    two_steps bs (at + 2) (meeting_at bs at (get_or bs 0 0) (get_or bs 1 0)) _ (meeting_step bs at odd from here (omega arith) clear)
    (λ m is next.
    let there = (meeting_accepted bs at (get_or bs 0 0) (get_or bs 1 0) m is).station_named.0 in
    meetings_first bs left (at + 2) (came ++ m ∷ []) (omega arith) (omega arith) (omega arith) (omega arith) next)

-- the same of what is made of an accepted value
made_of : {S T : Type 0} (bs : List ℕ) (o : Outcome S) (f : S → T) → TellsFirst bs o → TellsFirst bs (then o (λ x. accepted (f x)))
made_of bs (accepted x) f first = first
made_of bs (refused number place) f first = first

all_meetings : (bs : List ℕ) (n k many : ℕ) → 5 ≤ length bs → n ≡ get_or bs 0 0 → k ≡ get_or bs 1 0 → many ≡ said bs → Clear bs 5 → TellsFirst bs (meetings_at bs n k many 5 [])
all_meetings bs n k many long is_n is_k is_many clear =
    rw (is_n, is_k, is_many) (meetings_first bs (said bs) 5 [] (omega arith) (omega arith) long (omega arith) clear)

pub first_fault : FirstFault
first_fault bs =
    ⊎_elim
    (λ few. rw (lt-ltb (length bs) 5 few) (short few, λ number place f. clear_short bs number place f few))
    (λ long. rw (le-ltb (length bs) 5 long)
    (two_steps bs 1 (limit (get_or bs 0 0) 0) _ (limit_step bs 0 long (omega arith) (λ number place f. omega arith))
    (λ n is_n clear_n. two_steps bs 2 (limit (get_or bs 1 0) 1) _ (limit_step bs 1 long (omega arith) clear_n)
    (λ k is_k clear_k. two_steps bs 3 (limit (get_or bs 2 0) 2) _ (limit_step bs 2 long (omega arith) clear_k)
    (λ q is_q clear_q. two_steps bs 5 (count (get_or bs 3 0) (get_or bs 4 0)) _ (count_step bs long clear_q)
    (λ many is_many clear.
    made_of bs (meetings_at bs n k many 5 []) _
    (all_meetings bs n k many long (limit_accepted (get_or bs 0 0) 0 n is_n).0 (limit_accepted (get_or bs 1 0) 1 k is_k).0
    (count_accepted (get_or bs 3 0) (get_or bs 4 0) many is_many).0 clear)))))))
    (cases_lt (length bs) 5)

-- What a change leaves of the rounds before any meeting is put in: a meeting is dropped, or it is there if it was and has the
-- round that it had, where that is one of those that are left; so the rounds are still a partial plan. Assumes nothing.
use Rattle.std.proofs.Common.{◌≡◌, ℕ, ◌<◌, ◌≤◌, true, false, cond, ltb, ◌⊎◌, inl, inr, List, [], ◌∷◌, ◌++◌, length, get_or, map, set, sym, refl, ap, ◌∙◌, ⊎_elim, arith}
use Rattle.std.proofs.lemmas.List.{get_or-map, get_or-set_same, get_or-set_other, get_or_append_left, get_or_past, get_or_push, length-append, length-map, length-set}
use Rattle.std.proofs.lemmas.Bool.{cases_eq, cases_lt}
use Rattle.std.proofs.lemmas.Bool.Decides.{nat_tests}
use Rattle.meetings.specs.declared.numbers.MeetingId.{MeetingId}
use Rattle.meetings.specs.declared.numbers.Side.{Side}
use Rattle.meetings.specs.Lists.{Contents, nobody, party}
use Rattle.fewest.specs.Plans.{none}
use Rattle.chains.specs.Partial.{Partial, party_of, round_of}
use Rattle.changes.specs.declared.change.Change.{Change}
use Rattle.changes.specs.declared.change.Change.TheVariants.{Add, Drop, GetRoom, GiveRoomUp}
use Rattle.changes.specs.Days.{has_round}
use Rattle.changes.specs.Making.{noted, taken_out}
use Rattle.changes.specs.Numbered.{list_after, there_after}

-- the change drops meeting i
abbrev pub Dropped : Change → ℕ → Type 0
Dropped c i = (j : MeetingId) × (c ≡ Drop j) × (j.0 ≡ i)

-- then it is not there any more, and has no round
pub record Goes (xs : List ℕ) (c : Change) (i : ℕ) : Type 0 where
  pub dropped : Dropped c i
  pub no_round : round_of (noted xs c) i ≡ none
  pub away : get_or (there_after (map has_round xs) c) i false ≡ false

-- else it has the round that it had, and is there if it had one
pub record Stays (xs : List ℕ) (c : Change) (i : ℕ) : Type 0 where
  pub same : round_of (noted xs c) i ≡ round_of xs i
  pub there : get_or (there_after (map has_round xs) c) i false ≡ has_round (round_of xs i)

-- a meeting from before goes or stays
pub goes_or_stays : (xs : List ℕ) (c : Change) (i : ℕ) → i < length xs → Goes xs c i ⊎ Stays xs c i
goes_or_stays xs (Add m) i h =
    let long = length-map xs has_round in
    inr (record { same = get_or_append_left xs (none ∷ []) none i h; there = get_or_append_left (map has_round xs) (true ∷ []) false i (omega arith) ∙ get_or-map has_round xs i none false h })
goes_or_stays xs (Drop j) i h =
    let long = length-map xs has_round in
    ⊎_elim
    (λ this. inl (record {
      dropped = (j, refl, sym this);
      no_round = ap (λ k. round_of (set xs k none) i) (sym this) ∙ get_or-set_same xs i none none h;
      away = ap (λ k. get_or (set (map has_round xs) k false) i false) (sym this) ∙ get_or-set_same (map has_round xs) i false false (omega arith);
    }))
    (λ other. inr (record {
      same = get_or-set_other xs j.0 i none none other;
      there = get_or-set_other (map has_round xs) j.0 i false false other ∙ get_or-map has_round xs i none false h;
    }))
    (cases_eq i j.0)
goes_or_stays xs GiveRoomUp i h = inr (record { same = refl; there = get_or-map has_round xs i none false h })
goes_or_stays xs GetRoom i h = inr (record { same = refl; there = get_or-map has_round xs i none false h })

-- a new meeting has no round
pub new_has_none : (xs : List ℕ) (c : Change) (i : ℕ) → length xs ≤ i → round_of (noted xs c) i ≡ none
new_has_none xs (Add m) i h =
    ⊎_elim
    (λ this. get_or_push xs none none i (sym this))
    (λ past. get_or_past (xs ++ none ∷ []) i none (omega (arith, length-append xs (none ∷ []))))
    (cases_eq i (length xs))
new_has_none xs (Drop j) i h = get_or_past (set xs j.0 none) i none (omega (arith, length-set xs j.0 none))
new_has_none xs GiveRoomUp i h = get_or_past xs i none h
new_has_none xs GetRoom i h = get_or_past xs i none h

-- there are as many rounds and as many marks as meetings
pub noted_long : (d : Contents) (xs : List ℕ) (c : Change) → length xs ≡ length d.meetings → length (noted xs c) ≡ length (list_after d c).meetings
noted_long d xs (Add m) e = omega (arith, length-append xs (none ∷ []), length-append d.meetings (m ∷ []))
noted_long d xs (Drop j) e = omega (arith, length-set xs j.0 none)
noted_long d xs GiveRoomUp e = e
noted_long d xs GetRoom e = e

pub there_long : (d : Contents) (xs : List ℕ) (c : Change) → length xs ≡ length d.meetings → length (there_after (map has_round xs) c) ≡ length (list_after d c).meetings
there_long d xs (Add m) e = omega (arith, length-map xs has_round, length-append (map has_round xs) (true ∷ []), length-append d.meetings (m ∷ []))
there_long d xs (Drop j) e = omega (arith, length-map xs has_round, length-set (map has_round xs) j.0 false)
there_long d xs GiveRoomUp e = omega (arith, length-map xs has_round)
there_long d xs GetRoom e = omega (arith, length-map xs has_round)

-- no meeting's number is lost
pub meetings_kept : (d : Contents) (c : Change) → length d.meetings ≤ length (list_after d c).meetings
meetings_kept d (Add m) = omega (arith, length-append d.meetings (m ∷ []))
meetings_kept d (Drop j) = omega arith
meetings_kept d GiveRoomUp = omega arith
meetings_kept d GetRoom = omega arith

-- meetings from before are with the same parties
pub parties_kept : (d : Contents) (c : Change) (s : Side) (i : ℕ) → i < length d.meetings → party_of (list_after d c).meetings s i ≡ party_of d.meetings s i
parties_kept d (Add m) s i h = ap (party s) (get_or_append_left d.meetings (m ∷ []) nobody i h)
parties_kept d (Drop j) s i h = refl
parties_kept d GiveRoomUp s i h = refl
parties_kept d GetRoom s i h = refl

-- of the rounds those below r are left
pub round_taken : (r : ℕ) (xs : List ℕ) (i : ℕ) → round_of (taken_out r xs) i ≡ cond (ltb (round_of xs i) r) (round_of xs i) none
round_taken r xs i =
    ⊎_elim
    (λ h. get_or-map (λ x. cond (ltb x r) x none) xs i none none h)
    (λ past.
    let out = get_or_past xs i none past in
    get_or_past (taken_out r xs) i none (omega (arith, length-map xs (λ x. cond (ltb x r) x none))) ∙ outside (round_of xs i) out)
    (cases_lt i (length xs))
  where
    outside : (x : ℕ) → x ≡ none → none ≡ cond (ltb x r) x none
    outside x e = grind (arith, nat_tests)

-- a round that is left
left_is : (r x : ℕ) → r ≤ none → cond (ltb x r) x none < r → cond (ltb x r) x none ≡ x
left_is r x le h = grind (arith, nat_tests)

pub left_or_none : (r x : ℕ) → (cond (ltb x r) x none ≡ none) ⊎ (cond (ltb x r) x none < r)
left_or_none r x = ⊎_elim (λ h. inr (grind (arith, nat_tests))) (λ h. inl (grind (arith, nat_tests))) (cases_lt x r)

-- who has one after the change had it before, and is there
pub record HasStill (r : ℕ) (xs : List ℕ) (c : Change) (i : ℕ) : Type 0 where
  pub old : i < length xs
  pub same : round_of (taken_out r (noted xs c)) i ≡ round_of xs i
  pub there : get_or (there_after (map has_round xs) c) i false ≡ true

pub has_still : (r : ℕ) (xs : List ℕ) (c : Change) (i : ℕ) → r ≤ none → round_of (taken_out r (noted xs c)) i < r → HasStill r xs c i
has_still r xs c i le low =
    ⊎_elim
    (λ h. ⊎_elim
    (λ goes. absurd (omega (arith, goes.no_round, noted_same)))
    (λ stays. record { old = h; same = noted_same ∙ stays.same; there = stays.there ∙ some (round_of xs i) (omega (arith, noted_same, stays.same)) })
    (goes_or_stays xs c i h))
    (λ past. absurd (omega (arith, new_has_none xs c i past, noted_same)))
    (cases_lt i (length xs))
  where
    noted_same : round_of (taken_out r (noted xs c)) i ≡ round_of (noted xs c) i
    noted_same = let e = round_taken r (noted xs c) i in e ∙ left_is r (round_of (noted xs c) i) le (rw (← e) low)

    some : (x : ℕ) → x < none → has_round x ≡ true
    some x h = grind (arith, nat_tests)

-- WHAT IS LEFT IS A PARTIAL PLAN, for any number of rounds
pub start_partial : (q r : ℕ) (d : Contents) (xs : List ℕ) (c : Change) → r ≤ none → Partial q d.meetings xs → Partial r (list_after d c).meetings (taken_out r (noted xs c))
start_partial q r d xs c le plan = record {
  each = length-map (noted xs c) (λ x. cond (ltb x r) x none) ∙ noted_long d xs c plan.each;
  round = λ i h. rw (round_taken r (noted xs c) i) (left_or_none r (round_of (noted xs c) i));
  apart = λ s i j hi hj l e p.
      let one = has_still r xs c i le l in
      let other = has_still r xs c j le (omega arith) in
      let hi' : i < length d.meetings = omega (arith, one.old, plan.each) in
      let hj' : j < length d.meetings = omega (arith, other.old, plan.each) in
      plan.apart s i j hi' hj' (below i hi' (omega (arith, one.same))) (sym one.same ∙ e ∙ other.same) (sym (parties_kept d c s i hi') ∙ p ∙ parties_kept d c s j hj');
}
  where
    below : (i : ℕ) → i < length d.meetings → round_of xs i < none → round_of xs i < q
    below i h some = ⊎_elim (λ out. absurd (omega arith)) (λ low. low) (plan.round i h)

-- What is known of a board before a change: the change can be noted, what is left then is a partial plan, and those that wait are
-- those of the rule, so that they can be put in. Assumes nothing.
use Rattle.std.proofs.Common.{◌≡◌, ℕ, ◌+◌, ◌-◌, ◌<◌, ◌≤◌, true, false, cond, ltb, ◌⊎◌, inl, inr, List, [], ◌∷◌, ◌++◌, length, get_or, map, sym, refl, ap, ◌∙◌, subst, ⊎_elim, arith}
use Rattle.std.proofs.lemmas.Bool.{both_ways, cases_lt}
use Rattle.std.proofs.lemmas.Bool.Decides.{nat_tests}
use Rattle.std.proofs.lemmas.List.{ext_get_or, get_or-map, get_or_past, get_or_push, length-append, length-map}
use Rattle.meetings.specs.Lists.{Contents}
use Rattle.fewest.specs.Plans.{none}
use Rattle.chains.specs.declared.board.Board.{Board}
use Rattle.chains.specs.Boards.{meetings_on, rounds_on}
use Rattle.chains.specs.Chains.{holds}
use Rattle.chains.specs.Partial.{Partial, round_of}
use Rattle.chains.specs.Statements.{Once}
use Rattle.chains.proofs.Members.{held_cases, none_held, once_from_fresh}
use Rattle.changes.specs.declared.change.Change.{Change}
use Rattle.changes.specs.declared.change.Change.TheVariants.{Add, Drop, GetRoom, GiveRoomUp}
use Rattle.changes.specs.Days.{Day, has_round, numbered}
use Rattle.changes.specs.Making.{grown, noted, taken_out}
use Rattle.changes.specs.Numbered.{can, changed, list_after}
use Rattle.changes.specs.OnBoard.{CanNote, newcomer}
use Rattle.changes.specs.Waiting.{is_there}
use Rattle.changes.proofs.Standing.{round_has}
use Rattle.changes.proofs.Noted.{goes_or_stays, new_has_none, round_taken, start_partial}

-- a meeting has one of q rounds or none still
pub noted_round : (q : ℕ) (d : Contents) (xs : List ℕ) (c : Change) → Partial q d.meetings xs → (i : ℕ) → (round_of (noted xs c) i ≡ none) ⊎ (round_of (noted xs c) i < q)
noted_round q d xs c plan i = ⊎_elim
    (λ h. ⊎_elim
    (λ goes. inl goes.no_round)
    (λ stays. ⊎_elim (λ out. inl (stays.same ∙ out)) (λ below. inr (omega (arith, stays.same))) (plan.round i (omega (arith, plan.each))))
    (goes_or_stays xs c i h))
    (λ past. inl (new_has_none xs c i past))
    (cases_lt i (length xs))

pub noted_partial : (q : ℕ) (d : Contents) (xs : List ℕ) (c : Change) → q ≤ none → Partial q d.meetings xs → Partial q (list_after d c).meetings (noted xs c)
noted_partial q d xs c few plan =
    subst (Partial q (list_after d c).meetings) (ext_get_or none (taken_out q (noted xs c)) (noted xs c) (length-map (noted xs c) (λ x. cond (ltb x q) x none)) (λ i h. round_taken q (noted xs c) i ∙ same (round_of (noted xs c) i) (noted_round q d xs c plan i))) (start_partial q q d xs c few plan)
  where
    same : (x : ℕ) → (x ≡ none) ⊎ (x < q) → cond (ltb x q) x none ≡ x
    same x round = grind (arith, nat_tests)

-- the meeting that is dropped is there
pub drop_there : (d : Day) (i : ℕ) → get_or (map has_round d.at) i false ≡ true → (i < length d.at) × (has_round (round_of d.at i) ≡ true)
drop_there d i there = ⊎_elim
    (λ h. (h, sym (get_or-map has_round d.at i none false h) ∙ there))
    (λ past. absurd (both_ways _ (get_or_past (map has_round d.at) i false (omega (arith, length-map d.at has_round))) there))
    (cases_lt i (length d.at))

-- a change can be noted
pub noting : (d : Day) (c : Change) (e : Board) (r s : ℕ) → can (numbered d) c ≡ true → Partial r d.list.meetings d.at → meetings_on e ≡ (list_after d.list c).meetings → rounds_on e ≡ grown d.at c → r ≤ s → CanNote e s c
noting d (Add m) e r s may plan meetings rounds le =
    let long : length (meetings_on e) ≡ length d.at + 1 = omega (arith, ap length meetings, length-append d.list.meetings (m ∷ []), plan.each) in (
      omega (arith, long),
      ap (λ xs. round_of xs (length (meetings_on e) - 1)) rounds ∙ get_or_push d.at none none (length (meetings_on e) - 1) (omega (arith, long)),
    )
noting d (Drop i) e r s may plan meetings rounds le =
    let there = drop_there d i.0 may in
    let here : i.0 < length d.list.meetings = omega (arith, there.0, plan.each) in (
      omega (arith, here, ap length meetings),
      ⊎_elim (λ out. absurd (round_has _ there.1 out)) (λ below. omega (arith, below, ap (λ xs. round_of xs i.0) rounds, le)) (plan.round i.0 here),
    )
noting d GiveRoomUp e r s may plan meetings rounds le = tt
noting d GetRoom e r s may plan meetings rounds le = tt

-- the added meeting has no round, and is there
pub newcomer_is : (d : Day) (c : Change) (i : ℕ) → length d.at ≡ length d.list.meetings → holds (newcomer (length (list_after d.list c).meetings) c) i ≡ true → (length d.at ≤ i) × (i < length (list_after d.list c).meetings) × (is_there (changed (numbered d) c) i ≡ true)
newcomer_is d (Add m) i each h =
    let long = length-append d.list.meetings (m ∷ []) in
    ⊎_elim
    (λ this. (omega (arith, this, long, each), omega (arith, this, long), get_or_push (map has_round d.at) true false i (omega (arith, this, long, each, length-map d.at has_round))))
    (λ never. absurd (none_held i never))
    (held_cases (length (d.list.meetings ++ m ∷ []) - 1) [] i h)
newcomer_is d (Drop j) i each h = absurd (none_held i h)
newcomer_is d GiveRoomUp i each h = absurd (none_held i h)
newcomer_is d GetRoom i each h = absurd (none_held i h)

-- and there is no other new one
pub new_is : (d : Day) (c : Change) (i : ℕ) → length d.at ≡ length d.list.meetings → length d.at ≤ i → i < length (list_after d.list c).meetings → holds (newcomer (length (list_after d.list c).meetings) c) i ≡ true
new_is d (Add m) i each past h = one_there_is i (length (d.list.meetings ++ m ∷ []) - 1) (omega (arith, length-append d.list.meetings (m ∷ []), each))
  where
    one_there_is : (i z : ℕ) → i ≡ z → holds (z ∷ []) i ≡ true
    one_there_is i z e = grind (arith, nat_tests)
new_is d (Drop j) i each past h = absurd (omega (arith, each))
new_is d GiveRoomUp i each past h = absurd (omega (arith, each))
new_is d GetRoom i each past h = absurd (omega (arith, each))

pub newcomer_once : (m : ℕ) (c : Change) → Once (newcomer m c)
newcomer_once m (Add x) = once_from_fresh ((m - 1) ∷ []) (refl, tt)
newcomer_once m (Drop i) = once_from_fresh [] tt
newcomer_once m GiveRoomUp = once_from_fresh [] tt
newcomer_once m GetRoom = once_from_fresh [] tt

-- On the board before a change: those that wait are those of the rule, and can be put in. Assumes nothing.
use Rattle.std.proofs.Common.{◌≡◌, ℕ, ◌<◌, ◌≤◌, true, cond, ◌&&◌, ◌||◌, leb, ltb, ◌⊎◌, List, length, sym, ap, ◌∙◌, subst, ⊎_elim, arith}
use Rattle.std.proofs.lemmas.Bool.{both_ways, cases_lt, or_cases, or_left, or_right}
use Rattle.std.proofs.lemmas.Bool.Decides.{nat_tests}
use Rattle.fewest.specs.Plans.{none}
use Rattle.chains.specs.declared.board.Board.{Board}
use Rattle.chains.specs.Boards.{Becomes, meetings_on, rounds_on}
use Rattle.chains.specs.Chains.{holds}
use Rattle.chains.specs.Partial.{Partial, round_of}
use Rattle.changes.specs.declared.change.Change.{Change}
use Rattle.chains.specs.Rows.{ManyWithin}
use Rattle.changes.specs.Days.{Day, numbered, rounds_of}
use Rattle.changes.specs.Making.{dropped, noted, start_of, taken_out, waiting}
use Rattle.changes.specs.MakingOn.{BeforeChange}
use Rattle.changes.specs.Numbered.{Numbered, changed, list_after, rounds_for}
use Rattle.changes.specs.OnBoard.{AreOut, CanNote, CanPut, TakesRest, goes, newcomer}
use Rattle.changes.specs.Waiting.{Spared, WhilePutting, is_there}
use Rattle.changes.proofs.Standing.{has_round_if, round_has}
use Rattle.changes.proofs.BeforeMaking.{new_is, newcomer_is, newcomer_once, noted_partial, noted_round, noting}
use Rattle.changes.proofs.NextDay as next
use Rattle.changes.proofs.Noted.{goes_or_stays, new_has_none, round_taken}
use Rattle.changes.proofs.OneChange.{change_waits}
use Rattle.changes.proofs.Waiting.{once_rises, passing_rises, rising_same}

module _ (d : Day) (c : Change) (e : Board) (from to : ℕ) (b : BeforeChange d c (meetings_on e) e.shape (rounds_on e) from to) where
  abbrev pub v : Numbered
  v = changed (numbered d) c

  -- how many meetings there are numbers for
  pub many_is : length (meetings_on e) ≡ length v.list.meetings
  many_is = ap length b.meetings

  pub few_now : from ≤ none
  few_now = omega (arith, b.within_now.0, e.held.groups.narrow)

  pub few_then : to ≤ none
  few_then = omega (arith, b.within_then.0, e.held.groups.narrow)

  abbrev few_rule : rounds_for v ≤ none
  few_rule = next.few_then d c b.stands b.may

  -- what is left is a partial plan
  pub start_is : dropped (rounds_on e) c ≡ noted d.at c
  start_is = ap (λ xs. dropped xs c) b.rounds

  pub plan_now : Partial from (meetings_on e) (dropped (rounds_on e) c)
  plan_now = subst (λ ms. Partial from ms (dropped (rounds_on e) c)) (sym b.meetings) (subst (Partial from (list_after d.list c).meetings) (sym start_is) (subst (λ q. Partial q (list_after d.list c).meetings (noted d.at c)) (sym b.now) (noted_partial (rounds_of d) d.list d.at c (omega (arith, few_now, b.now)) b.stands.partial)))

  pub can_note : (s : ℕ) → from ≤ s → CanNote e s c
  can_note s le = noting d c e (rounds_of d) s b.may b.stands.partial b.meetings b.rounds (omega (arith, b.now))

  -- an added meeting has no round yet
  pub newcomer_out : (e1 : Board) → Becomes e e1 (dropped (rounds_on e) c) → AreOut e1 (newcomer (length (meetings_on e)) c)
  newcomer_out e1 board = record {
    out = λ i h.
        let new = newcomer_is d c i b.stands.partial.each (subst (λ m. holds (newcomer m c) i ≡ true) many_is h) in
        (omega (arith, new.1, many_is, ap length board.meetings), ap (λ xs. round_of xs i) (board.rounds ∙ start_is) ∙ new_has_none d.at c i new.0);
    once = newcomer_once (length (meetings_on e)) c;
  }

  -- who waits
  module _ (e1 : Board) (noted_on : Becomes e e1 (dropped (rounds_on e) c)) where
    rounds_now : rounds_on e1 ≡ noted d.at c
    rounds_now = noted_on.rounds ∙ start_is

    many_now : length (meetings_on e1) ≡ length v.list.meetings
    many_now = ap length noted_on.meetings ∙ many_is

    xs : List ℕ
    xs = taken_out to (noted d.at c)

    pub start_then : taken_out to (rounds_on e1) ≡ start_of d c
    start_then = ap (taken_out to) rounds_now ∙ ap (λ r. taken_out r (noted d.at c)) b.then

    -- whoever goes is there, and has no round then
    goer_waits : (i : ℕ) → goes e1 to from i ≡ true → (i < length v.list.meetings) × (is_there v i ≡ true) × (round_of (start_of d c) i ≡ none)
    goer_waits i h = (here, there, gone)
      where
        parts : (i < length (meetings_on e1)) × (to ≤ round_of (rounds_on e1) i) × (round_of (rounds_on e1) i < from)
        parts = step i (length (meetings_on e1)) to from (round_of (rounds_on e1) i) h
          where
            step : (i m a b x : ℕ) → (ltb i m && leb a x && ltb x b) ≡ true → (i < m) × (a ≤ x) × (x < b)
            step i m a b x e = (grind (arith, nat_tests), grind (arith, nat_tests), grind (arith, nat_tests))

        here : i < length v.list.meetings
        here = omega (arith, parts.0, many_now)

        at : round_of (rounds_on e1) i ≡ round_of (noted d.at c) i
        at = ap (λ l. round_of l i) rounds_now

        there : is_there v i ≡ true
        there = ⊎_elim
            (λ old. ⊎_elim (λ went. absurd (omega (arith, went.no_round, at, parts.2, few_now))) (λ stays. stays.there ∙ has_round_if (round_of d.at i) (λ out. omega (arith, stays.same, at, parts.2, few_now))) (goes_or_stays d.at c i old))
            (λ new. absurd (omega (arith, new_has_none d.at c i new, at, parts.2, few_now)))
            (cases_lt i (length d.at))

        gone : round_of (start_of d c) i ≡ none
        gone = ap (λ l. round_of l i) (sym start_then) ∙ round_taken to (rounds_on e1) i ∙ past to (round_of (rounds_on e1) i) parts.1
          where
            past : (r x : ℕ) → r ≤ x → cond (ltb x r) x none ≡ none
            past r x h = grind (arith, nat_tests)

    newcomer_waits : (i : ℕ) → holds (newcomer (length (meetings_on e)) c) i ≡ true → (i < length v.list.meetings) × (is_there v i ≡ true) × (round_of (start_of d c) i ≡ none)
    newcomer_waits i h =
        let new = newcomer_is d c i b.stands.partial.each (subst (λ m. holds (newcomer m c) i ≡ true) many_is h) in
        (new.1, new.2, round_taken (rounds_for v) (noted d.at c) i ∙ out (rounds_for v) (round_of (noted d.at c) i) (new_has_none d.at c i new.0))
      where
        out : (r x : ℕ) → x ≡ none → cond (ltb x r) x none ≡ none
        out r x e = grind (arith, nat_tests)

    -- and whoever is there without a round is new, or goes
    waits_so : (i : ℕ) → i < length v.list.meetings → is_there v i ≡ true → round_of (start_of d c) i ≡ none → (holds (newcomer (length (meetings_on e)) c) i || goes e1 to from i) ≡ true
    waits_so i here there out = ⊎_elim old new (cases_lt i (length d.at))
      where
        new : length d.at ≤ i → (holds (newcomer (length (meetings_on e)) c) i || goes e1 to from i) ≡ true
        new past = or_left _ _ (subst (λ m. holds (newcomer m c) i ≡ true) (sym many_is) (new_is d c i b.stands.partial.each past here))

        step : (i m a b x : ℕ) → i < m → (x ≡ none → ⊥) → (x ≡ none) ⊎ (x < b) → cond (ltb x a) x none ≡ none → (ltb i m && leb a x && ltb x b) ≡ true
        step i m a b x h some round gone = grind (arith, nat_tests)

        at : round_of (noted d.at c) i ≡ round_of (rounds_on e1) i
        at = ap (λ l. round_of l i) (sym rounds_now)

        went : (round_of (noted d.at c) i ≡ none → ⊥) → goes e1 to from i ≡ true
        went some = step i (length (meetings_on e1)) to from (round_of (rounds_on e1) i) (omega (arith, many_now)) (λ o. some (at ∙ o)) (subst (λ q. (round_of (rounds_on e1) i ≡ none) ⊎ (round_of (rounds_on e1) i < q)) (sym b.now) (subst (λ x. (x ≡ none) ⊎ (x < rounds_of d)) at (noted_round (rounds_of d) d.list d.at c b.stands.partial i))) (sym (round_taken to (rounds_on e1) i) ∙ ap (λ l. round_of l i) start_then ∙ out)

        old : i < length d.at → (holds (newcomer (length (meetings_on e)) c) i || goes e1 to from i) ≡ true
        old h = ⊎_elim
            (λ goer. absurd (both_ways _ goer.away there))
            (λ stays. or_right _ _ (went (λ o. round_has (round_of d.at i) (sym stays.there ∙ there) (sym stays.same ∙ o))))
            (goes_or_stays d.at c i h)

    -- THOSE THAT WAIT are those of the rule
    pub waiting_is : (e2 : Board) (ns ns' js : List ℕ) → TakesRest e1 e2 from to ns ns' (newcomer (length (meetings_on e)) c) js → js ≡ waiting v.there (start_of d c)
    waiting_is e2 ns ns' js rest =
        rising_same js (waiting v.there (start_of d c)) (once_rises js rest.rising rest.once) (passing_rises _ (length (start_of d c)) 0)
        (λ i h. let w = ⊎_elim (newcomer_waits i) (goer_waits i) (or_cases _ _ (sym (rest.held i) ∙ h)) in waits.all i w.0 w.1 w.2)
        (λ i h. let w = waits.waits i h in rest.held i ∙ waits_so i w.0 w.1 w.2)
      where
        waits : WhilePutting (rounds_for v) v (waiting v.there (start_of d c)) (start_of d c)
        waits = change_waits d c b.stands b.may (rounds_for v) few_rule (next.spared_then d c b.stands b.may)

    -- and can be put in
    pub can_put : (e2 : Board) (ns ns' js : List ℕ) → TakesRest e1 e2 from to ns ns' (newcomer (length (meetings_on e)) c) js → CanPut e2 to js
    can_put e2 ns ns' js rest = record {
      v = v;
      meetings = rest.board.meetings ∙ noted_on.meetings ∙ b.meetings;
      within = subst (λ z. ManyWithin z to) (sym (rest.board.shape ∙ noted_on.shape)) b.within_then;
      spared = subst (λ r. Spared r v) (sym b.then) (next.spared_then d c b.stands b.may);
      waiting = subst (λ js. WhilePutting to v js (rounds_on e2)) (sym (waiting_is e2 ns ns' js rest)) (subst (WhilePutting to v (waiting v.there (start_of d c))) (sym (rest.board.rounds ∙ start_then)) (subst (λ r. WhilePutting r v (waiting v.there (start_of d c)) (start_of d c)) (sym b.then) (change_waits d c b.stands b.may (rounds_for v) few_rule (next.spared_then d c b.stands b.may))));
    }

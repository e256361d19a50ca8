-- Meetings are taken out one after the other: those that have gone are the ones that pass, and each is in the list once, since a
-- meeting that is in the list has no round and is not met again. Assumes nothing.
use Rattle.std.proofs.Common.{◌≡◌, ℕ, ◌+◌, ◌<◌, ◌≤◌, Bool, true, false, cond, ◌&&◌, ◌||◌, eqb, leb, ltb, List, [], ◌∷◌, ◌++◌, length, set, sym, refl, ap, ◌∙◌, ⊎_elim, arith}
use Rattle.std.proofs.lemmas.Bool.{both_ways, cases_Bool, cases_eq, cases_lt, cond-true, cond-false, eq-eqb, ne_eqb}
use Rattle.std.proofs.lemmas.Bool.Decides.{nat_tests}
use Rattle.std.proofs.lemmas.List.{get_or-set_same, get_or-set_other, length-append}
use Rattle.meetings.specs.declared.numbers.Side.TheVariants.{Groups}
use Rattle.fewest.specs.Plans.{none}
use Rattle.chains.specs.declared.board.Board.{Board}
use Rattle.chains.specs.Boards.{Becomes, meetings_on, rounds_on}
use Rattle.chains.specs.Chains.{holds, with_one}
use Rattle.chains.specs.Partial.{party_of, round_of, meeting_of}
use Rattle.chains.specs.Rows.{parties_of, width_of}
use Rattle.chains.proofs.BoardKept.{becomes_same, becomes_then}
use Rattle.chains.proofs.Entries.{at_cases, at_found, at_none}
use Rattle.chains.proofs.Marks.{holds_more}
use Rattle.chains.proofs.Members.{fresh_append, fresh_from_once, held_cases, none_held, once_from_fresh, one_cases, unless, once_short}
use Rattle.changes.specs.OnBoard.{AreOut, TakesOut, goes, goes_of}

-- nobody passes
pub takes_none : (d : Board) (is : List ℕ) (p : ℕ → Bool) → AreOut d is → ((i : ℕ) → p i ≡ false) → TakesOut d d is is p
takes_none d is p out nobody = record {
  board = becomes_same d (rounds_on d) refl;
  now = λ i h. sym (cond-false (p i) none (round_of (rounds_on d) i) (nobody i));
  held = λ i. either (holds is i) (p i) (nobody i);
  out = out;
}
  where
    either : (h q : Bool) → q ≡ false → h ≡ (h || q)
    either h q e = grind (arith)

-- the same, of others that pass in the same cases
pub takes_also : (d e : Board) (is js : List ℕ) (p q : ℕ → Bool) → TakesOut d e is js p → ((i : ℕ) → p i ≡ q i) → TakesOut d e is js q
takes_also d e is js p q t same = record {
  board = t.board;
  now = λ i h. t.now i h ∙ ap (λ b. cond b none (round_of (rounds_on d) i)) (same i);
  held = λ i. t.held i ∙ ap (λ b. holds is i || b) (same i);
  out = t.out;
}

-- one after the other
pub takes_then : (d e f : Board) (is js ks : List ℕ) (p q : ℕ → Bool) → TakesOut d e is js p → TakesOut e f js ks q → TakesOut d f is ks (λ i. p i || q i)
takes_then d e f is js ks p q one two = record {
  board = becomes_then d e f _ _ _ one.board two.board refl;
  now = λ i h. two.now i (omega (arith, ap length one.board.meetings)) ∙ ap (cond (q i) none) (one.now i h) ∙ both (p i) (q i) (round_of (rounds_on d) i);
  held = λ i. two.held i ∙ ap (λ b. b || q i) (one.held i) ∙ grouped (holds is i) (p i) (q i);
  out = two.out;
}
  where
    both : (a b : Bool) (x : ℕ) → cond b none (cond a none x) ≡ cond (a || b) none x
    both a b x = grind (arith)

    grouped : (a b c : Bool) → ((a || b) || c) ≡ (a || (b || c))
    grouped a b c = grind (arith)

-- one meeting that has a round goes
module _ (d e e' : Board) (is js : List ℕ) (p : ℕ → Bool) (z : ℕ) (t : TakesOut d e is js p) (here : z < length (meetings_on e)) (some : round_of (rounds_on e) z ≡ none → ⊥) (gone : Becomes e e' (set (rounds_on e) z none)) where
  pub not_held : holds js z ≡ false
  not_held = unless (holds js z) (λ h. some (t.out.out z h).1)

  went : (i : ℕ) → i < length (meetings_on e) → round_of (rounds_on e') i ≡ cond (eqb i z) none (round_of (rounds_on e) i)
  went i h = ap (λ l. round_of l i) gone.rounds ∙ ⊎_elim
      (λ same. ap (round_of (set (rounds_on e) z none)) same ∙ get_or-set_same (rounds_on e) z none none (omega (arith, e.held.each)) ∙ sym (first i z (round_of (rounds_on e) i) same))
      (λ other. get_or-set_other (rounds_on e) z i none none other ∙ sym (second i z (round_of (rounds_on e) i) other))
      (cases_eq i z)
    where
      first : (i z x : ℕ) → i ≡ z → cond (eqb i z) none x ≡ none
      first i z x e = grind (arith, nat_tests)

      second : (i z x : ℕ) → (i ≡ z → ⊥) → cond (eqb i z) none x ≡ x
      second i z x e = grind (arith, nat_tests)

  pub takes_more : TakesOut d e' is (js ++ z ∷ []) (with_one p z)
  takes_more = record {
    board = becomes_then d e e' _ _ _ t.board gone (sym gone.rounds);
    now = λ i h. went i (omega (arith, ap length t.board.meetings)) ∙ ap (cond (eqb i z) none) (t.now i h) ∙ both (eqb i z) (p i) (round_of (rounds_on d) i);
    held = λ i. ap (λ f. f i) (holds_more js z) ∙ ap (cond (eqb i z) true) (t.held i) ∙ more (eqb i z) (holds is i) (p i);
    out = record {
      out = λ i h. ⊎_elim
          (λ this. (omega (arith, ap length gone.meetings), went i (omega arith) ∙ gone_now i this))
          (λ before. let was = t.out.out i before in (omega (arith, was.0, ap length gone.meetings), went i was.0 ∙ still (eqb i z) (round_of (rounds_on e) i) was.1))
          (one_cases (holds js) z i (sym (ap (λ f. f i) (holds_more js z)) ∙ h));
      once = once_from_fresh (js ++ z ∷ []) (fresh_append js (z ∷ []) (fresh_from_once js t.out.once) (refl, tt) (λ j front back. both_ways _ not_held (ap (holds js) (sym (only j back)) ∙ front)));
    };
  }
    where
      both : (a b : Bool) (x : ℕ) → cond a none (cond b none x) ≡ cond (cond a true b) none x
      both a b x = grind (arith)

      more : (a h q : Bool) → cond a true (h || q) ≡ (h || cond a true q)
      more a h q = grind (arith)

      gone_now : (i : ℕ) → i ≡ z → cond (eqb i z) none (round_of (rounds_on e) i) ≡ none
      gone_now i same = step i z (round_of (rounds_on e) i) same
        where
          step : (i z x : ℕ) → i ≡ z → cond (eqb i z) none x ≡ none
          step i z x e = grind (arith, nat_tests)

      still : (a : Bool) (x : ℕ) → x ≡ none → cond a none x ≡ none
      still a x e = grind (arith)

      only : (j : ℕ) → holds (z ∷ []) j ≡ true → j ≡ z
      only j h = ⊎_elim (λ e. e) (λ never. absurd (none_held j never)) (held_cases z [] j h)

-- whether a meeting below m with round x and group p is in one of the rounds from first to c, and of group g
abbrev passes : ℕ → ℕ → ℕ → ℕ → ℕ → ℕ → ℕ → Bool
passes m first c g i x p = (ltb i m && leb first x && ltb x c) && eqb p g

passes_here : (m first c g i x p : ℕ) → i < m → first ≤ c → x ≡ c → p ≡ g → passes m first (c + 1) g i x p ≡ true
passes_here m first c g i x p a b e f = grind (arith, nat_tests)

passes_parts : (m first c g i x p : ℕ) → passes m first c g i x p ≡ true → (i < m) × (first ≤ x) × (x < c) × (p ≡ g)
passes_parts m first c g i x p e = (grind (arith, nat_tests), grind (arith, nat_tests), grind (arith, nat_tests), grind (arith, nat_tests))

passes_other : (m first c g i x p : ℕ) → (x ≡ c → ⊥) → passes m first c g i x p ≡ passes m first (c + 1) g i x p
passes_other m first c g i x p other = grind (arith, nat_tests)

passes_past : (m first c g i x p : ℕ) → x ≡ c → passes m first c g i x p ≡ false
passes_past m first c g i x p e = grind (arith, nat_tests)

passes_none : (m first g i x p : ℕ) → passes m first first g i x p ≡ false
passes_none m first g i x p = grind (arith, nat_tests)

-- in the row of group g the rounds from first to c are done
module _ (d e : Board) (is js : List ℕ) (first c g : ℕ) (from : first ≤ c) (hg : g < parties_of Groups e.shape) (hc : c < width_of Groups e.shape) (t : TakesOut d e is js (goes_of d first c g)) where
  now_of : (i : ℕ) → i < length (meetings_on d) → (round_of (rounds_on d) i ≡ c) → round_of (rounds_on e) i ≡ c
  now_of i h at = t.now i h ∙ cond-false (goes_of d first c g i) none (round_of (rounds_on d) i) (passes_past _ first c g i _ _ at) ∙ at

  -- the group has no meeting in round c
  pub row_none : meeting_of (meetings_on e) (rounds_on e) Groups g c ≡ none → TakesOut d e is js (goes_of d first (c + 1) g)
  row_none nothing = takes_also d e is js _ _ t (λ i. ⊎_elim
      (λ at. ⊎_elim
      (λ new. let parts = passes_parts (length (meetings_on d)) first (c + 1) g i _ _ new in absurd (at_none (length (meetings_on e)) (party_of (meetings_on e) Groups) (round_of (rounds_on e)) g c nothing e.held.few i (omega (arith, parts.0, ap length t.board.meetings)) (ap (λ l. party_of l Groups i) t.board.meetings ∙ parts.3) (now_of i parts.0 at)))
      (λ old. passes_past _ first c g i _ _ at ∙ sym old)
      (cases_Bool (goes_of d first (c + 1) g i)))
      (passes_other _ first c g i _ _)
      (cases_eq (round_of (rounds_on d) i) c))

  -- it has one there, which goes
  module _ (z : ℕ) (met : z ≡ meeting_of (meetings_on e) (rounds_on e) Groups g c) (there : meeting_of (meetings_on e) (rounds_on e) Groups g c ≡ none → ⊥) where
    below : meeting_of (meetings_on e) (rounds_on e) Groups g c < length (meetings_on e)
    below = ⊎_elim (λ nothing. absurd (there nothing)) (λ h. h) (at_cases (length (meetings_on e)) (party_of (meetings_on e) Groups) (round_of (rounds_on e)) g c)

    of_it : (party_of (meetings_on e) Groups z ≡ g) × (round_of (rounds_on e) z ≡ c)
    of_it = rw met (at_found (length (meetings_on e)) (party_of (meetings_on e) Groups) (round_of (rounds_on e)) g c e.held.few below)

    pub met_here : z < length (meetings_on e)
    met_here = omega (arith, below)

    pub met_some : round_of (rounds_on e) z ≡ none → ⊥
    met_some out = omega (arith, of_it.1, e.held.groups.narrow)

    -- before that it had its round, and is no other meeting of the group in it
    was : round_of (rounds_on d) z ≡ c
    was = ⊎_elim
        (λ went. absurd (met_some (t.now z (omega (arith, met_here, ap length t.board.meetings)) ∙ cond-true (goes_of d first c g z) none _ went)))
        (λ still. sym (t.now z (omega (arith, met_here, ap length t.board.meetings)) ∙ cond-false (goes_of d first c g z) none _ still) ∙ of_it.1)
        (cases_Bool (goes_of d first c g z))

    only_it : (i : ℕ) → i < length (meetings_on d) → party_of (meetings_on d) Groups i ≡ g → round_of (rounds_on d) i ≡ c → i ≡ z
    only_it i h group at =
        let entry = e.held.groups.entries g c hg hc in
        entry.only i (omega (arith, ap length t.board.meetings)) (ap (λ l. party_of l Groups i) t.board.meetings ∙ group) (now_of i h at)
        ∙ sym (entry.only z met_here of_it.0 of_it.1)

    pub row_some : (e' : Board) → Becomes e e' (set (rounds_on e) z none) → TakesOut d e' is (js ++ z ∷ []) (goes_of d first (c + 1) g)
    row_some e' gone = takes_also d e' is (js ++ z ∷ []) _ _ (takes_more d e e' is js (goes_of d first c g) z t met_here met_some gone) same
      where
        same : (i : ℕ) → with_one (goes_of d first c g) z i ≡ goes_of d first (c + 1) g i
        same i = ⊎_elim
            (λ this. cond-true (eqb i z) true _ (eq-eqb i z this) ∙ sym (ap (goes_of d first (c + 1) g) this ∙ passes_here (length (meetings_on d)) first c g z _ _ (omega (arith, met_here, ap length t.board.meetings)) from was (ap (λ l. party_of l Groups z) (sym t.board.meetings) ∙ of_it.0)))
            (λ other. cond-false (eqb i z) true _ (ne_eqb i z other) ∙ ⊎_elim
            (λ at. ⊎_elim
            (λ new. let parts = passes_parts (length (meetings_on d)) first (c + 1) g i _ _ new in absurd (other (only_it i parts.0 parts.3 at)))
            (λ old. passes_past _ first c g i _ _ at ∙ sym old)
            (cases_Bool (goes_of d first (c + 1) g i)))
            (passes_other _ first c g i _ _)
            (cases_eq (round_of (rounds_on d) i) c))
            (cases_eq i z)

-- of the groups before g all that pass have gone
abbrev pub goes_before : Board → ℕ → ℕ → ℕ → ℕ → Bool
goes_before d first end g i = goes d first end i && ltb (party_of (meetings_on d) Groups i) g

-- one group more
pub group_done : (d e e' : Board) (is js ks : List ℕ) (first end g : ℕ) → end ≤ none → TakesOut d e is js (goes_before d first end g) → TakesOut e e' js ks (goes_of e first end g) → TakesOut d e' is ks (goes_before d first end (g + 1))
group_done d e e' is js ks first end g few before more =
    takes_also d e' is ks _ _ (takes_then d e e' is js ks _ _ before more) (λ i. ⊎_elim (inside i) (outside i) (cases_lt i (length (meetings_on d))))
  where
    m : ℕ
    m = length (meetings_on d)

    step : (a b c : Bool) (many first end g x p i : ℕ) → i < many → end ≤ none → a ≡ ((ltb i many && leb first x && ltb x end) && ltb p g) → (y : ℕ) → y ≡ cond a none x → b ≡ ((ltb i many && leb first y && ltb y end) && eqb p g) → c ≡ ((ltb i many && leb first x && ltb x end) && ltb p (g + 1)) → (a || b) ≡ c
    step a b c many first end g x p i h few ea y ey eb ec = grind (arith, nat_tests)

    past : (a b c q s : Bool) (many first end g x p i : ℕ) → many ≤ i → a ≡ ((ltb i many && leb first x && ltb x end) && ltb p g) → b ≡ ((ltb i many && q && s) && eqb p g) → c ≡ ((ltb i many && leb first x && ltb x end) && ltb p (g + 1)) → (a || b) ≡ c
    past a b c q s many first end g x p i h ea eb ec = grind (arith, nat_tests)

    inside : (i : ℕ) → i < m → (goes_before d first end g i || goes_of e first end g i) ≡ goes_before d first end (g + 1) i
    inside i h =
        step (goes_before d first end g i) (goes_of e first end g i) (goes_before d first end (g + 1) i) m first end g (round_of (rounds_on d) i) (party_of (meetings_on d) Groups i) i h few refl (round_of (rounds_on e) i) (before.now i h)
        (ap (λ l. (ltb i (length l) && leb first (round_of (rounds_on e) i) && ltb (round_of (rounds_on e) i) end) && eqb (party_of l Groups i) g) before.board.meetings) refl

    outside : (i : ℕ) → m ≤ i → (goes_before d first end g i || goes_of e first end g i) ≡ goes_before d first end (g + 1) i
    outside i h =
        past (goes_before d first end g i) (goes_of e first end g i) (goes_before d first end (g + 1) i) (leb first (round_of (rounds_on e) i)) (ltb (round_of (rounds_on e) i) end) m first end g (round_of (rounds_on d) i) (party_of (meetings_on d) Groups i) i h refl
        (ap (λ l. (ltb i (length l) && leb first (round_of (rounds_on e) i) && ltb (round_of (rounds_on e) i) end) && eqb (party_of l Groups i) g) before.board.meetings) refl

-- all groups
pub groups_done : (d e : Board) (is js : List ℕ) (first end g : ℕ) → d.shape.groups ≤ g → TakesOut d e is js (goes_before d first end g) → TakesOut d e is js (goes d first end)
groups_done d e is js first end g all t = takes_also d e is js _ _ t (λ i. ⊎_elim (λ h. inside (ltb i (length (meetings_on d)) && leb first (round_of (rounds_on d) i) && ltb (round_of (rounds_on d) i) end) (party_of (meetings_on d) Groups i) g (omega (arith, d.held.groups.parties i h, all))) (outside i) (cases_lt i (length (meetings_on d))))
  where
    inside : (b : Bool) (p g : ℕ) → p < g → (b && ltb p g) ≡ b
    inside b p g h = grind (arith, nat_tests)

    outside : (i : ℕ) → length (meetings_on d) ≤ i → goes_before d first end g i ≡ goes d first end i
    outside i h = step (leb first (round_of (rounds_on d) i)) (ltb (round_of (rounds_on d) i) end) (ltb (party_of (meetings_on d) Groups i) g) i (length (meetings_on d)) h
      where
        step : (a b c : Bool) (i m : ℕ) → m ≤ i → ((ltb i m && a && b) && c) ≡ (ltb i m && a && b)
        step a b c i m h = grind (arith, nat_tests)

-- before the first group nobody has gone
pub no_group : (d : Board) (first end i : ℕ) → goes_before d first end 0 i ≡ false
no_group d first end i = step (goes d first end i) (party_of (meetings_on d) Groups i)
  where
    step : (b : Bool) (p : ℕ) → (b && ltb p 0) ≡ false
    step b p = grind (arith, nat_tests)

pub no_round : (d : Board) (first g i : ℕ) → goes_of d first first g i ≡ false
no_round d first g i = passes_none _ first g i _ _

-- there is room for one more
pub room_left : (d e e' : Board) (is js : List ℕ) (p : ℕ → Bool) (z : ℕ) (t : TakesOut d e is js p) → z < length (meetings_on e) → (round_of (rounds_on e) z ≡ none → ⊥) → Becomes e e' (set (rounds_on e) z none) → length js < length (meetings_on d)
room_left d e e' is js p z t here some gone =
    let more = takes_more d e e' is js p z t here some gone in
    omega (arith, length-append js (z ∷ []), once_short (js ++ z ∷ []) (length (meetings_on d)) more.out.once (λ i h. omega (arith, (more.out.out i h).0, ap length more.board.meetings)))

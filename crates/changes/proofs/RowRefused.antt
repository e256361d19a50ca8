-- A row is refused for the first change that cannot be made, and its bytes for the first of them that say none. Assumes nothing.
use Rattle.std.proofs.Common.{◌≡◌, ℕ, zero, suc, ◌+◌, ◌<◌, Bool, true, false, cond, List, [], ◌∷◌, ◌++◌, length, drop, sym, refl, ap, ◌∙◌, ⊎_elim, append_assoc, arith}
use Rattle.std.proofs.lemmas.List.{length-append}
use Rattle.std.proofs.lemmas.Bool.{cases_lt, le-leb, lt-leb}
use Rattle.meetings.specs.Refusals.{Outcome, accepted, refused, then}
use Rattle.meetings.specs.RoundTrips.{AllBytes}
use Rattle.meetings.proofs.Outcomes.{never_accepted}
use Rattle.changes.specs.declared.change.Change.{Change}
use Rattle.changes.specs.Bytes.{bytes_of_change, bytes_of_changes, changes_at, next_at, width_of}
use Rattle.changes.specs.Numbered.{Numbered, can, changed, rounds_for, tested}
use Rattle.changes.specs.Rows.{CanAll, FirstThatCannot, ReadAsFirst, RefusedAsFirst, changed_all}
use Rattle.changes.proofs.RowAccepted.{change_accepted, next_accepted}

-- a change that cannot be made, behind one that can
first_after : (v : Numbered) (c : Change) (cs : List Change) (p : ℕ) → can v c ≡ true → FirstThatCannot (changed v c) cs p → FirstThatCannot v (c ∷ cs) (p + 1)
first_after v c cs p may first = record {
  came = c ∷ first.came;
  one = first.one;
  rest = first.rest;
  row = ap (λ l. c ∷ l) first.row;
  place = omega (arith, first.place);
  before = (may, first.before);
  cannot = first.cannot;
}

first_refused : (b : Bool) (v : Numbered) (c : Change) (cs : List Change) (i number place : ℕ) (o : Outcome (Numbered × List ℕ)) → can v c ≡ b → (o ≡ refused number place → (number ≡ 6) × ((p : ℕ) × (place ≡ i + 1 + p) × FirstThatCannot (changed v c) cs p)) → cond b o (refused 6 i) ≡ refused number place → (number ≡ 6) × ((p : ℕ) × (place ≡ i + p) × FirstThatCannot v (c ∷ cs) p)
first_refused true v c cs i number place o may rest e =
    let first = rest e in
    (first.0, (first.1.0 + 1, omega (arith, first.1.1), first_after v c cs first.1.0 may first.1.2))
first_refused false v c cs i number place o may rest e =
    let six : number ≡ 6 = cc e in
    let here : place ≡ i + 0 = let at : place ≡ i = cc e in omega (arith, at) in
    (six, (0, here, record { came = []; one = c; rest = cs; row = refl; place = refl; before = tt; cannot = may }))

-- A ROW IS REFUSED for the first change that cannot be made
pub refused_as_first : RefusedAsFirst
refused_as_first v [] i rs number place e = absurd (never_accepted (sym e))
refused_as_first v (c ∷ cs) i rs number place e =
    first_refused (can v c) v c cs i number place (tested (changed v c) cs (i + 1) (rs ++ rounds_for (changed v c) ∷ [])) refl
    (refused_as_first (changed v c) cs (i + 1) (rs ++ rounds_for (changed v c) ∷ []) number place) e

-- the bytes from one place on, where they are refused: changes that can be made, and then what says none
record Stopped (v : Numbered) (bs : List ℕ) (at z number place : ℕ) : Type 0 where
  pub more : List Change
  pub before : CanAll v more
  pub bytes : drop at bs ≡ bytes_of_changes more ++ drop (at + length (bytes_of_changes more)) bs
  pub here : at + length (bytes_of_changes more) < length bs
  pub next : next_at (changed_all v more) bs (at + length (bytes_of_changes more)) (z + length more) ≡ refused number place

stopped_here : (v : Numbered) (bs : List ℕ) (at z number place : ℕ) → at < length bs → next_at v bs at z ≡ refused number place → Stopped v bs at z number place
stopped_here v bs at z number place here e =
    let no_more : at + 0 ≡ at = omega arith in
    let no_change : z + 0 ≡ z = omega arith in
    record {
      more = [];
      before = tt;
      bytes = ap (λ p. drop p bs) (sym no_more);
      here = omega (arith, here);
      next = rw (no_more, no_change) e;
    }

stopped_later : (v : Numbered) (bs : List ℕ) (at z number place : ℕ) (c : Change) → can v c ≡ true → drop at bs ≡ bytes_of_change c ++ drop (at + width_of c) bs → Stopped (changed v c) bs (at + width_of c) (z + 1) number place → Stopped v bs at z number place
stopped_later v bs at z number place c may stood later =
    let far : at + length (bytes_of_changes (c ∷ later.more)) ≡ at + width_of c + length (bytes_of_changes later.more) = omega (arith, length-append (bytes_of_change c) (bytes_of_changes later.more)) in
    let nth : z + length (c ∷ later.more) ≡ z + 1 + length later.more = omega arith in
    record {
      more = c ∷ later.more;
      before = (may, later.before);
      bytes = rw far (stood ∙ ap (λ l. bytes_of_change c ++ l) later.bytes ∙ sym (append_assoc (bytes_of_change c) (bytes_of_changes later.more) (drop (at + width_of c + length (bytes_of_changes later.more)) bs)));
      here = omega (arith, far, later.here);
      next = rw (far, nth) later.next;
    }

-- what is refused in two steps
then_refused : {S T : Type 0} (o : Outcome S) (next : S → Outcome T) (number place : ℕ) (P : Type 0) → (o ≡ refused number place → P) → ((x : S) → o ≡ accepted x → next x ≡ refused number place → P) → then o next ≡ refused number place → P
then_refused (accepted x) next number place P first second e = second x refl e
then_refused (refused n p) next number place P first second e =
    let same_number : n ≡ number = cc e in
    let same_place : p ≡ place = cc e in
    first (rw (same_number, same_place) refl)

changes_stopped : (left : ℕ) (v : Numbered) (bs : List ℕ) (at : ℕ) (came : List Change) (number place : ℕ) → AllBytes bs → changes_at v bs left at came ≡ refused number place → Stopped v bs at (length came) number place
changes_stopped zero v bs at came number place byte e = absurd (never_accepted (sym e))
changes_stopped (suc left) v bs at came number place byte e =
    ⊎_elim
    (λ here.
    then_refused (next_at v bs at (length came)) (λ c. changes_at (changed v c) bs left (at + width_of c) (came ++ c ∷ [])) number place (Stopped v bs at (length came) number place)
    (λ e. stopped_here v bs at (length came) number place here e)
    (λ c one e.
    let next = next_accepted v bs at (length came) c one in
    let more = changes_stopped left (changed v c) bs (at + width_of c) (came ++ c ∷ []) number place byte e in
    let longer : length (came ++ c ∷ []) ≡ length came + 1 = length-append came (c ∷ []) in
    stopped_later v bs at (length came) number place c next.1 (change_accepted bs at byte here v.list.groups v.list.stations (length came) c next.0) (rw longer at more))
    (rw (lt-leb (length bs) at here) at e))
    (λ ends. absurd (never_accepted (sym (rw (le-leb (length bs) at ends) at e))))
    (cases_lt at (length bs))

-- BYTES ARE REFUSED for the first of them that say no change that can be made
pub read_as_first : ReadAsFirst
read_as_first v bs number place byte e =
    let stopped = changes_stopped (length bs) v bs 0 [] number place byte e in
    let from_start : 0 + length (bytes_of_changes stopped.more) ≡ length (bytes_of_changes stopped.more) = omega arith in
    let nth : length {A = Change} [] + length stopped.more ≡ length stopped.more = omega arith in
    record {
      came = stopped.more;
      before = stopped.before;
      bytes = rw from_start at stopped.bytes;
      here = rw from_start at stopped.here;
      next = rw (from_start, nth) at stopped.next;
    }

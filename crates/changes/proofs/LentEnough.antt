-- Slices that are lent for 4,000 numbers and as many rounds are never too short: a row of changes gives out no more numbers, and no
-- day has more rounds than meetings. Assumes nothing.
use Rattle.std.proofs.Common.{◌≡◌, ℕ, ◌+◌, ◌*◌, ◌≤◌, max, Bool, true, false, cond, List, [], ◌∷◌, ◌++◌, length, refl, ap, ◌∙◌, mul-le-mul_left, arith}
use Rattle.std.proofs.lemmas.List.{length-replicate}
use Rattle.std.proofs.lemmas.Nat.{le-div}
use Rattle.meetings.specs.Lists.{Contents, Proper, most_meetings}
use Rattle.meetings.specs.Refusals.{Outcome, accepted, refused, then}
use Rattle.fewest.specs.Plans.{none}
use Rattle.fewest.specs.Rounds.{fewest, largest}
use Rattle.chains.specs.Shapes.{width}
use Rattle.chains.proofs.Fitting.{fitting_accepted}
use Rattle.balance.proofs.LentEnough.{fewest_below}
use Rattle.changes.specs.declared.change.Change.{Change}
use Rattle.changes.specs.Days.{first_day}
use Rattle.changes.specs.Numbered.{Numbered, can, changed, rounds_for, tested, whole}
use Rattle.changes.specs.Told.{answer_of, told}
use Rattle.changes.proofs.Left.{rounds_below}
use Rattle.changes.proofs.LeftChanged.{long_changed}
use Rattle.changes.proofs.ProperAfter.{groups_kept, proper_after, stations_kept}

largest_pushed : (m : ℕ) (xs : List ℕ) (x : ℕ) → largest xs ≤ m → x ≤ m → largest (xs ++ x ∷ []) ≤ m
largest_pushed m [] x h new = omega arith
largest_pushed m (y ∷ xs) x h new = let rest = largest_pushed m xs x (omega arith) new in omega arith

-- what a row comes to, for so many groups and stations: no number of meetings or of rounds is above the most meetings
record Few (n k : ℕ) (t : Numbered × List ℕ) : Type 0 where
  pub groups : t.0.list.groups ≡ n
  pub stations : t.0.list.stations ≡ k
  pub numbers : length t.0.list.meetings ≤ most_meetings
  pub rounds : largest t.1 ≤ most_meetings

tested_few : (v : Numbered) (cs : List Change) (i : ℕ) (rs : List ℕ) → length v.there ≡ length v.list.meetings → Proper v.list → largest rs ≤ most_meetings → (t : Numbered × List ℕ) → tested v cs i rs ≡ accepted t → Few v.list.groups v.list.stations t
tested_few v [] i rs long proper few t e =
    let same : t ≡ (v, rs) = cc in
    rw same (record { groups = refl; stations = refl; numbers = proper.few; rounds = few })
tested_few v (c ∷ cs) i rs long proper few t e =
    made (can v c) refl (λ may.
    let proper' = proper_after v c proper may in
    let long' = long_changed v long c in
    let below = rounds_below (changed v c) long' proper' in
    tested_few (changed v c) cs (i + 1) next long' proper' (largest_pushed most_meetings rs (rounds_for (changed v c)) few (omega (arith, below, proper'.few))) t) e
  where
    next : List ℕ
    next = rs ++ rounds_for (changed v c) ∷ []

    kept : Few (changed v c).list.groups (changed v c).list.stations t → Few v.list.groups v.list.stations t
    kept rest = record {
      groups = rest.groups ∙ groups_kept v.list c;
      stations = rest.stations ∙ stations_kept v.list c;
      numbers = rest.numbers;
      rounds = rest.rounds;
    }

    made : (b : Bool) → can v c ≡ b → (can v c ≡ true → tested (changed v c) cs (i + 1) next ≡ accepted t → Few (changed v c).list.groups (changed v c).list.stations t) → cond b (tested (changed v c) cs (i + 1) next) (refused 6 i) ≡ accepted t → Few v.list.groups v.list.stations t
    made true may rest e = kept (rest may e)
    made false may rest e = absurd (let z : ◌≡◌ {A = ℕ} 0 1 = cc in omega arith)

wide_enough : (n r long : ℕ) → 1 ≤ n → r ≤ none → n * r ≤ long → r ≤ width n long
wide_enough n r long some few enough = let whole = le-div r long n some (omega arith) in omega arith

pub then_same : {S T : Type 0} (o : Outcome S) (f g : S → Outcome T) → ((x : S) → o ≡ accepted x → f x ≡ g x) → then o f ≡ then o g
then_same (accepted x) f g h = h x refl
then_same (refused number place) f g h = refl

-- SLICES SO LONG are refused for no row: only a change that cannot be made is
pub lent_enough : (d : Contents) (cs : List Change) (long_rounds long_groups long_stations : ℕ) → Proper d → most_meetings ≤ long_rounds → d.groups * most_meetings ≤ long_groups → d.stations * most_meetings ≤ long_stations → answer_of d cs long_rounds long_groups long_stations ≡ then (tested (whole d) cs 0 []) (λ t. accepted (told (first_day d) cs))
lent_enough d cs lr lg ls proper er eg es =
    then_same (tested (whole d) cs 0 []) _ _ (λ t is.
    let few = tested_few (whole d) cs 0 [] (length-replicate (length d.meetings) true) proper (omega arith) t is in
    let rounds = max (fewest d) (largest t.1) in
    let most : rounds ≤ most_meetings = omega (arith, fewest_below d proper, proper.few, few.rounds) in
    ap
    (λ o. then o (λ z. accepted (told (first_day d) cs)))
    (fitting_accepted t.0.list rounds lr lg ls (omega (arith, few.numbers))
    (rw few.groups (wide d.groups rounds lg proper.groups_within.0 most eg))
    (rw few.stations (wide d.stations rounds ls proper.stations_within.0 most es))))
  where
    wide : (n r long : ℕ) → 1 ≤ n → r ≤ most_meetings → n * most_meetings ≤ long → r ≤ width n long
    wide n r long some most enough = wide_enough n r long some (omega arith) (omega (arith, mul-le-mul_left n most))

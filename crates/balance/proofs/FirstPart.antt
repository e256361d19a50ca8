-- There is a part with one more meeting in the fuller of two rounds, and looking finds the first: if all parts were passed over,
-- their meetings would be all of the two rounds, with no more in the fuller than in the other. Assumes nothing.
use Rattle.std.proofs.Common.{◌≡◌, ℕ, suc, ◌<◌, ◌≤◌, Bool, true, false, ◌&&◌, eqb, ◌==◌, List, length, ◌++◌, ◌↔◌, sym, refl, ap, ◌∙◌, ⊎_elim, arith}
use Rattle.std.proofs.lemmas.Bool.{both_ways, cases_lt, or_left, or_right}
use Rattle.meetings.specs.declared.numbers.Meeting.{Meeting}
use Rattle.fewest.specs.Counting.{count}
use Rattle.fewest.specs.Plans.{none, in_round}
use Rattle.fewest.proofs.Counting.{count_ext, count_places}
use Rattle.chains.specs.Chains.{Two, two, in_two, Sound, Linked, holds}
use Rattle.chains.specs.Partial.{Partial, round_of}
use Rattle.chains.specs.Statements.{in_part, PartOf}
use Rattle.chains.proofs.Exchange.{two_sound}
use Rattle.chains.proofs.Members.{append_cases, count_members}
use Rattle.balance.specs.Looking.{Looked, look}
use Rattle.balance.specs.Statements.{OneMore, PartWithOneMore, FirstPart, FindsFirst}
use Rattle.balance.proofs.Looking.{looked_at}
use Rattle.balance.proofs.Passed.{Passed, Taken, ended, in_front, in_back}
use Rattle.balance.proofs.SamePart.{linked_on, same_numbers}

-- where all parts of the two rounds were passed over, they have all meetings of each
whole_round : (t : Two) (c : ℕ) (is : List ℕ) → Passed t t.many is → ((j : ℕ) → eqb (t.round j) c ≡ true → in_two t j ≡ true) → in_part t c is ≡ count (λ i. t.round i == c) t.many
whole_round t c is all of_two =
    count_members (λ j. eqb (t.round j) c) is t.many all.once (λ j h. (all.within j h).0)
    ∙ count_ext (λ j. holds is j && eqb (t.round j) c) (λ j. eqb (t.round j) c) t.many (λ j l. same (holds is j) (eqb (t.round j) c) (λ e. all.below j l (of_two j e)))
  where
    same : (x y : Bool) → (y ≡ true → x ≡ true) → (x && y) ≡ y
    same true y f = refl
    same false true f = f refl
    same false false f = refl

not_all : (t : Two) (is : List ℕ) → Passed t t.many is → count (λ i. t.round i == t.b) t.many < count (λ i. t.round i == t.a) t.many → ⊥
not_all t is all fuller =
    let in_a = whole_round t t.a is all (λ j e. or_left (eqb (t.round j) t.a) (eqb (t.round j) t.b) e) in
    let in_b = whole_round t t.b is all (λ j e. or_right (eqb (t.round j) t.a) (eqb (t.round j) t.b) e) in
    omega (arith, all.not_fuller)

-- what was taken is the first part with one more
module _ (t : Two) (l : Looked) (i : ℕ) (taken : Taken t l i) where
  -- each lower meeting of the two rounds is in a part passed over
  is_lowest : (j : ℕ) → holds l.taken j ≡ true → i ≤ j
  is_lowest j h =
      ⊎_elim
      (λ lower. absurd (both_ways (holds l.passed j) (taken.new j h) (taken.before.below j lower (taken.whole.within j h).1)))
      (λ le. le)
      (cases_lt j i)

  -- a part that has a lower meeting was passed over, and no such part has one more
  is_first : (j : ℕ) (js : List ℕ) → PartOf t j js → OneMore t js → (k : ℕ) → holds js k ≡ true → i ≤ k
  is_first j js whole more k h =
      ⊎_elim
      (λ lower.
      let p = taken.before.passable k (taken.before.below k lower (whole.within k h).1) in
      let same = same_numbers t p.start j k p.members js p.whole whole p.there h in
      absurd (p.not_one_more (same t.a ∙ more ∙ ap suc (sym (same t.b)))))
      (λ le. le)
      (cases_lt k i)

  -- the meetings of the parts looked at are those to which one comes from meeting i or a lower one
  are_looked_at : (j : ℕ) → (holds (l.passed ++ l.taken) j ≡ true) ↔ ((k : ℕ) × (k ≤ i) × (in_two t k ≡ true) × Linked t k j)
  are_looked_at j = (
    λ h. ⊎_elim
        (λ old. let from = taken.before.linked j old in (from.0, omega (arith, from.1), from.2, from.3))
        (λ new. (i, omega arith, (taken.whole.within i taken.whole.starts).1, taken.whole.linked j new))
        (append_cases l.passed l.taken j h),
    λ from. ⊎_elim
        (λ lower. in_front l.passed l.taken j (linked_on t (holds l.passed) taken.before.closed from.0 j from.3 (taken.before.below from.0 lower from.2)))
        (λ le.
        let here : from.0 ≡ i = omega (arith, from.1) in
        in_back l.passed l.taken j (linked_on t (holds l.taken) taken.whole.closed from.0 j from.3 (ap (holds l.taken) here ∙ taken.whole.starts)))
        (cases_lt from.0 i),
  )

first_part : (t : Two) → Sound t → count (λ i. t.round i == t.b) t.many < count (λ i. t.round i == t.a) t.many → (i : ℕ) × FirstPart t (look t) i
first_part t sound fuller =
    ⊎_elim
    (λ found.
    let p = found.1 in (
      found.0,
      record {
        whole = p.whole;
        one_more = p.more;
        lowest = is_lowest t (look t) found.0 p;
        first = is_first t (look t) found.0 p;
        once = (looked_at t sound).once;
        looked_at = are_looked_at t (look t) found.0 p;
      },
    ))
    (λ all. absurd (not_all t (look t).passed all.0 fuller))
    (ended t sound)

-- a round has as many in the list of rounds as among the meetings
pub count_round : (r : ℕ) (ms : List Meeting) (xs : List ℕ) (c : ℕ) → Partial r ms xs → in_round c xs ≡ count (λ i. round_of xs i == c) (length ms)
count_round r ms xs c plan = count_places (λ x. eqb x c) xs none ∙ ap (count (λ i. eqb (round_of xs i) c)) plan.each

pub finds_first : FindsFirst
finds_first r ms xs a b le few plan la lb fuller =
    let in_a = count_round r ms xs a plan in
    let in_b = count_round r ms xs b plan in
    let differ : a ≡ b → ⊥ = λ e. omega (arith, ap (λ c. in_round c xs) e) in
    first_part (two ms xs a b) (two_sound r ms xs a b few la lb differ plan) (omega arith)

pub part_with_one_more : PartWithOneMore
part_with_one_more r ms xs a b le few plan la lb fuller =
    let found = finds_first r ms xs a b le few plan la lb fuller in
    (found.0, (look (two ms xs a b)).taken, found.1.whole, found.1.one_more)

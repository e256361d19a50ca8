-- A partial plan that is even is all that a day asks for: the marked meetings are those that have a round, so their rounds are a
-- plan; for these so many rounds are the fewest, so they have rooms enough, and even rounds use no more. Assumes nothing.
use Rattle.std.proofs.Common.{◌≡◌, ℕ, ◌<◌, ◌≤◌, ◌⊎◌, true, false, eqb, ltb, not, inl, inr, length, get_or, sym, refl, ap, ◌∙◌, ⊎_elim, arith}
use Rattle.std.proofs.Math.ListN.{get_or-map}
use Rattle.std.proofs.lemmas.List.{length-map}
use Rattle.std.proofs.lemmas.Bool.{both_ways, cases_lt, eq-eqb, le-ltb, ne_eqb}
use Rattle.meetings.specs.Lists.{Proper, nobody, party}
use Rattle.fewest.specs.Counting.{total, count, one_if}
use Rattle.fewest.specs.Plans.{none, Plan}
use Rattle.fewest.proofs.Counting.{by_rounds, one_most, total_ext, total_le}
use Rattle.fewest.proofs.NoFewer.{fewest_suffices, no_fewer_said}
use Rattle.chains.specs.Partial.{Partial, round_of}
use Rattle.balance.specs.Sizes.{size}
use Rattle.balance.specs.Statements.{Evened}
use Rattle.balance.proofs.Far.{even_within}
use Rattle.balance.proofs.FirstPart.{count_round}
use Rattle.changes.specs.Days.{Day, Stands, has_round, numbered, rounds_of}
use Rattle.changes.specs.Numbered.{left, those}
use Rattle.changes.proofs.Left.{left_proper, place, place_once, rounds_few, those_at, those_many}

-- a round that there is, is none of those that stand for no round
pub round_has : (x : ℕ) → has_round x ≡ true → x ≡ none → ⊥
round_has x h e = both_ways (has_round x) (ap not (eq-eqb x none e)) h

pub has_round_if : (x : ℕ) → (x ≡ none → ⊥) → has_round x ≡ true
has_round_if x some = ap not (ne_eqb x none some)

pub has_round_below : (x r : ℕ) → r ≤ none → x < r → has_round x ≡ true
has_round_below x r le h = has_round_if x (λ e. omega arith)

-- there is a mark for each meeting that has a round
pub marked_long : (d : Day) → length d.at ≡ length d.list.meetings → length (numbered d).there ≡ length d.list.meetings
marked_long d each = length-map d.at has_round ∙ each

pub marked_is : (d : Day) (i : ℕ) → get_or (numbered d).there i false ≡ has_round (round_of d.at i)
marked_is d i = get_or-map has_round d.at i none

module _ (d : Day) (r : ℕ) (part : Partial r d.list.meetings d.at) where
  -- the i-th of those that have a round
  record There (i : ℕ) : Type 0 where
    pub here : place (numbered d).there i < length d.list.meetings
    pub meeting : get_or (left (numbered d)).meetings i nobody ≡ get_or d.list.meetings (place (numbered d).there i) nobody
    pub round : round_of (those (numbered d).there d.at) i ≡ round_of d.at (place (numbered d).there i)
    pub below : round_of d.at (place (numbered d).there i) < r

  same_many : length (those (numbered d).there d.at) ≡ length (left (numbered d)).meetings
  same_many =
      those_many (numbered d).there d.at (length-map d.at has_round)
      ∙ ap (count (λ i. get_or (numbered d).there i false)) part.each
      ∙ sym (those_many (numbered d).there d.list.meetings (marked_long d part.each))

  there_at : (i : ℕ) → i < length (left (numbered d)).meetings → There i
  there_at i h =
      let one = those_at (numbered d).there d.list.meetings nobody i h in
      let other = those_at (numbered d).there d.at none i (omega (arith, same_many)) in
      let has = sym (marked_is d (place (numbered d).there i)) ∙ one.marked in
      record {
        here = one.here;
        meeting = one.is;
        round = other.is;
        below = ⊎_elim (λ out. absurd (round_has _ has out)) (λ below. below) (part.round (place (numbered d).there i) one.here);
      }

  -- their rounds are a plan
  pub left_plan : Plan r (left (numbered d)).meetings (those (numbered d).there d.at)
  left_plan = record {
    each = same_many;
    round = λ i h. let at = there_at i h in omega (arith, at.round, at.below);
    apart = λ s i j hi hj l e p.
        let one = there_at i hi in
        let other = there_at j hj in
        place_once (numbered d).there i j
        (part.apart s (place (numbered d).there i) (place (numbered d).there j) one.here other.here one.below (sym one.round ∙ e ∙ other.round)
        (ap (party s) (sym one.meeting) ∙ p ∙ ap (party s) other.meeting));
  }

  -- all rounds together have no more meetings than there are
  sizes_left : r ≤ none → total (size d.at) r ≤ length (left (numbered d)).meetings
  sizes_left le =
      let each = total_ext (size d.at) (λ c. count (λ i. eqb (round_of d.at i) c) (length d.list.meetings)) r (λ c h. count_round r d.list.meetings d.at c part) in
      let by = by_rounds (λ i. true) (round_of d.at) (length d.list.meetings) r in
      let most = total_le (λ i. one_if (ltb (round_of d.at i) r)) (λ i. one_if (get_or (numbered d).there i false)) (length d.list.meetings) (λ i h. has i (cases_lt (round_of d.at i) r)) in
      omega (arith, those_many (numbered d).there d.list.meetings (marked_long d part.each))
    where
      has : (i : ℕ) → (round_of d.at i < r) ⊎ (r ≤ round_of d.at i) → one_if (ltb (round_of d.at i) r) ≤ one_if (get_or (numbered d).there i false)
      has i (inl below) = let e = marked_is d i ∙ has_round_below _ _ le below in rw e (one_most (ltb (round_of d.at i) r))
      has i (inr past) = rw (le-ltb _ _ past) (omega arith)

-- A DAY THAT STANDS
pub stands_from : (d : Day) → Proper d.list → Partial (rounds_of d) d.list.meetings d.at → Evened (rounds_of d) d.at → Stands d
stands_from d proper part even =
    let proper_left = left_proper (numbered d) (marked_long d part.each) proper in
    let le = rounds_few (numbered d) (marked_long d part.each) proper in
    let enough = (fewest_suffices (left (numbered d)) proper.rooms_within.0).1 in
    record {
      proper = proper;
      partial = part;
      plan = left_plan d (rounds_of d) part;
      within = even_within (rounds_of d) d.list.rooms (size d.at) even (omega (arith, sizes_left d (rounds_of d) part le, enough));
      even = even;
      no_fewer = no_fewer_said (left (numbered d)) (rounds_of d) proper.rooms_within.0 refl;
    }

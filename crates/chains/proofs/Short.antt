-- A part of the meetings of n groups and k stations has n + k at most: in one round its meetings have different groups, in the
-- other different stations. Assumes nothing.
use Rattle.std.proofs.Common.{◌≡◌, ℕ, ◌+◌, ◌<◌, ◌≤◌, Bool, true, ◌&&◌, ◌||◌, eqb, List, [], ◌∷◌, length, sym, ◌∙◌, arith}
use Rattle.std.proofs.lemmas.List.Sums.{sum_by-cons}
use Rattle.std.proofs.lemmas.Bool.{and_parts, eqb-true}
use Rattle.std.proofs.lemmas.Bool.Decides.{nat_tests}
use Rattle.meetings.specs.declared.numbers.Side.{Side}
use Rattle.meetings.specs.declared.numbers.Side.TheVariants.{Groups, Stations}
use Rattle.fewest.specs.Counting.{one_if}
use Rattle.fewest.proofs.Counting.{count_one}
use Rattle.fewest.proofs.NoFewer.{in_all_rounds}
use Rattle.chains.specs.Chains.{Two, in_two, Sound, holds}
use Rattle.chains.specs.Statements.{in_part, PartOf, Short}
use Rattle.chains.proofs.Members.{count_members, first_held, rest_held}

-- each meeting is in one of the two rounds
pub in_either : (t : Two) (is : List ℕ) → ((j : ℕ) → holds is j ≡ true → in_two t j ≡ true) → length is ≤ in_part t t.a is + in_part t t.b is
in_either t [] within = omega arith
in_either t (z ∷ zs) within =
    let ih = in_either t zs (λ j h. within j (rest_held z zs j h)) in
    let in_a = sum_by-cons (λ j. one_if (eqb (t.round j) t.a)) z zs in
    let in_b = sum_by-cons (λ j. one_if (eqb (t.round j) t.b)) z zs in
    let here = one_of (eqb (t.round z) t.a) (eqb (t.round z) t.b) (within z (first_held z zs)) in
    omega arith
  where
    one_of : (x y : Bool) → (x || y) ≡ true → 1 ≤ one_if x + one_if y
    one_of x y h = grind (arith, nat_tests)

-- a part has at most as many meetings in a round as there are parties on either side
pub parties_bound : (t : Two) (s : Side) (c n i : ℕ) (is : List ℕ) → Sound t → ((j : ℕ) → j < t.many → t.party s j < n) → PartOf t i is → in_part t c is ≤ n
parties_bound t s c n i is sound bound whole =
    let counted = count_members (λ j. eqb (t.round j) c) is t.many whole.once (λ j h. (whole.within j h).0) in
    let most = in_all_rounds (λ j. holds is j && eqb (t.round j) c) (t.party s) t.many n 1 bound (λ p h. count_one (λ j. (holds is j && eqb (t.round j) c) && eqb (t.party s j) p) t.many (same p)) in
    omega arith
  where
    same : (p j k : ℕ) → j < t.many → k < t.many → ((holds is j && eqb (t.round j) c) && eqb (t.party s j) p) ≡ true → ((holds is k && eqb (t.round k) c) && eqb (t.party s k) p) ≡ true → j ≡ k
    same p j k hj hk one two =
        let u = and_parts (holds is j && eqb (t.round j) c) (eqb (t.party s j) p) one in
        let v = and_parts (holds is k && eqb (t.round k) c) (eqb (t.party s k) p) two in
        let x = and_parts (holds is j) (eqb (t.round j) c) u.0 in
        let y = and_parts (holds is k) (eqb (t.round k) c) v.0 in
        sound.apart s j k hj hk (whole.within j x.0).1 (eqb-true _ _ x.1 ∙ sym (eqb-true _ _ y.1)) (eqb-true _ _ u.1 ∙ sym (eqb-true _ _ v.1))

pub short : Short
short t n k i is sound bounds whole =
    let either = in_either t is (λ j h. (whole.within j h).1) in
    let groups = parties_bound t Groups t.a n i is sound (λ j h. (bounds j h).0) whole in
    let stations = parties_bound t Stations t.b k i is sound (λ j h. (bounds j h).1) whole in
    omega arith

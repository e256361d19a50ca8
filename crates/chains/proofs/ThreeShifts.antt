-- An exchange in three steps: the members in a get none, those in b get a, those without a round get b. At each step the members
-- can move, since the set is closed. Assumes nothing.
use Rattle.std.proofs.Common.{◌≡◌, ℕ, ◌<◌, Bool, true, false, ◌||◌, eqb, List, length, sym, refl, ap, ◌∙◌, arith}
use Rattle.std.proofs.lemmas.List.FromFn.{fill_by_all}
use Rattle.std.proofs.lemmas.Bool.{both_ways}
use Rattle.std.proofs.lemmas.Bool.Decides.{nat_tests}
use Rattle.meetings.specs.declared.numbers.Meeting.{Meeting}
use Rattle.meetings.specs.declared.numbers.Side.{Side}
use Rattle.meetings.specs.declared.numbers.Side.TheVariants.{Groups, Stations}
use Rattle.fewest.specs.Plans.{none}
use Rattle.chains.specs.declared.shapes.Shape.{Shape}
use Rattle.chains.specs.Rows.{Holds, WithinRows}
use Rattle.chains.specs.Chains.{two, in_two, holds}
use Rattle.chains.specs.Exchanges.{Exchangeable, Movable, exchanged, shifted}
use Rattle.chains.specs.Partial.{round_of, party_of}
use Rattle.chains.proofs.Exchange.{moved}
use Rattle.chains.proofs.Shifts.{given, shifted_long, shifted_round}

-- on a board no party has two meetings in a round
pub board_apart : (ms : List Meeting) (z : Shape) (xs gs ss : List ℕ) → Holds ms z xs gs ss → (s : Side) (i j c : ℕ) → i < length ms → j < length ms → WithinRows z c → round_of xs i ≡ c → round_of xs j ≡ c → party_of ms s i ≡ party_of ms s j → i ≡ j
board_apart ms z xs gs ss b Groups i j c hi hj w e f p =
    let row = b.groups.entries (party_of ms Groups j) c (b.groups.parties j hj) w.0 in row.only i hi p e ∙ sym (row.only j hj refl f)
board_apart ms z xs gs ss b Stations i j c hi hj w e f p =
    let row = b.stations.entries (party_of ms Stations j) c (b.stations.parties j hj) w.1 in row.only i hi p e ∙ sym (row.only j hj refl f)

-- the round of one meeting after one, two and three steps: m says whether it is a member, c is its round before
abbrev after_one : ℕ → Bool → ℕ → ℕ
after_one a m c = given a none m c

abbrev after_two : ℕ → ℕ → Bool → ℕ → ℕ
after_two a b m c = given b a m (after_one a m c)

abbrev after_three : ℕ → ℕ → Bool → ℕ → ℕ
after_three a b m c = given none b m (after_two a b m c)

module _ (a b : ℕ) (differ : a ≡ b → ⊥) (la : a < none) (lb : b < none) where
  one_b : (m : Bool) (c : ℕ) → after_one a m c ≡ b → c ≡ b
  one_b true c e = grind (arith, nat_tests)
  one_b false c e = grind (arith, nat_tests)

  one_a : (m : Bool) (c : ℕ) → after_one a m c ≡ a → (m ≡ false) × (c ≡ a)
  one_a true c e = absurd (let z : ◌≡◌ {A = ℕ} 0 1 = grind (arith, nat_tests) in omega arith)
  one_a false c e = (refl, grind (arith, nat_tests))

  two_none : (c : ℕ) → (eqb c a || eqb c b) ≡ true → after_two a b true c ≡ none → c ≡ a
  two_none c there e = grind (arith, nat_tests)

  two_b : (m : Bool) (c : ℕ) → after_two a b m c ≡ b → (m ≡ false) × (c ≡ b)
  two_b true c e = absurd (let z : ◌≡◌ {A = ℕ} 0 1 = grind (arith, nat_tests) in omega arith)
  two_b false c e = (refl, grind (arith, nat_tests))

  all_three : (m : Bool) (c : ℕ) → (m ≡ true → (eqb c a || eqb c b) ≡ true) → after_three a b m c ≡ moved a b m c
  all_three true c there = let t = there refl in grind (arith, nat_tests)
  all_three false c there = grind (arith, nat_tests)

module _ (ms : List Meeting) (z : Shape) (xs gs ss is : List ℕ) (a b : ℕ) (board : Holds ms z xs gs ss) (e : Exchangeable ms z xs is a b) where
  la : a < none
  la = omega (arith, e.one.0, board.groups.narrow)

  lb : b < none
  lb = omega (arith, e.other.0, board.groups.narrow)

  -- the meetings that share a party with a member and are in the two rounds are members
  closed_in : (s : Side) (i j : ℕ) → holds is i ≡ true → j < length ms → in_two (two ms xs a b) j ≡ true → party_of ms s j ≡ party_of ms s i → holds is j ≡ true
  closed_in s i j member hj there p =
      let w = e.within i member in
      e.closed i j (record { one = w.0; other = hj; one_in = w.1; other_in = there; shared = (s, sym p) }) member

  in_a : (c : ℕ) → c ≡ a → (eqb c a || eqb c b) ≡ true
  in_a c f = grind (arith, nat_tests)

  in_b : (c : ℕ) → c ≡ b → (eqb c a || eqb c b) ≡ true
  in_b c f = grind (arith, nat_tests)

  pub movable_out : Movable ms xs is a none
  movable_out = record {
    below = λ i m. (e.within i m).0;
    apart = λ s i j mi mj. board_apart ms z xs gs ss board s i j a (e.within i mi).0 (e.within j mj).0 e.one;
    vacant = λ some. absurd (some refl);
  }

  module _ (ys : List ℕ) (first : ys ≡ shifted a none is xs) where
    at_one : (j : ℕ) → j < length ms → round_of ys j ≡ after_one a (holds is j) (round_of xs j)
    at_one j h = ap (λ l. round_of l j) first ∙ shifted_round a none is xs j (omega (arith, board.each))

    pub movable_on : Movable ms ys is b a
    movable_on = record {
      below = λ i m. (e.within i m).0;
      apart = λ s i j mi mj fi fj. board_apart ms z xs gs ss board s i j b (e.within i mi).0 (e.within j mj).0 e.other (was i (e.within i mi).0 fi) (was j (e.within j mj).0 fj);
      vacant = λ some s i j mi fi hj p fj.
          let there = one_a a b e.different la lb (holds is j) (round_of xs j) (sym (at_one j hj) ∙ fj) in
          both_ways (holds is j) there.0 (closed_in s i j mi hj (in_a (round_of xs j) there.1) p);
    }
      where
        was : (i : ℕ) → i < length ms → round_of ys i ≡ b → round_of xs i ≡ b
        was i h f = one_b a b e.different la lb (holds is i) (round_of xs i) (sym (at_one i h) ∙ f)

    module _ (ws : List ℕ) (second : ws ≡ shifted b a is ys) where
      long_one : length ys ≡ length ms
      long_one = ap length first ∙ shifted_long a none is xs ∙ board.each

      at_two : (j : ℕ) → j < length ms → round_of ws j ≡ after_two a b (holds is j) (round_of xs j)
      at_two j h = ap (λ l. round_of l j) second ∙ shifted_round b a is ys j (omega (arith, long_one)) ∙ ap (given b a (holds is j)) (at_one j h)

      pub movable_back : Movable ms ws is none b
      movable_back = record {
        below = λ i m. (e.within i m).0;
        apart = λ s i j mi mj fi fj. board_apart ms z xs gs ss board s i j a (e.within i mi).0 (e.within j mj).0 e.one (was i mi fi) (was j mj fj);
        vacant = λ some s i j mi fi hj p fj.
            let there = two_b a b e.different la lb (holds is j) (round_of xs j) (sym (at_two j hj) ∙ fj) in
            both_ways (holds is j) there.0 (closed_in s i j mi hj (in_b (round_of xs j) there.1) p);
      }
        where
          was : (i : ℕ) → holds is i ≡ true → round_of ws i ≡ none → round_of xs i ≡ a
          was i m f = two_none a b e.different la lb (round_of xs i) (e.within i m).1 (ap (λ h. after_two a b h (round_of xs i)) (sym m) ∙ sym (at_two i (e.within i m).0) ∙ f)

      pub three_shifts : shifted none b is ws ≡ exchanged a b is xs
      three_shifts =
          let long_two : length ws ≡ length ms = ap length second ∙ shifted_long b a is ys ∙ long_one in
          fill_by_all (λ i. moved a b (holds is i) (round_of xs i)) (shifted none b is ws) (length xs) none (shifted_long none b is ws ∙ long_two ∙ sym board.each) (λ j h.
          let hj : j < length ms = omega (arith, board.each) in
          shifted_round none b is ws j (omega (arith, long_two)) ∙ ap (given none b (holds is j)) (at_two j hj) ∙ all_three a b e.different la lb (holds is j) (round_of xs j) (λ m. (e.within j m).1))

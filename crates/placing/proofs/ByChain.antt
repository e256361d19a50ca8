-- The chain that was found is the rule's, it can be exchanged, and then the meeting can be placed. Assumes nothing.
use Rattle.std.proofs.Common.{◌≡◌, ℕ, ◌<◌, ◌≤◌, ◌&&◌, ltb, Option, Some, List, [], ◌++◌, length, set, sym, refl, ap, ◌∙◌, arith}
use Rattle.std.proofs.lemmas.Bool.{cond-false, cond-true, le-ltb, lt-ltb}
use Rattle.meetings.specs.declared.numbers.Meeting.{Meeting}
use Rattle.meetings.specs.declared.numbers.MeetingId.{MeetingId}
use Rattle.meetings.specs.declared.numbers.Side.{Side}
use Rattle.meetings.specs.declared.numbers.Side.TheVariants.{Groups, Stations}
use Rattle.fewest.specs.Plans.{none}
use Rattle.chains.specs.declared.board.Board.{Board}
use Rattle.chains.specs.declared.found.Found.{Found}
use Rattle.chains.specs.declared.shapes.Shape.{Shape}
use Rattle.chains.specs.Boards.{meetings_on, rounds_on}
use Rattle.chains.specs.Rows.{WithinRows}
use Rattle.chains.specs.Chains.{two, holds, chain}
use Rattle.chains.specs.Exchanges.{Exchangeable, exchanged}
use Rattle.chains.specs.Partial.{Unless, Vacant, party_of, round_of, meeting_of}
use Rattle.chains.proofs.Exchange.{exchanged_none}
use Rattle.chains.proofs.Lowest.{lowest_of}
use Rattle.chains.proofs.Unless.{some_is}
use Rattle.placing.specs.Putting.{Placed, chain_for, common_free, free, own_free, placed, put, put_by_chain}
use Rattle.placing.specs.OnBoard.{OpensOn, PutOn, ReadyOn}
use Rattle.placing.specs.Statements.{Opens, PutIn, Ready}
use Rattle.placing.specs.Steps.{chained}
use Rattle.placing.proofs.PutOne.{chain_frees, common_frees, puts, put_in_as}
use Rattle.placing.proofs.Opens.{chain_opens}

module _ (ms : List Meeting) (xs : List ℕ) (i a b : ℕ) where
  -- nothing was found before, and the chain starts at the station's meeting in a
  pub chain_is : (is js : List ℕ) (station : ℕ) (met : Option MeetingId) (first : MeetingId) → is ≡ [] → station ≡ party_of ms Stations i → Unless none (λ m. m.0) met (meeting_of ms xs Stations station a) → met ≡ Some first → js ≡ is ++ chain (two ms xs a b) (holds is) first.0 → js ≡ chain_for ms xs i a b
  chain_is is js station met first empty of_it entry there found =
      found
      ∙ ap (λ l. l ++ chain (two ms xs a b) (holds l) first.0) empty
      ∙ ap (chain (two ms xs a b) (holds [])) ((some_is _ _ _ _ _ entry there).0 ∙ ap (λ p. meeting_of ms xs Stations p a) of_it)

  module _ (n k : ℕ) (z : Shape) (is : List ℕ) (same : is ≡ chain_for ms xs i a b) (opens : Opens n k ms xs i a b (chain_for ms xs i a b)) where
    pub exchangeable : WithinRows z a → WithinRows z b → Exchangeable ms z xs is a b
    exchangeable one other = rw same (record { one = one; other = other; different = opens.different; within = opens.whole.within; closed = opens.whole.closed })

    pub then_vacant : length xs ≡ length ms → (ys : List ℕ) → ys ≡ exchanged a b is xs → (s : Side) → Vacant ms ys s (party_of ms s i) a
    then_vacant each ys e s j h c p =
        chain_frees n k ms xs i a b (chain_for ms xs i a b) each opens s j h (ap (λ l. round_of (exchanged a b l xs) j) (sym same) ∙ ap (λ l. round_of l j) (sym e) ∙ c) p

    pub then_out : a < none → b < none → round_of xs i ≡ none → (ys : List ℕ) → ys ≡ exchanged a b is xs → round_of ys i ≡ none
    then_out la lb out ys e = ap (λ l. round_of l i) e ∙ exchanged_none a b is xs none i (omega arith) la lb out

module _ (n k r : ℕ) (ms : List Meeting) (xs : List ℕ) (i : ℕ) (ready : Ready n k r ms xs i) where
  -- a search that finds something finds one of the rounds
  pub common_below : (common_free r ms xs i ≡ r → ⊥) → common_free r ms xs i < r
  common_below some = omega (arith, (lowest_of (λ c. free ms xs i Groups c && free ms xs i Stations c) r).most)

  -- a common free round that was found is vacant
  pub common_vacant : (c : ℕ) → c ≡ common_free r ms xs i → c < r → (s : Side) → Vacant ms xs s (party_of ms s i) c
  common_vacant c is below s j h e p = common_frees n k r ms xs i ready (omega arith) s j h (e ∙ is) p

  -- with a common free round the rule puts in there
  pub put_common_is : (c : ℕ) → c ≡ common_free r ms xs i → (common_free r ms xs i ≡ r → ⊥) → placed (set xs i c) 1 ≡ put r ms xs i
  put_common_is c is some =
      ap (λ x. placed (set xs i x) 1) is ∙ sym (cond-true (ltb (common_free r ms xs i) r) _ _ (lt-ltb _ _ (common_below some)))

  -- and no chain is exchanged
  pub chained_none : (common_free r ms xs i ≡ r → ⊥) → chained r ms xs i ≡ []
  chained_none some = cond-true (ltb (common_free r ms xs i) r) _ _ (lt-ltb _ _ (common_below some))

  module _ (a b : ℕ) (none_common : r ≤ common_free r ms xs i) (is_a : a ≡ own_free r ms xs i Groups) (is_b : b ≡ own_free r ms xs i Stations) where
    -- the two rounds that were found, and their chain
    pub chain_found_opens : (a < r) × (b < r) × Opens n k ms xs i a b (chain_for ms xs i a b)
    chain_found_opens = rw (is_a, is_b) (chain_opens n k r ms xs i ready none_common)

    -- without a common free round the rule puts in by the chain
    pub put_by_chain_is : put_by_chain ms xs i a b ≡ put r ms xs i
    put_by_chain_is =
        ap (λ x. put_by_chain ms xs i x b) is_a
        ∙ ap (put_by_chain ms xs i (own_free r ms xs i Groups)) is_b
        ∙ sym (cond-false (ltb (common_free r ms xs i) r) _ _ (le-ltb _ _ none_common))

    -- which is the one that is exchanged
    pub chained_is : chain_for ms xs i a b ≡ chained r ms xs i
    chained_is =
        ap (λ x. chain_for ms xs i x b) is_a
        ∙ ap (chain_for ms xs i (own_free r ms xs i Groups)) is_b
        ∙ sym (cond-false (ltb (common_free r ms xs i) r) _ _ (le-ltb _ _ none_common))

-- the same rounds and looks, said otherwise
pub put_on_as : (d e : Board) (p q : Placed) (counted : ℕ) → PutOn d e p counted → p ≡ q → PutOn d e q counted
put_on_as d e p q counted on is = rw (← is) on

-- what the rule leaves on a board has the meeting put in
pub put_in_on : (d e : Board) (r i looks : ℕ) → Ready d.shape.groups d.shape.stations r (meetings_on d) (rounds_on d) i → PutOn d e (put r (meetings_on d) (rounds_on d) i) looks → PutIn d.shape.groups d.shape.stations r (meetings_on d) (rounds_on d) i (placed (rounds_on e) looks)
put_in_on d e r i looks ready done = put_in_as _ _ _ _ _ _ _ _ _ done.board.rounds done.looks (puts _ _ r (meetings_on d) (rounds_on d) i ready)

-- without a common free round each of the two has one of its own, and their chain opens the first
module _ (d : Board) (v : Found) (r i : ℕ) (on : ReadyOn d v r i) (none_common : common_free r (meetings_on d) (rounds_on d) i ≡ r) where
  pub found_opens : (a b : ℕ) → a ≡ own_free r (meetings_on d) (rounds_on d) i Groups → b ≡ own_free r (meetings_on d) (rounds_on d) i Stations → (a < r) × (b < r) × Opens d.shape.groups d.shape.stations (meetings_on d) (rounds_on d) i a b (chain_for (meetings_on d) (rounds_on d) i a b)
  found_opens a b = chain_found_opens _ _ r (meetings_on d) (rounds_on d) i on.ready a b (omega (arith, none_common))

  pub own_there : (s : Side) → own_free r (meetings_on d) (rounds_on d) i s ≡ r → ⊥
  own_there Groups out = omega (arith, (found_opens _ _ refl refl).0)
  own_there Stations out = omega (arith, (found_opens _ _ refl refl).1)

  pub opens_on : (a b : ℕ) → a ≡ own_free r (meetings_on d) (rounds_on d) i Groups → b ≡ own_free r (meetings_on d) (rounds_on d) i Stations → OpensOn d v i a b
  opens_on a b is_a is_b =
      let found = found_opens a b is_a is_b in
      record {
        one = (omega (arith, found.0, on.within.0), omega (arith, found.0, on.within.1));
        other = (omega (arith, found.1, on.within.0), omega (arith, found.1, on.within.1));
        here = on.ready.here;
        out = on.ready.out;
        opens = found.2;
        unused = on.unused;
      }

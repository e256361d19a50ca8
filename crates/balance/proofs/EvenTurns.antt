-- One turn of evening out: what is left gives, by the rule, what the whole gives, and the rounds are nearer to even. Assumes
-- nothing.
use Rattle.std.proofs.Common.{◌≡◌, ℕ, suc, ◌+◌, ◌-◌, ◌*◌, ◌<◌, ◌≤◌, true, false, List, [], ◌++◌, length, get_or, set, sym, refl, ap, ◌∙◌, ⊎_elim, mul-le-mul_right, suc-mul, arith}
use Rattle.std.proofs.lemmas.Bool.{both_ways, cases_Bool}
use Rattle.std.proofs.lemmas.List.{length-set}
use Rattle.meetings.specs.declared.numbers.Meeting.{Meeting}
use Rattle.fewest.specs.Plans.{none, in_round}
use Rattle.chains.specs.declared.board.Board.{Board}
use Rattle.chains.specs.declared.found.Found.{Found}
use Rattle.chains.specs.declared.neighbours.TwoRounds.{TwoRounds}
use Rattle.chains.specs.declared.shapes.Shape.{Shape}
use Rattle.chains.specs.Boards.{Becomes, meetings_on, rounds_on, two_on}
use Rattle.chains.specs.Chains.{two}
use Rattle.chains.specs.Exchanges.{exchanged}
use Rattle.chains.specs.Finding.{Finds, Unused}
use Rattle.chains.specs.Partial.{Partial}
use Rattle.chains.specs.Rows.{ManyWithin}
use Rattle.chains.proofs.BoardKept.{becomes_also, becomes_same, becomes_then}
use Rattle.chains.proofs.ChainTurns.{finds_then}
use Rattle.chains.proofs.Exchange.{two_sound}
use Rattle.placing.specs.Putting.{Placed, placed}
use Rattle.placing.specs.Steps.{all_named}
use Rattle.placing.proofs.AllTurns.{finds_same, still_unused}
use Rattle.balance.specs.Evening.{even_out, even_steps, one_exchange, after_look}
use Rattle.balance.specs.Looking.{look, looks_of}
use Rattle.balance.specs.OnBoard.{CanExchange, ExchangedOn, EvensOn, RoomForTwo, ReadyToEven}
use Rattle.balance.specs.Sizes.{UnevenRounds, size, sizes_of, emptiest, fullest, uneven, far}
use Rattle.balance.specs.Statements.{EvenedOut, Exchanged}
use Rattle.balance.proofs.Counted.{moved_sizes, size_at, size_short}
use Rattle.balance.proofs.EvenedOut.{exchanges_end, exchanges_more, steps_end, steps_more}
use Rattle.balance.proofs.Extremes.{emptiest_ext, emptiest_is, fullest_ext, fullest_is, uneven_ext, uneven_is}
use Rattle.balance.proofs.Far.{OneMoved, far_below}
use Rattle.balance.proofs.OneExchange.{exchange_allowed, exchange_moves, one_exchange_is, sizes_together, some_rounds}

-- the board d has become e, with so many looks, and is ready for more
pub record Evening (d e : Board) (v w : Found) (before ns : List ℕ) (room looks : ℕ) : Type 0 where
  pub board : Becomes d e (rounds_on e)
  pub ready : ReadyToEven e ns w room
  pub long : length ns ≡ length before
  pub rule : even_out (length ns) (meetings_on e) (placed (rounds_on e) looks) ≡ even_out (length before) (meetings_on d) (placed (rounds_on d) 0)
  pub forgotten : Finds v w []
  pub few : looks + far (length ns) (size (rounds_on e)) * none ≤ none * none

-- the rounds are no farther from even than there are meetings
far_few : (r : ℕ) (ms : List Meeting) (xs : List ℕ) → length ms ≤ none → Partial r ms xs → far r (size xs) ≤ none
far_few r ms xs few plan = omega (arith, far_below r (size xs), sizes_together r ms xs plan, few)

-- at the start
pub evening_starts : (d : Board) (v : Found) (ns : List ℕ) (room : ℕ) → ReadyToEven d ns v room → Evening d d v v ns ns room 0
evening_starts d v ns room ready = record {
  board = becomes_same d (rounds_on d) refl;
  ready = ready;
  long = refl;
  rule = refl;
  forgotten = finds_same v _ ready.unused;
  few = let most = mul-le-mul_right {n = none} none (far_few (length ns) (meetings_on d) (rounds_on d) d.held.few ready.plan) in omega (arith, most);
}

-- what was found out about the numbers is so of the sizes
module _ (xs ns : List ℕ) (e : ns ≡ sizes_of (length ns) xs) where
  each : (c : ℕ) → c < length ns → get_or ns c 0 ≡ size xs c
  each c h = ap (λ m. get_or m c 0) e ∙ size_at (length ns) xs c 0 h

  uneven_of : (t : TwoRounds) → UnevenRounds (length ns) (λ c. get_or ns c 0) t → UnevenRounds (length ns) (size xs) t
  uneven_of t ends = record {
    fullest = ends.fullest ∙ fullest_ext (length ns) (λ c. get_or ns c 0) (size xs) each;
    emptiest = ends.emptiest ∙ emptiest_ext (length ns) (λ c. get_or ns c 0) (size xs) each;
    uneven = sym (uneven_ext (length ns) (λ c. get_or ns c 0) (size xs) (some_rounds (length ns) (λ c. get_or ns c 0) ends.uneven) each) ∙ ends.uneven;
  }

  even_of : uneven (length ns) (λ c. get_or ns c 0) ≡ false → uneven (length ns) (size xs) ≡ false
  even_of even =
      ⊎_elim
      (λ apart. absurd (both_ways _ even (uneven_ext (length ns) (λ c. get_or ns c 0) (size xs) (some_rounds (length ns) (size xs) apart) each ∙ apart)))
      (λ still. still)
      (cases_Bool (uneven (length ns) (size xs)))

-- the fullest and the emptiest of the rounds of a board
module _ (e : Board) (ns : List ℕ) (w : Found) (room : ℕ) (ready : ReadyToEven e ns w room) (t : TwoRounds) (ends : UnevenRounds (length ns) (λ c. get_or ns c 0) t) where
  of_rounds : UnevenRounds (length ns) (size (rounds_on e)) t
  of_rounds = uneven_of (rounds_on e) ns ready.counted t ends

  some : 1 ≤ length ns
  some = some_rounds (length ns) (size (rounds_on e)) of_rounds.uneven

  -- both are rounds
  a_below : t.a.0 < length ns
  a_below = omega (arith, of_rounds.fullest, (fullest_is (length ns) (size (rounds_on e)) some).0)

  pub b_below : t.b.0 < length ns
  b_below = omega (arith, of_rounds.emptiest, (emptiest_is (length ns) (size (rounds_on e)) some).0)

  -- the one has two meetings more than the other
  two_more : get_or ns t.b.0 0 + 2 ≤ get_or ns t.a.0 0
  two_more = omega (arith, ap (λ c. get_or ns c 0) ends.fullest, ap (λ c. get_or ns c 0) ends.emptiest, uneven_is (length ns) (λ c. get_or ns c 0) ends.uneven)

  two_differ : t.a.0 ≡ t.b.0 → ⊥
  two_differ same = omega (arith, two_more, ap (λ c. get_or ns c 0) same)

  -- and is a number that fits
  pub b_few : get_or ns t.b.0 0 < none
  b_few = omega (arith, two_more, each (rounds_on e) ns ready.counted t.a.0 a_below, size_short (rounds_on e) t.a.0, e.held.each, e.held.few)

  le : length ns ≤ none
  le = omega (arith, ready.within.0, e.held.groups.narrow)

  -- they can be exchanged on the part that looking finds
  pub can_exchange : CanExchange e w room t
  can_exchange = record {
    sound = two_sound (length ns) (meetings_on e) (rounds_on e) t.a.0 t.b.0 e.held.few a_below b_below two_differ ready.plan;
    exchange = exchange_allowed (length ns) (meetings_on e) (rounds_on e) t.a.0 t.b.0 le e.held.few ready.plan a_below b_below two_differ e.shape (omega (arith, a_below, ready.within.0), omega (arith, a_below, ready.within.1)) (omega (arith, b_below, ready.within.0), omega (arith, b_below, ready.within.1));
    unused = ready.unused;
    enough = ready.enough;
  }

  -- by the rule, that is one exchange
  is_exchange : (ys : List ℕ) (looks l : ℕ) → ys ≡ exchanged t.a.0 t.b.0 (look (two_on e t)).taken (rounds_on e) → l ≡ looks_of (look (two_on e t)) → placed ys (looks + l) ≡ one_exchange (length ns) (meetings_on e) (placed (rounds_on e) looks)
  is_exchange ys looks l f g =
      ap (λ zs. placed zs (looks + l)) f
      ∙ ap (λ n. placed (exchanged t.a.0 t.b.0 (look (two_on e t)).taken (rounds_on e)) (looks + n)) g
      ∙ ap (λ a. after_look a t.b.0 (look (two (meetings_on e) (rounds_on e) a t.b.0)) (rounds_on e) looks) of_rounds.fullest
      ∙ ap (λ b. after_look (fullest (length ns) (size (rounds_on e))) b (look (two (meetings_on e) (rounds_on e) (fullest (length ns) (size (rounds_on e))) b)) (rounds_on e) looks) of_rounds.emptiest

-- a plan of one board is one of another with the same meetings
partial_also : (r r' : ℕ) (ms ms' : List Meeting) (xs xs' : List ℕ) → r' ≡ r → ms' ≡ ms → xs' ≡ xs → Partial r ms xs → Partial r' ms' xs'
partial_also r r' ms ms' xs xs' e f g plan = rw (e, f, g) plan

within_also : (r r' : ℕ) (z z' : Shape) (room : ℕ) → r' ≡ r → z' ≡ z → ManyWithin z r × RoomForTwo z room → ManyWithin z' r' × RoomForTwo z' room
within_also r r' z z' room e f both = rw (e, f) both

moved_also : (r : ℕ) (xs ys zs : List ℕ) (a b : ℕ) → ys ≡ zs → OneMoved r (size xs) (size zs) a b → OneMoved r (size xs) (size ys) a b
moved_also r xs ys zs a b e moved = rw e moved

unused_also : (w : Found) (m m' : ℕ) → m' ≡ m → Unused w m → Unused w m'
unused_also w m m' e unused = rw e unused

-- one exchange more
module _ (d e e' : Board) (v w w' : Found) (before ns ns' : List ℕ) (room looks l : ℕ) (so_far : Evening d e v w before ns room looks) (t : TwoRounds) (ends : UnevenRounds (length ns) (λ c. get_or ns c 0) t) (done : ExchangedOn e e' w w' t l) (set_to : ns' ≡ set (set ns t.a.0 (get_or ns t.a.0 0 - 1)) t.b.0 (get_or ns t.b.0 0 + 1)) where
  ready : ReadyToEven e ns w room
  ready = so_far.ready

  apart : uneven (length ns) (size (rounds_on e)) ≡ true
  apart = (of_rounds e ns w room ready t ends).uneven

  one : Exchanged (length ns) (meetings_on e) (placed (rounds_on e) looks) (one_exchange (length ns) (meetings_on e) (placed (rounds_on e) looks))
  one = one_exchange_is (length ns) (meetings_on e) (placed (rounds_on e) looks) (le e ns w room ready t ends) e.held.few ready.plan apart

  as_rule : placed (rounds_on e') (looks + l) ≡ one_exchange (length ns) (meetings_on e) (placed (rounds_on e) looks)
  as_rule = is_exchange e ns w room ready t ends (rounds_on e') looks l done.board.rounds done.looks

  same_long : length ns' ≡ length ns
  same_long = ap length set_to ∙ length-set (set ns t.a.0 _) t.b.0 _ ∙ length-set ns t.a.0 _

  moved : OneMoved (length ns) (size (rounds_on e)) (size (rounds_on e')) t.a.0 t.b.0
  moved =
      let la = a_below e ns w room ready t ends in
      let lb = b_below e ns w room ready t ends in
      let fuller : in_round t.b.0 (rounds_on e) < in_round t.a.0 (rounds_on e) = omega (arith, two_more e ns w room ready t ends, each (rounds_on e) ns ready.counted t.a.0 la, each (rounds_on e) ns ready.counted t.b.0 lb) in
      moved_also (length ns) (rounds_on e) (rounds_on e') _ t.a.0 t.b.0 done.board.rounds (exchange_moves (length ns) (meetings_on e) (rounds_on e) t.a.0 t.b.0 (le e ns w room ready t ends) e.held.few ready.plan la lb fuller)

  one_nearer : suc (far (length ns') (size (rounds_on e'))) ≡ far (length ns) (size (rounds_on e))
  one_nearer =
      ap (λ r. suc (far r (size (rounds_on e')))) same_long ∙ ap (λ (p : Placed). suc (far (length ns) (size p.rounds))) as_rule ∙ one.nearer

  pub evening_falls : far (length ns') (size (rounds_on e')) < far (length ns) (size (rounds_on e))
  evening_falls = omega (arith, one_nearer)

  -- the meetings of the steps that are left: those of this exchange, and of the steps after it
  pub named_more : all_named (even_steps (length ns) (meetings_on e) (placed (rounds_on e) looks)) ≡ (look (two_on e t)).taken ++ all_named (even_steps (length ns') (meetings_on e') (placed (rounds_on e') (looks + l)))
  named_more =
      let ends_are = of_rounds e ns w room ready t ends in
      let after = all_named (even_steps (length ns) (meetings_on e) (one_exchange (length ns) (meetings_on e) (placed (rounds_on e) looks))) in
      ap all_named (steps_more (length ns) (meetings_on e) (placed (rounds_on e) looks) (le e ns w room ready t ends) e.held.few ready.plan apart)
      ∙ ap (λ a. (look (two (meetings_on e) (rounds_on e) a (emptiest (length ns) (size (rounds_on e))))).taken ++ after) (sym ends_are.fullest)
      ∙ ap (λ b. (look (two (meetings_on e) (rounds_on e) t.a.0 b)).taken ++ after) (sym ends_are.emptiest)
      ∙ ap (λ p. (look (two_on e t)).taken ++ all_named (even_steps (length ns) (meetings_on e) p)) (sym as_rule)
      ∙ ap (λ ms. (look (two_on e t)).taken ++ all_named (even_steps (length ns) ms (placed (rounds_on e') (looks + l)))) (sym done.board.meetings)
      ∙ ap (λ r. (look (two_on e t)).taken ++ all_named (even_steps r (meetings_on e') (placed (rounds_on e') (looks + l)))) (sym same_long)

  pub evening_more : l ≤ none → Evening d e' v w' before ns' room (looks + l)
  evening_more most = record {
    board = becomes_then d e e' _ _ _ so_far.board done.board (sym done.board.rounds);
    ready = record {
      plan = partial_also (length ns) (length ns') (meetings_on e) (meetings_on e') _ (rounds_on e') same_long done.board.meetings (ap (λ (p : Placed). p.rounds) as_rule) one.plan;
      within = both.0;
      counted = set_to ∙ moved_sizes (length ns) (rounds_on e) (rounds_on e') ns t.a.0 t.b.0 ready.counted moved ∙ ap (λ r. sizes_of r (rounds_on e')) (sym same_long);
      unused = unused_also w' (length (meetings_on e)) (length (meetings_on e')) (ap length done.board.meetings) (still_unused w w' _ ready.unused done.forgotten);
      enough = both.1;
    };
    long = same_long ∙ so_far.long;
    rule =
        ap (λ r. even_out r (meetings_on e') (placed (rounds_on e') (looks + l))) same_long
        ∙ ap (λ ms. even_out (length ns) ms (placed (rounds_on e') (looks + l))) done.board.meetings
        ∙ ap (even_out (length ns) (meetings_on e)) as_rule
        ∙ sym (exchanges_more (length ns) (meetings_on e) (placed (rounds_on e) looks) (le e ns w room ready t ends) e.held.few ready.plan apart)
        ∙ so_far.rule;
    forgotten = finds_then v w w' [] [] [] so_far.forgotten done.forgotten refl;
    few = let more = suc-mul (far (length ns') (size (rounds_on e'))) none in omega (arith, so_far.few, ap (λ n. n * none) one_nearer, more, most);
  }
    where
      both : ManyWithin e'.shape (length ns') × RoomForTwo e'.shape room
      both = within_also (length ns) (length ns') e.shape e'.shape room same_long done.board.shape (ready.within, ready.enough)

-- at the end
module _ (d e : Board) (v w : Found) (before ns : List ℕ) (room looks : ℕ) (so_far : Evening d e v w before ns room looks) (even : uneven (length ns) (λ c. get_or ns c 0) ≡ false) where
  pub ended : placed (rounds_on e) looks ≡ even_out (length before) (meetings_on d) (placed (rounds_on d) 0)
  ended = sym (exchanges_end (length ns) (meetings_on e) (placed (rounds_on e) looks) (even_of (rounds_on e) ns so_far.ready.counted even)) ∙ so_far.rule

  -- no step is left
  pub named_none : all_named (even_steps (length ns) (meetings_on e) (placed (rounds_on e) looks)) ≡ []
  named_none = ap all_named (steps_end (length ns) (meetings_on e) (placed (rounds_on e) looks) (even_of (rounds_on e) ns so_far.ready.counted even))

  pub evening_ends : EvensOn d e before ns v w (even_out (length before) (meetings_on d) (placed (rounds_on d) 0)) looks
  evening_ends = record {
    board = becomes_also d e _ _ so_far.board (ap (λ (p : Placed). p.rounds) ended);
    looks = ap (λ (p : Placed). p.looks) ended;
    sizes = so_far.ready.counted ∙ ap (λ r. sizes_of r (rounds_on e)) so_far.long ∙ ap (λ (p : Placed). sizes_of (length before) p.rounds) ended;
    forgotten = so_far.forgotten;
  }

-- what the rule leaves is what was left on the board
pub evened_as : (n k r : ℕ) (ms : List Meeting) (p q q' : Placed) → q' ≡ q → EvenedOut n k r ms p q → EvenedOut n k r ms p q'
evened_as n k r ms p q q' e evened = rw e evened

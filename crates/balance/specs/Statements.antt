-- What is proved of evening out. Statements; assumes nothing.
use Rattle.std.specs.Prelude.{◌≡◌, ℕ, suc, ◌+◌, ◌*◌, ◌<◌, ◌≤◌, ◌↔◌, true, List, ◌++◌, length, ◌≢◌}
use Rattle.meetings.specs.declared.numbers.Meeting.{Meeting}
use Rattle.meetings.specs.Lists.{Contents, Exist}
use Rattle.fewest.specs.Plans.{none, Plan, Rooms, in_round}
use Rattle.fewest.specs.Statements.{Suffices}
use Rattle.chains.specs.Chains.{Two, two, in_two, Linked, holds}
use Rattle.chains.specs.Partial.{Partial, round_of}
use Rattle.chains.specs.Statements.{Once, PartOf, in_part}
use Rattle.placing.specs.Putting.{Placed}
use Rattle.balance.specs.Looking.{Looked, look}
use Rattle.balance.specs.Sizes.{size, fullest, emptiest, uneven, far}
use Rattle.balance.specs.Evening.{exchanges, even_out, number_of_exchanges, one_exchange}

-- just one more of these meetings is in a than in b
abbrev pub OneMore : Two → List ℕ → Type 0
OneMore t is = in_part t t.a is ≡ suc (in_part t t.b is)

-- THERE IS A PART WITH ONE MORE, if one round has more meetings than another: at least two more, where rounds are evened out
abbrev pub PartWithOneMore : Type 0
PartWithOneMore =
    (r : ℕ) (ms : List Meeting) (xs : List ℕ) (a b : ℕ) → r ≤ none → length ms ≤ none → Partial r ms xs → a < r → b < r →
    in_round b xs < in_round a xs →
    (i : ℕ) × (is : List ℕ) × PartOf (two ms xs a b) i is × OneMore (two ms xs a b) is

-- what is found where the fuller round is a: the part taken has one more; its lowest meeting is i, and no other part with one
-- more has a lower one; each meeting of the parts looked at is counted once, and these are the parts with meeting i or a lower
-- one
pub record FirstPart (t : Two) (l : Looked) (i : ℕ) : Type 0 where
  pub whole : PartOf t i l.taken
  pub one_more : OneMore t l.taken
  pub lowest : (j : ℕ) → holds l.taken j ≡ true → i ≤ j
  pub first : (j : ℕ) (js : List ℕ) → PartOf t j js → OneMore t js → (k : ℕ) → holds js k ≡ true → i ≤ k
  pub once : Once (l.passed ++ l.taken)
  pub looked_at : (j : ℕ) → (holds (l.passed ++ l.taken) j ≡ true) ↔ ((k : ℕ) × (k ≤ i) × (in_two t k ≡ true) × Linked t k j)

-- LOOKING FINDS THE FIRST PART with one more in the fuller round
abbrev pub FindsFirst : Type 0
FindsFirst =
    (r : ℕ) (ms : List Meeting) (xs : List ℕ) (a b : ℕ) → r ≤ none → length ms ≤ none → Partial r ms xs → a < r → b < r →
    in_round b xs < in_round a xs →
    (i : ℕ) × FirstPart (two ms xs a b) (look (two ms xs a b)) i

-- no two of r rounds differ by more than one
abbrev pub Evened : ℕ → List ℕ → Type 0
Evened r xs = (a b : ℕ) → a < r → b < r → in_round a xs ≤ suc (in_round b xs)

-- what one exchange leaves, where the fullest round has at least two meetings more than the emptiest: a partial plan in which
-- the same meetings have a round, one meeting less in the fullest round, one more in the emptiest, all other rounds as they
-- were; the rounds are one step nearer to even, and there was one look at most for each meeting of the two rounds
pub record Exchanged (r : ℕ) (ms : List Meeting) (p q : Placed) : Type 0 where
  pub plan : Partial r ms q.rounds
  pub still : (i : ℕ) → i < length ms → round_of p.rounds i < r → round_of q.rounds i < r
  pub out : (i : ℕ) → round_of p.rounds i ≡ none → round_of q.rounds i ≡ none
  pub fuller : suc (in_round (fullest r (size p.rounds)) q.rounds) ≡ in_round (fullest r (size p.rounds)) p.rounds
  pub emptier : in_round (emptiest r (size p.rounds)) q.rounds ≡ suc (in_round (emptiest r (size p.rounds)) p.rounds)
  pub others : (c : ℕ) → (c ≢ fullest r (size p.rounds)) → (c ≢ emptiest r (size p.rounds)) → in_round c q.rounds ≡ in_round c p.rounds
  pub nearer : suc (far r (size q.rounds)) ≡ far r (size p.rounds)
  pub looks : q.looks ≤ p.looks + (in_round (fullest r (size p.rounds)) p.rounds + in_round (emptiest r (size p.rounds)) p.rounds)

abbrev pub OneExchange : Type 0
OneExchange =
    (r : ℕ) (ms : List Meeting) (p : Placed) → r ≤ none → length ms ≤ none → Partial r ms p.rounds →
    uneven r (size p.rounds) ≡ true →
    Exchanged r ms p (one_exchange r ms p)

-- EVENING OUT ENDS by itself: to go on for longer changes nothing more, and there are no more exchanges than the rounds are far
-- from even
abbrev pub Ends : Type 0
Ends =
    (r more : ℕ) (ms : List Meeting) (p : Placed) → r ≤ none → length ms ≤ none → Partial r ms p.rounds →
    (exchanges r ms (far r (size p.rounds) + more) p ≡ even_out r ms p)
    × (number_of_exchanges r ms (far r (size p.rounds) + more) p ≤ far r (size p.rounds))

-- what evening out leaves: a partial plan in which the same meetings have a round, and even; each exchange takes one look at most
-- for each meeting of two rounds, and these have n + k meetings at most
pub record EvenedOut (n k r : ℕ) (ms : List Meeting) (p q : Placed) : Type 0 where
  pub plan : Partial r ms q.rounds
  pub still : (i : ℕ) → i < length ms → round_of p.rounds i < r → round_of q.rounds i < r
  pub out : (i : ℕ) → round_of p.rounds i ≡ none → round_of q.rounds i ≡ none
  pub even : Evened r q.rounds
  pub looks : q.looks ≤ p.looks + far r (size p.rounds) * (n + k)

abbrev pub EvensOut : Type 0
EvensOut =
    (n k r : ℕ) (ms : List Meeting) (p : Placed) → Exist n k ms → r ≤ none → length ms ≤ none → Partial r ms p.rounds →
    EvenedOut n k r ms p (even_out r ms p)

-- SO MANY ROUNDS ARE ENOUGH, with so many rooms, as the busiest has meetings and as have rooms for all
abbrev pub Enough : Type 0
Enough =
    (d : Contents) (r : ℕ) → Exist d.groups d.stations d.meetings → length d.meetings ≤ none → Suffices d r →
    (xs : List ℕ) × Plan r d.meetings xs × Rooms d.rooms r xs

-- and then the meetings can be spread so that no two rounds differ by more than one
abbrev pub Even : Type 0
Even =
    (d : Contents) (r : ℕ) → Exist d.groups d.stations d.meetings → length d.meetings ≤ none → Suffices d r →
    (xs : List ℕ) × Plan r d.meetings xs × Rooms d.rooms r xs × Evened r xs

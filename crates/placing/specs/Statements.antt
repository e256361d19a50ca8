-- What is proved of putting in. Statements; assumes nothing.
use Rattle.std.specs.Prelude.{◌≡◌, ℕ, ◌+◌, ◌*◌, ◌<◌, ◌≤◌, true, ◌&&◌, List, length, ◌==◌, ◌≢◌, nat_lt}
use Rattle.meetings.specs.declared.numbers.Meeting.{Meeting}
use Rattle.meetings.specs.declared.numbers.Side.{Side}
use Rattle.meetings.specs.declared.numbers.Side.TheVariants.{Groups, Stations}
use Rattle.meetings.specs.Lists.{Contents, Exist}
use Rattle.fewest.specs.Counting.{count, one_if}
use Rattle.fewest.specs.Plans.{none, Plan, in_round}
use Rattle.fewest.specs.Rounds.{meetings_of, busiest}
use Rattle.chains.specs.Partial.{Partial, meeting_of, round_of, party_of}
use Rattle.chains.specs.Chains.{two, holds}
use Rattle.chains.specs.Statements.{PartOf, in_part}
use Rattle.placing.specs.Putting.{Placed, common_free, own_free, chain_for, put, put_all}

-- how many meetings of a party have one of r rounds
abbrev pub placed_of : ℕ → List Meeting → List ℕ → Side → ℕ → ℕ
placed_of r ms xs s p = count (λ j. (party_of ms s j == p) && nat_lt (round_of xs j) r) (length ms)

-- there is a round for meeting i: of its group and of its station fewer than r meetings have one
abbrev pub Spare : ℕ → List Meeting → List ℕ → ℕ → Type 0
Spare r ms xs i = (s : Side) → placed_of r ms xs s (party_of ms s i) < r

-- no group and no station has more than r meetings
abbrev pub NoneBusier : ℕ → List Meeting → Type 0
NoneBusier r ms = (i : ℕ) → i < length ms → (s : Side) → meetings_of s (party_of ms s i) ms ≤ r

-- what is known where a meeting is put in
pub record Ready (n k r : ℕ) (ms : List Meeting) (xs : List ℕ) (i : ℕ) : Type 0 where
  pub rounds : r ≤ none
  pub few : length ms ≤ none
  pub exist : Exist n k ms
  pub plan : Partial r ms xs
  pub here : i < length ms
  pub out : round_of xs i ≡ none
  pub spare : Spare r ms xs i

-- a meeting is put in: it has a round, all others that had one have one still, those without have none
pub record PutIn (n k r : ℕ) (ms : List Meeting) (xs : List ℕ) (i : ℕ) (p : Placed) : Type 0 where
  pub plan : Partial r ms p.rounds
  pub placed : round_of p.rounds i < r
  pub still : (j : ℕ) → j < length ms → round_of xs j < r → round_of p.rounds j < r
  pub others : (j : ℕ) → (j ≢ i) → round_of xs j ≡ none → round_of p.rounds j ≡ none
  pub looks : p.looks ≤ 1 + n + k

-- round c has one meeting more, and each other round as many as before
abbrev pub OneMoreIn : List ℕ → List ℕ → ℕ → Type 0
OneMoreIn xs ys c = (e : ℕ) → (e ≢ none) → in_round e ys ≡ in_round e xs + one_if (e == c)

-- EACH MEETING CAN BE PUT IN
abbrev pub Puts : Type 0
Puts = (n k r : ℕ) (ms : List Meeting) (xs : List ℕ) (i : ℕ) → Ready n k r ms xs i → PutIn n k r ms xs i (put r ms xs i)

-- the chain for a meeting without a common free round: a and b differ, it is the part of a meeting that the station has in a,
-- short, with at least as many meetings in a as in b, and when it is exchanged the group and the station are both free in a: who of
-- them is in a goes, nobody of them comes
pub record Opens (n k : ℕ) (ms : List Meeting) (xs : List ℕ) (i a b : ℕ) (is : List ℕ) : Type 0 where
  pub different : a ≡ b → ⊥
  pub starts : meeting_of ms xs Stations (party_of ms Stations i) a < length ms
  pub starts_in : round_of xs (meeting_of ms xs Stations (party_of ms Stations i) a) ≡ a
  pub whole : PartOf (two ms xs a b) (meeting_of ms xs Stations (party_of ms Stations i) a) is
  pub more : in_part (two ms xs a b) b is ≤ in_part (two ms xs a b) a is
  pub short : length is ≤ n + k
  pub goes : (s : Side) (j : ℕ) → j < length ms → party_of ms s j ≡ party_of ms s i → round_of xs j ≡ a → holds is j ≡ true
  pub comes : (s : Side) (j : ℕ) → j < length ms → party_of ms s j ≡ party_of ms s i → round_of xs j ≡ b → holds is j ≢ true

-- A CHAIN OPENS A ROUND: the lowest free rounds of the group and of the station are there, and their chain opens the first
abbrev pub ChainOpens : Type 0
ChainOpens =
    (n k r : ℕ) (ms : List Meeting) (xs : List ℕ) (i : ℕ) → Ready n k r ms xs i → r ≤ common_free r ms xs i →
    (own_free r ms xs i Groups < r)
    × (own_free r ms xs i Stations < r)
    × Opens n k ms xs i (own_free r ms xs i Groups) (own_free r ms xs i Stations) (chain_for ms xs i (own_free r ms xs i Groups) (own_free r ms xs i Stations))

-- SO MANY ROUNDS ARE ENOUGH as the busiest has meetings, or more
abbrev pub Enough : Type 0
Enough =
    (d : Contents) (r : ℕ) → Exist d.groups d.stations d.meetings → length d.meetings ≤ none → busiest d ≤ r →
    (xs : List ℕ) × Plan r d.meetings xs

-- what is left when all are put in: a plan with r rounds, made with bounded looks
pub record PlacedAll (n k r : ℕ) (ms : List Meeting) (p : Placed) : Type 0 where
  pub plan : Plan r ms p.rounds
  pub looks : p.looks ≤ length ms * (1 + n + k)

-- THE RULE PUTS ALL MEETINGS IN, where no group and no station has more than r
abbrev pub PutsAll : Type 0
PutsAll =
    (n k r : ℕ) (ms : List Meeting) → Exist n k ms → length ms ≤ none → r ≤ none → NoneBusier r ms →
    PlacedAll n k r ms (put_all r ms)

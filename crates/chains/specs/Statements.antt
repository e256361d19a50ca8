-- What is proved of chains, parts and exchanges. Statements; assumes nothing.
use Rattle.std.specs.Prelude.{◌≡◌, ℕ, suc, ◌+◌, ◌<◌, ◌≤◌, Bool, true, false, List, length, count_by, ◌≢◌, nat_eq, slice_index_or}
use Rattle.meetings.specs.declared.numbers.Meeting.{Meeting}
use Rattle.meetings.specs.declared.numbers.Side.{Side}
use Rattle.meetings.specs.declared.numbers.Side.TheVariants.{Groups, Stations}
use Rattle.fewest.specs.Plans.{none, in_round}
use Rattle.chains.specs.declared.shapes.Shape.{Shape}
use Rattle.chains.specs.Rows.{Holds, Beyond}
use Rattle.chains.specs.Partial.{Partial, round_of}
use Rattle.chains.specs.Chains.{Two, two, in_two, Sound, Closed, Linked, Free, with_all, holds, left_of, walk, walked, chain, part}
use Rattle.chains.specs.Exchanges.{exchanged, among}

-- FOLLOWING ENDS by itself: to go on for longer than there are meetings left finds nothing more
abbrev pub Ends : Type 0
Ends = (t : Two) (V : ℕ → Bool) (s : Side) (j more : ℕ) → walk t (left_of V t.many + more) V s j ≡ walked t V s j

-- no meeting stands in a list twice
abbrev pub Once : List ℕ → Type 0
Once is = (p q : ℕ) → p < length is → q < length is → slice_index_or is p none ≡ slice_index_or is q none → p ≡ q

-- how many meetings of a list are in a round
abbrev pub in_part : Two → ℕ → List ℕ → ℕ
in_part t c is = count_by (λ j. nat_eq (t.round j) c) is

-- what the part of i is: all meetings that are linked to i, each once; its two rounds differ by one at most
pub record PartOf (t : Two) (i : ℕ) (is : List ℕ) : Type 0 where
  pub starts : holds is i ≡ true
  pub within : (j : ℕ) → holds is j ≡ true → (j < t.many) × (in_two t j ≡ true)
  pub once : Once is
  pub closed : Closed t (holds is)
  pub linked : (j : ℕ) → holds is j ≡ true → Linked t i j
  pub even : (in_part t t.a is ≤ suc (in_part t t.b is)) × (in_part t t.b is ≤ suc (in_part t t.a is))

-- THE PART OF A MEETING that is not in a closed set is its part, has no member in the set, and leaves a closed set with it
abbrev pub Parts : Type 0
Parts =
    (t : Two) (V : ℕ → Bool) (i : ℕ) → Sound t → Closed t V → i < t.many → in_two t i ≡ true → V i ≡ false →
    PartOf t i (part t V i)
    × ((j : ℕ) → holds (part t V i) j ≡ true → V j ≡ false)
    × Closed t (with_all V (part t V i))

-- a chain from a station that is free in the other round is the whole part
abbrev pub ChainWhole : Type 0
ChainWhole =
    (t : Two) (V : ℕ → Bool) (i : ℕ) → Sound t → t.round i ≡ t.a → Free t Stations (t.party Stations i) t.b →
    chain t V i ≡ part t V i

-- A CHAIN NEVER COMES TO THE GROUP that it is followed for: one that is free in the round in which the chain starts
abbrev pub NeverComes : Type 0
NeverComes =
    (t : Two) (V : ℕ → Bool) (i g : ℕ) → Sound t → i < t.many → t.round i ≡ t.a → Free t Groups g t.a →
    (j : ℕ) → holds (chain t V i) j ≡ true → t.party Groups j ≢ g

-- n groups and k stations have n + k meetings in two rounds at most
abbrev pub Short : Type 0
Short =
    (t : Two) (n k i : ℕ) (is : List ℕ) → Sound t →
    ((j : ℕ) → j < t.many → (t.party Groups j < n) × (t.party Stations j < k)) →
    PartOf t i is → length is ≤ n + k

-- EXCHANGING ON A CLOSED SET keeps a partial plan
abbrev pub ExchangeKeeps : Type 0
ExchangeKeeps =
    (r : ℕ) (ms : List Meeting) (xs : List ℕ) (a b : ℕ) (is : List ℕ) → r ≤ none → a < r → b < r →
    Partial r ms xs → Closed (two ms xs a b) (holds is) → Partial r ms (exchanged a b is xs)

-- every meeting outside keeps its round, and every other round its number of meetings
abbrev pub OthersStay : Type 0
OthersStay =
    (a b : ℕ) (is xs : List ℕ) →
    ((i : ℕ) → holds is i ≡ false → round_of (exchanged a b is xs) i ≡ round_of xs i)
    × ((c : ℕ) → (c ≢ a) → (c ≢ b) → in_round c (exchanged a b is xs) ≡ in_round c xs)

-- a gets what was in b of the part, and loses what was in a
abbrev pub ExchangeCounts : Type 0
ExchangeCounts =
    (a b : ℕ) (is xs : List ℕ) → (a ≢ b) → Once is → ((i : ℕ) → holds is i ≡ true → i < length xs) →
    (in_round a (exchanged a b is xs) + among is a xs ≡ in_round a xs + among is b xs)
    × (in_round b (exchanged a b is xs) + among is b xs ≡ in_round b xs + among is a xs)

-- THE ROUNDS SAY ALL: two boards for the same rounds, in slices that are alike beyond the rows in use, are the same
abbrev pub OneBoard : Type 0
OneBoard =
    (ms : List Meeting) (z : Shape) (xs gs gs' ss ss' : List ℕ) → Holds ms z xs gs ss → Holds ms z xs gs' ss' →
    Beyond z.groups z.group_width gs gs' → Beyond z.stations z.station_width ss ss' →
    (gs ≡ gs') × (ss ≡ ss')

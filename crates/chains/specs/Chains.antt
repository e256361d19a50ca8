-- Chains of two rounds: neighbours, following them, and the part of a meeting. Definitions; assumes nothing.
use Rattle.std.specs.Prelude.{◌≡◌, ℕ, zero, suc, ◌<◌, ◌≤◌, Bool, true, false, cond, not, ◌||◌, List, [], ◌∷◌, ◌++◌, length, ◌==◌, nat_lt}
use Rattle.meetings.specs.declared.numbers.Meeting.{Meeting}
use Rattle.meetings.specs.declared.numbers.Side.{Side}
use Rattle.meetings.specs.declared.numbers.Side.TheVariants.{Groups, Stations}
use Rattle.meetings.specs.Lists.{other_side}
use Rattle.fewest.specs.Counting.{count}
use Rattle.fewest.specs.Plans.{none}
use Rattle.chains.specs.Partial.{round_of, party_of, VacantIn, meeting_at}

-- so many meetings, the parties and the round of each, and the two rounds that are looked at
pub record Two : Type 0 where
  pub many : ℕ
  pub party : Side → ℕ → ℕ
  pub round : ℕ → ℕ
  pub a : ℕ
  pub b : ℕ

abbrev pub two : List Meeting → List ℕ → ℕ → ℕ → Two
two ms xs a b = record { many = length ms; party = party_of ms; round = round_of xs; a = a; b = b }

abbrev pub in_two : Two → ℕ → Bool
in_two t i = t.round i == t.a || t.round i == t.b

-- what is asked of the two: they differ, and in either nobody is at two meetings
pub record Sound (t : Two) : Type 0 where
  pub few : t.many ≤ none
  pub different : t.a ≡ t.b → ⊥
  pub apart : (s : Side) (i j : ℕ) → i < t.many → j < t.many → in_two t i ≡ true → t.round i ≡ t.round j → t.party s i ≡ t.party s j → i ≡ j

-- meetings of the two rounds that share a group or a station (so each is beside itself)
pub record Beside (t : Two) (i j : ℕ) : Type 0 where
  pub one : i < t.many
  pub other : j < t.many
  pub one_in : in_two t i ≡ true
  pub other_in : in_two t j ≡ true
  pub shared : (s : Side) × (t.party s i ≡ t.party s j)

-- a set of meetings that has, with a meeting, all that are beside it
abbrev pub Closed : Two → (ℕ → Bool) → Type 0
Closed t C = (i j : ℕ) → Beside t i j → C i ≡ true → C j ≡ true

-- one comes from i to j from meeting to meeting, each beside the one before
pub data Linked (t : Two) (i : ℕ) : ℕ → Type 0 where
  itself : Linked t i i
  next : (j k : ℕ) → Linked t i j → Beside t j k → Linked t i k

-- a party has no meeting in a round
abbrev pub Free : Two → Side → ℕ → ℕ → Type 0
Free t s p c = VacantIn t.many (t.party s) t.round p c

-- the other of two rounds; any third stays
abbrev pub swap : ℕ → ℕ → ℕ → ℕ
swap a b c = cond (c == a) b (cond (c == b) a c)

-- the meeting that the group or the station of j has in the other of the two rounds, none if it has none there
abbrev pub near : Two → Side → ℕ → ℕ
near t s j = meeting_at t.many (t.party s) t.round (t.party s j) (swap t.a t.b (t.round j))

-- a set with one more member, with some more
abbrev pub with_one : (ℕ → Bool) → ℕ → ℕ → Bool
with_one V z i = cond (i == z) true (V i)

abbrev pub with_all : (ℕ → Bool) → List ℕ → ℕ → Bool
with_all V [] = V
with_all V (z ∷ zs) = with_all (with_one V z) zs

abbrev pub nothing : ℕ → Bool
nothing i = false

-- the members of a list, as a set
abbrev pub holds : List ℕ → ℕ → Bool
holds is = with_all nothing is

-- how many of m meetings are left: not in the set
abbrev pub left_of : (ℕ → Bool) → ℕ → ℕ
left_of V m = count (λ i. not (V i)) m

-- FOLLOWING: from j through its group or its station to the meeting in the other round, from there through the other side,
-- and so on in turn, until there is none or it is in V already; by recursion on the meetings that are left
abbrev pub walk : Two → ℕ → (ℕ → Bool) → Side → ℕ → List ℕ
walk t zero V s j = []
walk t (suc left) V s j =
    cond
    (nat_lt (near t s j) t.many)
    (cond (V (near t s j)) [] (near t s j ∷ walk t left (with_one V (near t s j)) (other_side s) (near t s j)))
    []

abbrev pub walked : Two → (ℕ → Bool) → Side → ℕ → List ℕ
walked t V s j = walk t (left_of V t.many) V s j

-- a meeting and what is followed from it through its group
abbrev pub chain : Two → (ℕ → Bool) → ℕ → List ℕ
chain t V i = i ∷ walked t (with_one V i) Groups i

-- THE PART OF A MEETING: its chain, and what is followed from it through its station
abbrev pub part : Two → (ℕ → Bool) → ℕ → List ℕ
part t V i = chain t V i ++ walked t (with_all V (chain t V i)) Stations i

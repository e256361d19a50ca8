-- The rule for putting meetings in. Definitions over the meetings and their rounds alone; assumes nothing.
use Rattle.std.specs.Prelude.{ℕ, zero, suc, ◌+◌, Bool, cond, ◌&&◌, List, length, replicate, ◌==◌, nat_lt, slice_set}
use Rattle.meetings.specs.declared.numbers.Meeting.{Meeting}
use Rattle.meetings.specs.declared.numbers.Side.{Side}
use Rattle.meetings.specs.declared.numbers.Side.TheVariants.{Groups, Stations}
use Rattle.fewest.specs.Plans.{none}
use Rattle.chains.specs.Lowest.{lowest}
use Rattle.chains.specs.Partial.{party_of, meeting_of}
use Rattle.chains.specs.Chains.{two, nothing, chain}
use Rattle.chains.specs.Exchanges.{exchanged}

-- the group or the station of meeting i has no meeting in round c
abbrev pub free : List Meeting → List ℕ → ℕ → Side → ℕ → Bool
free ms xs i s c = meeting_of ms xs s (party_of ms s i) c == none

-- the lowest of r rounds in which both are free, r if there is none
abbrev pub common_free : ℕ → List Meeting → List ℕ → ℕ → ℕ
common_free r ms xs i = lowest (λ c. free ms xs i Groups c && free ms xs i Stations c) r

-- the lowest of r rounds in which the one is free
abbrev pub own_free : ℕ → List Meeting → List ℕ → ℕ → Side → ℕ
own_free r ms xs i s = lowest (free ms xs i s) r

-- the rounds of all meetings after some were put in, and how many looks that took
pub record Placed : Type 0 where
  pub rounds : List ℕ
  pub looks : ℕ

abbrev pub placed : List ℕ → ℕ → Placed
placed xs n = record { rounds = xs; looks = n }

-- a and b are exchanged on the chain, and the meeting gets a; one look at it, and one at each meeting of the chain
abbrev pub after_chain : ℕ → ℕ → List ℕ → List ℕ → ℕ → Placed
after_chain a b is xs i = placed (slice_set (exchanged a b is xs) i a) (1 + length is)

-- the chain that is followed from the station of meeting i, from the station's meeting in a
abbrev pub chain_for : List Meeting → List ℕ → ℕ → ℕ → ℕ → List ℕ
chain_for ms xs i a b = chain (two ms xs a b) nothing (meeting_of ms xs Stations (party_of ms Stations i) a)

abbrev pub put_by_chain : List Meeting → List ℕ → ℕ → ℕ → ℕ → Placed
put_by_chain ms xs i a b = after_chain a b (chain_for ms xs i a b) xs i

-- PUTTING IN ONE MEETING: into the lowest common free round if there is one, else by a chain
abbrev pub put : ℕ → List Meeting → List ℕ → ℕ → Placed
put r ms xs i =
    cond
    (nat_lt (common_free r ms xs i) r)
    (placed (slice_set xs i (common_free r ms xs i)) 1)
    (put_by_chain ms xs i (own_free r ms xs i Groups) (own_free r ms xs i Stations))

-- putting in the meetings from i on, so many, in their order
abbrev pub put_from : ℕ → List Meeting → ℕ → ℕ → Placed → Placed
put_from r ms zero i p = p
put_from r ms (suc left) i p =
    put_from r ms left (suc i) (placed (put r ms p.rounds i).rounds (p.looks + (put r ms p.rounds i).looks))

-- PUTTING IN ALL MEETINGS of a list, none of which has a round yet
abbrev pub put_all : ℕ → List Meeting → Placed
put_all r ms = put_from r ms (length ms) 0 (placed (replicate (length ms) none) 0)

-- The rule for checking a plan from anybody. Definitions; assumes nothing.
use Rattle.std.specs.Prelude.{ℕ, zero, suc, Bool, false, cond, ◌&&◌, ◌||◌, List, length, ◌==◌, nat_le, nat_lt}
use Rattle.meetings.specs.declared.numbers.Meeting.{Meeting}
use Rattle.meetings.specs.declared.numbers.Side.{Side}
use Rattle.meetings.specs.declared.numbers.Side.TheVariants.{Groups, Stations}
use Rattle.meetings.specs.Bytes.{read_list}
use Rattle.meetings.specs.Lists.{Contents}
use Rattle.meetings.specs.Refusals.{Outcome, accepted, refused, place_of_clash, then}
use Rattle.fewest.specs.Plans.{in_round}
use Rattle.chains.specs.Partial.{party_of, round_of}
use Rattle.changes.specs.Days.{has_round}
use Rattle.changes.specs.Numbered.{rounds_for}
use Rattle.plans.specs.Bytes.{long_for, read_plan}
use Rattle.plans.specs.Given.{marked}

-- what a test says: nothing, or a refusal
abbrev pub Verdict : Type 0
Verdict = Outcome (Unit {0})

abbrev pub fine : Verdict
fine = accepted tt

-- a test that refuses where this is so
abbrev pub refused_if : Bool → ℕ → ℕ → Verdict
refused_if b number place = cond b (refused number place) fine

-- the tests of so many numbers from i on, one after the other
abbrev pub each : (ℕ → Verdict) → ℕ → ℕ → Verdict
each test zero i = fine
each test (suc left) i = then (test i) (λ _. each test left (suc i))

-- as many rounds as meetings: where they are not, a plan is refused as its bytes are
abbrev pub as_long : ℕ → ℕ → Verdict
as_long many long =
    cond (nat_lt long many) (refused 1 (long_for long)) (refused_if (nat_lt many long) 1 (long_for many))

-- meeting i has none, or one of r rounds
abbrev pub in_rounds : ℕ → List ℕ → ℕ → Verdict
in_rounds r xs i = refused_if (has_round (round_of xs i) && nat_le r (round_of xs i)) 7 i

-- one of the meetings before i has the party p in round c
abbrev pub seen : List Meeting → List ℕ → Side → ℕ → ℕ → ℕ → Bool
seen ms xs s p c zero = false
seen ms xs s p c (suc i) = (party_of ms s i == p && round_of xs i == c) || seen ms xs s p c i

-- a party of meeting i was not seen in its round before
abbrev pub alone : List Meeting → List ℕ → Side → ℕ → Verdict
alone ms xs s i =
    refused_if (has_round (round_of xs i) && seen ms xs s (party_of ms s i) (round_of xs i) i) 8 (place_of_clash s i)

-- neither was its group, nor then its station
abbrev pub both_alone : List Meeting → List ℕ → ℕ → Verdict
both_alone ms xs i = then (alone ms xs Groups i) (λ _. alone ms xs Stations i)

-- round c has no more meetings than there are rooms
abbrev pub in_rooms : ℕ → List ℕ → ℕ → Verdict
in_rooms q xs c = refused_if (nat_lt q (in_round c xs)) 9 c

-- r is the fewest for the meetings that are not dropped
abbrev pub is_fewest : Contents → ℕ → List ℕ → Verdict
is_fewest d r xs = cond (r == rounds_for (marked d xs)) fine (refused 10 r)

-- THE RULE FOR CHECKING
unfoldable pub checked : Contents → ℕ → List ℕ → Verdict
checked d r xs =
    then (as_long (length d.meetings) (length xs)) (λ _. then (each (in_rounds r xs) (length d.meetings) 0) (λ _.
    then (each (both_alone d.meetings xs) (length d.meetings) 0) (λ _. then (each (in_rooms d.rooms xs) r 0) (λ _.
    is_fewest d r xs))))

-- and that for the bytes of a list and of a plan: the list is refused first
abbrev pub checked_bytes : List ℕ → List ℕ → Verdict
checked_bytes day plan =
    then (read_list day) (λ d. then (read_plan (length d.meetings) plan) (λ p. checked d p.rounds p.at))

-- Who is where: what the sheets of a plan tell of each group and each station. Definitions and statements; assumes nothing.
use Rattle.std.specs.Prelude.{◌≡◌, ℕ, ◌<◌, ◌≤◌, ◌↔◌, Option, Some, None, cond, List, length, map, nat_lt}
use Rattle.std.specs.List.{range_with_len}
use Rattle.meetings.specs.declared.numbers.Meeting.{Meeting}
use Rattle.meetings.specs.declared.numbers.Side.{Side}
use Rattle.meetings.specs.declared.numbers.Side.TheVariants.{Groups, Stations}
use Rattle.meetings.specs.Lists.{other_side}
use Rattle.fewest.specs.Plans.{none}
use Rattle.chains.specs.Partial.{Partial, Vacant, meeting_of, party_of, round_of}

-- of meeting i, the group where a station meets it, and the station where a group does; nobody if there is no such meeting
abbrev pub partner : List Meeting → Side → ℕ → Option ℕ
partner ms s i = cond (nat_lt i (length ms)) (Some (party_of ms (other_side s) i)) None

-- whom party p of a side meets in round c, if it meets anybody there
abbrev pub met : List Meeting → List ℕ → Side → ℕ → ℕ → Option ℕ
met ms xs s p c = partner ms s (meeting_of ms xs s p c)

-- THE ROW OF A PARTY: whom it meets in each of r rounds
abbrev pub row_of : ℕ → List Meeting → List ℕ → Side → ℕ → List (Option ℕ)
row_of r ms xs s p = map (met ms xs s p) (range_with_len 0 r)

-- party p of a side has a meeting in round c with party v of the other
pub record Meets (ms : List Meeting) (xs : List ℕ) (s : Side) (p c v : ℕ) : Type 0 where
  pub meeting : ℕ
  pub here : meeting < length ms
  pub in_round : round_of xs meeting ≡ c
  pub one : party_of ms s meeting ≡ p
  pub other : party_of ms (other_side s) meeting ≡ v

-- A ROW TELLS JUST THE MEETINGS of the plan: with whom, where it says so, and none where it says that the party is free
abbrev pub RowsTellMeetings : Type 0
RowsTellMeetings =
    (r : ℕ) (ms : List Meeting) (xs : List ℕ) (s : Side) (p c : ℕ) → length ms ≤ none → r ≤ none → Partial r ms xs → c < r →
    ((v : ℕ) → (met ms xs s p c ≡ Some v) ↔ Meets ms xs s p c v) × ((met ms xs s p c ≡ None) ↔ Vacant ms xs s p c)

-- THE SHEETS OF GROUPS AND OF STATIONS TELL THE SAME
abbrev pub SheetsAgree : Type 0
SheetsAgree =
    (r : ℕ) (ms : List Meeting) (xs : List ℕ) (g k c : ℕ) → length ms ≤ none → r ≤ none → Partial r ms xs → c < r →
    (met ms xs Groups g c ≡ Some k) ↔ (met ms xs Stations k c ≡ Some g)

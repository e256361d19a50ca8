-- The bytes of a list of meetings: what they say, or why they are refused, and how a list is written. Assumes nothing.
use Rattle.std.specs.Prelude.{◌≡◌, ◌≤◌, ℕ, zero, suc, ◌+◌, ◌*◌, ◌/◌, ◌%◌, cond, ◌||◌, List, [], ◌∷◌, ◌++◌, length, ◌==◌, nat_le, nat_lt, slice_index}
use Rattle.meetings.specs.declared.numbers.Meeting.{Meeting}
use Rattle.meetings.specs.Lists.{Contents, meeting, most, most_meetings}
use Rattle.meetings.specs.Refusals.{Outcome, accepted, refused, then}

-- groups, stations and rooms: one byte each, from 1 to the most
abbrev pub limit : ℕ → ℕ → Outcome ℕ
limit x at = cond (x == 0 || nat_lt most x) (refused 2 at) (accepted x)

-- how many meetings: two bytes, the low one first, up to the most
abbrev pub count : ℕ → ℕ → Outcome ℕ
count low high = cond (nat_lt most_meetings (low + 256 * high)) (refused 3 3) (accepted (low + 256 * high))

-- a group or a station: a byte that is there, and names one of so many
abbrev pub party_at : List ℕ → ℕ → ℕ → Outcome ℕ
party_at bs at many =
    cond (nat_le (length bs) at) (refused 1 (length bs))
    (cond (nat_le many (slice_index bs at)) (refused 4 at) (accepted (slice_index bs at)))

-- a meeting: its group and its station
abbrev pub meeting_at : List ℕ → ℕ → ℕ → ℕ → Outcome Meeting
meeting_at bs at n k = then (party_at bs at n) (λ g. then (party_at bs (at + 1) k) (λ s. accepted (meeting g s)))

-- so many meetings, one after the other, behind those that came before; then the bytes end
abbrev pub meetings_at : List ℕ → ℕ → ℕ → ℕ → ℕ → List Meeting → Outcome (List Meeting)
meetings_at bs n k zero at came = cond (nat_lt at (length bs)) (refused 1 at) (accepted came)
meetings_at bs n k (suc left) at came =
    then (meeting_at bs at n k) (λ m. meetings_at bs n k left (at + 2) (came ++ m ∷ []))

-- THE RULE FOR BYTES: five bytes at least; then what is wrong first, in the order of the bytes
abbrev pub read_list : List ℕ → Outcome Contents
read_list bs =
    cond (nat_lt (length bs) 5) (refused 1 (length bs))
    (then (limit (slice_index bs 0) 0) (λ n. then (limit (slice_index bs 1) 1) (λ k. then (limit (slice_index bs 2) 2) (λ q.
    then (count (slice_index bs 3) (slice_index bs 4)) (λ many. then (meetings_at bs n k many 5 []) (λ ms.
    accepted (record { groups = n; stations = k; rooms = q; meetings = ms })))))))

-- the head of the bytes is right, and a meeting stands behind it: only then is memory asked for
pub record HasMeeting (bs : List ℕ) : Type 0 where
  pub long : 7 ≤ length bs
  pub groups : limit (slice_index bs 0) 0 ≡ accepted (slice_index bs 0)
  pub stations : limit (slice_index bs 1) 1 ≡ accepted (slice_index bs 1)
  pub rooms : limit (slice_index bs 2) 2 ≡ accepted (slice_index bs 2)
  pub many : count (slice_index bs 3) (slice_index bs 4) ≡ accepted (slice_index bs 3 + 256 * slice_index bs 4)
  pub some : 1 ≤ slice_index bs 3 + 256 * slice_index bs 4

abbrev pub bytes_of_meetings : List Meeting → List ℕ
bytes_of_meetings [] = []
bytes_of_meetings (m ∷ ms) = m.group.0 ∷ m.station.0 ∷ bytes_of_meetings ms

-- how a list is written
abbrev pub bytes_of : Contents → List ℕ
bytes_of d =
    d.groups ∷ d.stations ∷ d.rooms ∷ length d.meetings % 256 ∷ length d.meetings / 256
    ∷ bytes_of_meetings d.meetings

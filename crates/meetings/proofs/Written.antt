-- What is proper is accepted as it was written: each part of the rule accepts the bytes that its value is written by.
-- Assumes nothing.
use Rattle.std.proofs.Common.{◌≡◌, ℕ, suc, ◌+◌, ◌*◌, ◌/◌, ◌%◌, ◌<◌, ◌≤◌, List, [], ◌∷◌, ◌++◌, length, get_or, drop, sym, refl, ap, ◌∙◌, append_assoc, append-nil, arith}
use Rattle.std.proofs.lemmas.List.{length-drop, get_or-drop, drop-drop}
use Rattle.std.proofs.lemmas.Bool.{le-ltb}
use Rattle.std.proofs.lemmas.Bool.Decides.{nat_tests}
use Rattle.meetings.specs.declared.numbers.Meeting.{Meeting}
use Rattle.meetings.specs.declared.numbers.Side.TheVariants.{Groups, Stations}
use Rattle.meetings.specs.Bytes.{limit, count, party_at, meetings_at, read_list, bytes_of_meetings, bytes_of}
use Rattle.meetings.specs.Lists.{Exist, Within, most_meetings}
use Rattle.meetings.specs.Refusals.{accepted}
use Rattle.meetings.specs.RoundTrips.{WrittenThenRead}

limit_written : (x at : ℕ) → Within x → limit x at ≡ accepted x
limit_written x at h = let low = h.0 in let high = h.1 in grind (arith, nat_tests)

count_written : (m : ℕ) → m ≤ most_meetings → count (m % 256) (m / 256) ≡ accepted m
count_written m h =
    let same : m % 256 + 256 * (m / 256) ≡ m = omega arith in
    rw same (grind (arith, nat_tests))

pub party_written : (bs : List ℕ) (at many p : ℕ) → at < length bs → get_or bs at 0 ≡ p → p < many → party_at bs at many ≡ accepted p
party_written bs at many p here is below = grind (arith, nat_tests)

-- the two bytes at one place, and what comes after
pub record Pair (bs : List ℕ) (at g s : ℕ) (tail : List ℕ) : Type 0 where
  pub long : at + 1 < length bs
  pub first : get_or bs at 0 ≡ g
  pub second : get_or bs (at + 1) 0 ≡ s
  pub after : drop (at + 2) bs ≡ tail

pair_at : (bs : List ℕ) (at g s : ℕ) (tail : List ℕ) → drop at bs ≡ g ∷ s ∷ tail → Pair bs at g s tail
pair_at bs at g s tail e =
    let long = sym (length-drop at bs) ∙ ap length e in
    let here : at + 0 ≡ at = omega arith in
    record {
      long = omega arith;
      first = rw here at (sym (get_or-drop at bs 0 0)) ∙ ap (λ l. get_or l 0 0) e;
      second = sym (get_or-drop at bs 1 0) ∙ ap (λ l. get_or l 1 0) e;
      after = sym (drop-drop 2 at bs) ∙ ap (drop 2) e;
    }

meetings_written : (bs : List ℕ) (n k at : ℕ) (came rest : List Meeting) → at ≤ length bs → drop at bs ≡ bytes_of_meetings rest → Exist n k rest → meetings_at bs n k (length rest) at came ≡ accepted (came ++ rest)
meetings_written bs n k at came [] here e exist =
    let ends = sym (length-drop at bs) ∙ ap length e in
    rw append-nil (grind (arith, nat_tests))
meetings_written bs n k at came (m ∷ rest) here e exist =
    let p = pair_at bs at m.group.0 m.station.0 (bytes_of_meetings rest) e in
    let g = party_written bs at n m.group.0 (omega (arith, p.long)) p.first (exist Groups 0 (omega arith)) in
    let s = party_written bs (at + 1) k m.station.0 p.long p.second (exist Stations 0 (omega arith)) in
    let more = meetings_written bs n k (at + 2) (came ++ m ∷ []) rest (omega (arith, p.long)) p.after (λ q i h. exist q (suc i) (omega arith)) in
    rw (g, s) (more ∙ ap accepted (append_assoc came (m ∷ []) rest))

-- the parts of the rule, put together
pub accepted_parts : (bs : List ℕ) (n k q many : ℕ) (ms : List Meeting) → 5 ≤ length bs → limit (get_or bs 0 0) 0 ≡ accepted n → limit (get_or bs 1 0) 1 ≡ accepted k → limit (get_or bs 2 0) 2 ≡ accepted q → count (get_or bs 3 0) (get_or bs 4 0) ≡ accepted many → meetings_at bs n k many 5 [] ≡ accepted ms → read_list bs ≡ accepted (record { groups = n; stations = k; rooms = q; meetings = ms })
accepted_parts bs n k q many ms long hn hk hq hm hms =
    let enough = le-ltb (length bs) 5 long in
    rw (enough, hn, hk, hq, hm, hms) refl

pub written_then_read : WrittenThenRead
written_then_read d proper =
    let bs = bytes_of d in
    accepted_parts bs d.groups d.stations d.rooms (length d.meetings) d.meetings (omega arith)
    (limit_written d.groups 0 proper.groups_within) (limit_written d.stations 1 proper.stations_within)
    (limit_written d.rooms 2 proper.rooms_within) (count_written (length d.meetings) proper.few)
    (meetings_written bs d.groups d.stations 5 [] d.meetings (omega arith) refl proper.exist)

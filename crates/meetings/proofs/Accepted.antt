-- What is accepted is proper, and is written as it stood: each part of the rule accepts only the bytes that its value is
-- written by. Assumes nothing.
use Rattle.std.proofs.Common.{◌≡◌, ℕ, zero, suc, ◌+◌, ◌*◌, ◌/◌, ◌%◌, ◌<◌, ◌≤◌, ltb, List, [], ◌∷◌, ◌++◌, length, get_or, drop, sym, refl, ap, ◌∙◌, append_assoc, append-nil, arith}
use Rattle.std.proofs.lemmas.List.{drop_all, drop_more}
use Rattle.std.proofs.lemmas.Bool.{ltb-false}
use Rattle.std.proofs.lemmas.Bool.Decides.{nat_tests}
use Rattle.meetings.proofs.Outcomes.{then_accepted, unless_refused}
use Rattle.meetings.specs.declared.numbers.Meeting.{Meeting}
use Rattle.meetings.specs.declared.numbers.Side.TheVariants.{Groups, Stations}
use Rattle.meetings.specs.Bytes.{limit, count, party_at, meeting_at, meetings_at, bytes_of_meetings, bytes_of}
use Rattle.meetings.specs.Lists.{Proper, Exist, Within, meeting, most_meetings}
use Rattle.meetings.specs.Refusals.{accepted, then}
use Rattle.meetings.specs.RoundTrips.{AllBytes, ReadThenWritten}

pub limit_accepted : (x at y : ℕ) → limit x at ≡ accepted y → (y ≡ x) × Within y
limit_accepted x at y e = (grind (arith, nat_tests), (grind (arith, nat_tests), grind (arith, nat_tests)))

pub count_accepted : (low high y : ℕ) → count low high ≡ accepted y → (y ≡ low + 256 * high) × (y ≤ most_meetings)
count_accepted low high y e = (grind (arith, nat_tests), grind (arith, nat_tests))

-- a party that is accepted is the byte at its place, and exists
abbrev pub Named : List ℕ → ℕ → ℕ → ℕ → Type 0
Named bs at many p = (at < length bs) × (p ≡ get_or bs at 0) × (p < many)

pub party_accepted : (bs : List ℕ) (at many y : ℕ) → party_at bs at many ≡ accepted y → Named bs at many y
party_accepted bs at many y e = (grind (arith, nat_tests), grind (arith, nat_tests), grind (arith, nat_tests))

-- a meeting that is accepted: its group and its station
pub record Met (bs : List ℕ) (at n k : ℕ) (m : Meeting) : Type 0 where
  pub g : ℕ
  pub s : ℕ
  pub is : m ≡ meeting g s
  pub group_named : Named bs at n g
  pub station_named : Named bs (at + 1) k s

pub meeting_accepted : (bs : List ℕ) (at n k : ℕ) (m : Meeting) → meeting_at bs at n k ≡ accepted m → Met bs at n k m
meeting_accepted bs at n k m e =
    let group = then_accepted (party_at bs at n) (λ g. then (party_at bs (at + 1) k) (λ s. accepted (meeting g s))) m e in
    let station = then_accepted (party_at bs (at + 1) k) (λ s. accepted (meeting group.0 s)) m group.2 in
    record {
      g = group.0;
      s = station.0;
      is = cc station.2;
      group_named = party_accepted bs at n group.0 group.1;
      station_named = party_accepted bs (at + 1) k station.0 station.1;
    }

exist_none : (n k : ℕ) → Exist n k []
exist_none n k s i h = absurd (omega arith)

exist_more : (n k g s : ℕ) (ms : List Meeting) → g < n → s < k → Exist n k ms → Exist n k (meeting g s ∷ ms)
exist_more n k g s ms hg hs more Groups zero h = hg
exist_more n k g s ms hg hs more Stations zero h = hs
exist_more n k g s ms hg hs more Groups (suc i) h = more Groups i (omega arith)
exist_more n k g s ms hg hs more Stations (suc i) h = more Stations i (omega arith)

-- the meetings that the bytes from one place on say
pub record Said (bs : List ℕ) (n k left at : ℕ) (came ms : List Meeting) : Type 0 where
  pub rest : List Meeting
  pub whole : ms ≡ came ++ rest
  pub many : length rest ≡ left
  pub exist : Exist n k rest
  pub bytes : drop at bs ≡ bytes_of_meetings rest

pub said_few : {bs : List ℕ} {n k left at : ℕ} {ms : List Meeting} → Said bs n k left at [] ms → left ≤ most_meetings → length ms ≤ most_meetings
said_few said few = rw (said.whole, said.many) few

pub said_exist : {bs : List ℕ} {n k left at : ℕ} {ms : List Meeting} → Said bs n k left at [] ms → Exist n k ms
said_exist said = rw said.whole said.exist

pub two_bytes : (bs : List ℕ) (at : ℕ) → at + 1 < length bs → drop at bs ≡ get_or bs at 0 ∷ get_or bs (at + 1) 0 ∷ drop (at + 2) bs
two_bytes bs at h =
    let next : at + 1 + 1 ≡ at + 2 = omega arith in
    drop_more bs at 0 (omega arith) ∙ ap (λ l. get_or bs at 0 ∷ l) (rw (← next) (drop_more bs (at + 1) 0 h))

none_left : (bs : List ℕ) (n k at : ℕ) (came ms : List Meeting) → meetings_at bs n k 0 at came ≡ accepted ms → Said bs n k 0 at came ms
none_left bs n k at came ms e =
    let same : ms ≡ came = grind (arith, nat_tests) in
    let ends : length bs ≤ at = grind (arith, nat_tests) in
    record {
      rest = [];
      whole = same ∙ sym (append-nil came);
      many = refl;
      exist = exist_none n k;
      bytes = drop_all at bs ends;
    }

one_more : (bs : List ℕ) (n k left at : ℕ) (came ms : List Meeting) (m : Meeting) (met : Met bs at n k m) → Said bs n k left (at + 2) (came ++ m ∷ []) ms → Said bs n k (suc left) at came ms
one_more bs n k left at came ms m met more = record {
  rest = m ∷ more.rest;
  whole = more.whole ∙ append_assoc came (m ∷ []) more.rest;
  many = ap suc more.many;
  exist = rw met.is (exist_more n k met.g met.s more.rest met.group_named.2 met.station_named.2 more.exist);
  bytes = two_bytes bs at met.station_named.0 ∙ (rw (← met.group_named.1, ← met.station_named.1, more.bytes, met.is) refl);
}

pub meetings_accepted : (bs : List ℕ) (n k left at : ℕ) (came ms : List Meeting) → meetings_at bs n k left at came ≡ accepted ms → Said bs n k left at came ms
meetings_accepted bs n k zero at came ms e = none_left bs n k at came ms e
meetings_accepted bs n k (suc left) at came ms e =
    let m = then_accepted (meeting_at bs at n k) (λ m. meetings_at bs n k left (at + 2) (came ++ m ∷ [])) ms e in
    one_more bs n k left at came ms m.0 (meeting_accepted bs at n k m.0 m.1)
    (meetings_accepted bs n k left (at + 2) (came ++ m.0 ∷ []) ms m.2)

five_bytes : (bs : List ℕ) → 5 ≤ length bs → bs ≡ get_or bs 0 0 ∷ get_or bs 1 0 ∷ get_or bs 2 0 ∷ get_or bs 3 0 ∷ get_or bs 4 0 ∷ drop 5 bs
five_bytes [] h = absurd (omega arith)
five_bytes (a ∷ []) h = absurd (omega arith)
five_bytes (a ∷ b ∷ []) h = absurd (omega arith)
five_bytes (a ∷ b ∷ c ∷ []) h = absurd (omega arith)
five_bytes (a ∷ b ∷ c ∷ d ∷ []) h = absurd (omega arith)
five_bytes (a ∷ b ∷ c ∷ d ∷ e ∷ bs) h = refl

-- the parts of an accepted list, put together
whole_list : (bs : List ℕ) (n k q many : ℕ) (ms : List Meeting) → 5 ≤ length bs → get_or bs 3 0 < 256 → (n ≡ get_or bs 0 0) × Within n → (k ≡ get_or bs 1 0) × Within k → (q ≡ get_or bs 2 0) × Within q → (many ≡ get_or bs 3 0 + 256 * get_or bs 4 0) × (many ≤ most_meetings) → Said bs n k many 5 [] ms → Proper (record { groups = n; stations = k; rooms = q; meetings = ms }) × (bytes_of (record { groups = n; stations = k; rooms = q; meetings = ms }) ≡ bs)
whole_list bs n k q many ms long byte hn hk hq hm said =
    let all : ms ≡ said.rest = said.whole in
    let few : length ms ≡ many = rw (all, said.many) refl in
    let low : length ms % 256 ≡ get_or bs 3 0 = omega arith in
    let high : length ms / 256 ≡ get_or bs 4 0 = omega arith in
    let tail : bytes_of_meetings ms ≡ drop 5 bs = ap bytes_of_meetings all ∙ sym said.bytes in (
      record {
        groups_within = hn.1;
        stations_within = hk.1;
        rooms_within = hq.1;
        few = said_few said hm.1;
        exist = said_exist said;
      },
      (rw (hn.0, hk.0, hq.0, low, high, tail) refl) ∙ sym (five_bytes bs long),
    )

-- what the parts of the rule accept, put together
pub parts_read : {bs : List ℕ} {n k q many : ℕ} {ms : List Meeting} → AllBytes bs → 5 ≤ length bs → limit (get_or bs 0 0) 0 ≡ accepted n → limit (get_or bs 1 0) 1 ≡ accepted k → limit (get_or bs 2 0) 2 ≡ accepted q → count (get_or bs 3 0) (get_or bs 4 0) ≡ accepted many → meetings_at bs n k many 5 [] ≡ accepted ms → Proper (record { groups = n; stations = k; rooms = q; meetings = ms }) × (bytes_of (record { groups = n; stations = k; rooms = q; meetings = ms }) ≡ bs)
parts_read {bs} {n} {k} {q} {many} {ms} byte long hn hk hq hm hms =
    whole_list bs n k q many ms long (byte 3)
    (limit_accepted _ 0 _ hn) (limit_accepted _ 1 _ hk) (limit_accepted _ 2 _ hq) (count_accepted _ _ _ hm)
    (meetings_accepted bs n k many 5 [] ms hms)

pub read_then_written : ReadThenWritten
read_then_written bs d byte e =
    let a = unless_refused (ltb (length bs) 5) 1 (length bs) _ d e in
    let n = then_accepted (limit (get_or bs 0 0) 0) _ d a.1 in
    let k = then_accepted (limit (get_or bs 1 0) 1) _ d n.2 in
    let q = then_accepted (limit (get_or bs 2 0) 2) _ d k.2 in
    let many = then_accepted (count (get_or bs 3 0) (get_or bs 4 0)) _ d q.2 in
    let ms = then_accepted (meetings_at bs n.0 k.0 many.0 5 []) _ d many.2 in
    let is : record { groups = n.0; stations = k.0; rooms = q.0; meetings = ms.0 } ≡ d = cc ms.2 in
    rw (← is) (parts_read byte (ltb-false (length bs) 5 a.0) n.1 k.1 q.1 many.1 ms.1)

-- A number and a place tell which refusal it is: the refusal is a function of the two. Assumes nothing.
use Rattle.std.proofs.Common.{◌≡◌, ℕ, ◌+◌, ◌-◌, ◌≤◌, cond, eqb, ltb, sym, refl, ◌∙◌, arith}
use Rattle.std.proofs.lemmas.Bool.{lt-ltb, le-ltb}
use Rattle.meetings.specs.declared.numbers.Side as side
use Rattle.meetings.specs.declared.refusal.Limit as limit
use Rattle.meetings.specs.declared.refusal.Limit.{Limit}
use Rattle.meetings.specs.declared.refusal.Lent.{Lent}
use Rattle.meetings.specs.declared.refusal.Lent.TheVariants.{Rounds, GroupRows, StationRows}
use Rattle.meetings.specs.declared.refusal.Refusal.{Refusal}
use Rattle.meetings.specs.declared.refusal.Refusal.TheVariants.{
  Length,
  OutOfLimits,
  TooManyMeetings,
  NoSuchParty,
  ShortSlice,
  BadChange,
  NoSuchRound,
  Clash,
  Crowded,
  NotFewest,
  Memory,
}
use Rattle.meetings.specs.Refusals.{number_of, place_of}
use Rattle.meetings.specs.ToldApart.{Small, ToldApart}

abbrev limit_at : ℕ → Limit
limit_at p = cond (eqb p 0) limit.TheVariants.Groups (cond (eqb p 1) limit.TheVariants.Stations limit.TheVariants.Rooms)

abbrev lent_at : ℕ → Lent
lent_at p = cond (eqb p 0) Rounds (cond (eqb p 1) GroupRows StationRows)

abbrev clash_at : ℕ → Refusal
clash_at p =
    cond (ltb p 8192) (Clash side.TheVariants.Groups (record { 0 = p })) (Clash side.TheVariants.Stations (record { 0 = p - 8192 }))

abbrev refusal : ℕ → ℕ → Refusal
refusal n p =
    cond (eqb n 1) (Length p)
    (cond (eqb n 2) (OutOfLimits (limit_at p))
    (cond (eqb n 3) TooManyMeetings
    (cond (eqb n 4) (NoSuchParty p)
    (cond (eqb n 5) (ShortSlice (lent_at p))
    (cond (eqb n 6) (BadChange p)
    (cond (eqb n 7) (NoSuchRound (record { 0 = p }))
    (cond (eqb n 8) (clash_at p)
    (cond (eqb n 9) (Crowded (record { 0 = p }))
    (cond (eqb n 10) (NotFewest p) Memory)))))))))

told : (e : Refusal) → Small e → refusal (number_of e) (place_of e) ≡ e
told (Length at) h = refl
told (OutOfLimits limit.TheVariants.Groups) h = refl
told (OutOfLimits limit.TheVariants.Stations) h = refl
told (OutOfLimits limit.TheVariants.Rooms) h = refl
told TooManyMeetings h = refl
told (NoSuchParty at) h = refl
told (ShortSlice Rounds) h = refl
told (ShortSlice GroupRows) h = refl
told (ShortSlice StationRows) h = refl
told (BadChange at) h = refl
told (NoSuchRound i) h = refl
told (Clash side.TheVariants.Groups i) h = rw (lt-ltb i.0 8192 h) refl
told (Clash side.TheVariants.Stations i) h =
    let back : i.0 + 8192 - 8192 ≡ i.0 = omega arith in
    let high : 8192 ≤ i.0 + 8192 = omega arith in
    rw (le-ltb (i.0 + 8192) 8192 high, back) refl
told (Crowded c) h = refl
told (NotFewest r) h = refl
told Memory h = refl

pub told_apart : ToldApart
told_apart e f he hf same_number same_place =
    sym (told e he) ∙ (λ i. refusal (same_number i) (same_place i)) ∙ told f hf

-- Two refusals with the same number and place are the same. A statement; assumes nothing.
use Rattle.std.specs.Prelude.{◌≡◌, ◌<◌}
use Rattle.meetings.specs.declared.refusal.Refusal.{Refusal}
use Rattle.meetings.specs.declared.refusal.Refusal.TheVariants.{
  Length,
  OutOfLimits,
  TooManyMeetings,
  NoSuchParty,
  ShortSlice,
  BadChange,
  NoSuchRound,
  Clash,
  Crowded,
  NotFewest,
  Memory,
}
use Rattle.meetings.specs.Refusals.{number_of, place_of}

-- a meeting in a clash is numbered below 8,192, as all are: there are at most 4,000
abbrev pub Small : Refusal → Type 0
Small (Length at) = Unit {0}
Small (OutOfLimits which) = Unit {0}
Small TooManyMeetings = Unit {0}
Small (NoSuchParty at) = Unit {0}
Small (ShortSlice which) = Unit {0}
Small (BadChange at) = Unit {0}
Small (NoSuchRound i) = Unit {0}
Small (Clash s i) = i.0 < 8192
Small (Crowded c) = Unit {0}
Small (NotFewest r) = Unit {0}
Small Memory = Unit {0}

abbrev pub ToldApart : Type 0
ToldApart = (e f : Refusal) → Small e → Small f → number_of e ≡ number_of f → place_of e ≡ place_of f → e ≡ f

-- How an answer crosses to C: as plain numbers. Assumes nothing.
use Rattle.std.specs.Prelude.{◌≡◌, ◌≢◌, ◌⊎◌, ℕ, List, [], ◌∷◌, length}
use Rattle.meetings.specs.Refusals.{Outcome, accepted, refused}
use Rattle.balance.specs.declared.planned.Planned.{Planned}
use Rattle.changes.specs.declared.changed.Changed.{Changed}
use Rattle.calls.specs.declared.answers.PlanAnswer.{PlanAnswer}
use Rattle.calls.specs.declared.answers.RowAnswer.{RowAnswer}

-- what is planned, or a refusal, whose number is never 0
abbrev pub coded_plan : Outcome Planned → PlanAnswer
coded_plan (accepted p) = record { refusal = 0; place = 0; rounds = p.rounds; looks = p.looks }
coded_plan (refused number place) = record { refusal = number; place = place; rounds = 0; looks = 0 }

-- the last of what is told, zeros where nothing is
abbrev pub last_of : List Changed → Changed
last_of [] = record { rounds = 0; looks = 0; moved = 0 }
last_of (t ∷ []) = t
last_of (t ∷ u ∷ ts) = last_of (u ∷ ts)

-- how many changes there are and what the last comes to, or a refusal
abbrev pub coded_row : Outcome (List Changed) → RowAnswer
coded_row (accepted ts) = record { refusal = 0; place = 0; changes = length ts; rounds = (last_of ts).rounds; looks = (last_of ts).looks; moved = (last_of ts).moved }
coded_row (refused number place) = record { refusal = number; place = place; changes = 0; rounds = 0; looks = 0; moved = 0 }

-- THE ANSWER is what a rule says, or that there is no memory
abbrev pub Says : {T A : Type 0} → (Outcome T → A) → A → Outcome T → Type 0
Says coded a o = (a ≡ coded (refused 11 0)) ⊎ (a ≡ coded o)

-- what the lent slices hold where nothing is refused, and where something is
pub record Leaves (refusal : ℕ) (Done Refused : Type 0) : Type 0 where
  pub done : refusal ≡ 0 → Done
  pub not_done : refusal ≢ 0 → Refused

-- What is answered by a library's call, told in plain numbers. Assumes nothing.
use Rattle.std.proofs.Common.{◌≡◌, ℕ, List, [], ◌∷◌, length, ◌-◌, suc, Some, slice_get, Global, Vec, Result, Ok, Err, IfOk, MatchResult, vec_items, sym, refl, ap, ◌∙◌, subst, inl, inr, arith}
use Rattle.meetings.specs.declared.refusal.Refusal.{Refusal}
use Rattle.meetings.specs.declared.refusal.Refusal.TheVariants.{
  Length,
  OutOfLimits,
  TooManyMeetings,
  NoSuchParty,
  ShortSlice,
  BadChange,
  NoSuchRound,
  Clash,
  Crowded,
  NotFewest,
  Memory,
}
use Rattle.meetings.specs.Refusals.{Answers, Outcome, accepted, number_of, outcome, refused}
use Rattle.balance.specs.declared.planned.Planned.{Planned}
use Rattle.changes.specs.declared.changed.Changed.{Changed}
use Rattle.calls.specs.declared.answers.PlanAnswer.{PlanAnswer}
use Rattle.calls.specs.declared.answers.RowAnswer.{RowAnswer}
use Rattle.calls.specs.Coded.{Leaves, Says, coded_plan, coded_row, last_of}

-- no refusal has the number 0
some_number : (e : Refusal) → number_of e ≡ 0 → ⊥
some_number (Length at) is = omega (arith, is)
some_number (OutOfLimits which) is = omega (arith, is)
some_number TooManyMeetings is = omega (arith, is)
some_number (NoSuchParty at) is = omega (arith, is)
some_number (ShortSlice which) is = omega (arith, is)
some_number (BadChange at) is = omega (arith, is)
some_number (NoSuchRound i) is = omega (arith, is)
some_number (Clash s i) is = omega (arith, is)
some_number (Crowded c) is = omega (arith, is)
some_number (NotFewest r) is = omega (arith, is)
some_number Memory is = omega (arith, is)

says : {X T A : Type 0} (means : X → T) (coded : Outcome T → A) (r : Result X Refusal) (o : Outcome T) → Answers means r o → Says coded (coded (outcome means r)) o
says means coded r o (inl none) = inl (ap (λ q. coded (outcome means q)) none)
says means coded r o (inr is) = inr (ap coded is)

module _ {X T A : Type 0} (means : X → T) (coded : Outcome T → A) (number : A → ℕ) (P Q : Type 0) where
  -- where a value is coded with the number 0, and a refusal with its own
  leaves : (r : Result X Refusal) → ((x : T) → number (coded (accepted x)) ≡ 0) → ((n at : ℕ) → number (coded (refused n at)) ≡ n) → MatchResult r (λ _. P) (λ _. Q) → Leaves (number (coded (outcome means r))) P Q
  leaves (Ok x) zero_of own h = record { done = λ _. h; not_done = λ no. absurd (no (zero_of (means x))) }
  leaves (Err e) zero_of own h = record { done = λ is. absurd (some_number e (sym (own _ _) ∙ is)); not_done = λ _. h }

pub says_plan : (r : Result Planned Refusal) (o : Outcome Planned) (a : PlanAnswer) → Answers (λ p. p) r o → a ≡ coded_plan (outcome (λ p. p) r) → Says coded_plan a o
says_plan r o a answer is = subst (λ b. Says coded_plan b o) (sym is) (says (λ p. p) coded_plan r o answer)

pub says_row : (r : Result (Vec Changed Global) Refusal) (o : Outcome (List Changed)) (a : RowAnswer) → Answers vec_items r o → a ≡ coded_row (outcome vec_items r) → Says coded_row a o
says_row r o a answer is = subst (λ b. Says coded_row b o) (sym is) (says vec_items coded_row r o answer)

pub leaves_plan : (P Q : Type 0) (r : Result Planned Refusal) (a : PlanAnswer) → a ≡ coded_plan (outcome (λ p. p) r) → MatchResult r (λ _. P) (λ _. Q) → Leaves a.refusal P Q
leaves_plan P Q r a is h =
    subst (λ (b : PlanAnswer). Leaves b.refusal P Q) (sym is) (leaves (λ p. p) coded_plan (λ b. b.refusal) P Q r (λ x. refl) (λ n at. refl) h)

-- what holds of a plan that is answered holds of the numbers that are told
pub promised_plan : (P : Planned → Type 0) (r : Result Planned Refusal) (a : PlanAnswer) → a ≡ coded_plan (outcome (λ p. p) r) → IfOk r P → a.refusal ≡ 0 → P (record { rounds = a.rounds; looks = a.looks })
promised_plan P (Ok p) a is h zero = subst (λ (b : PlanAnswer). P (record { rounds = b.rounds; looks = b.looks })) (sym is) h
promised_plan P (Err e) a is h zero = absurd (some_number e (sym (ap (λ (b : PlanAnswer). b.refusal) is) ∙ zero))

pub leaves_row : (P Q : Type 0) (r : Result (Vec Changed Global) Refusal) (a : RowAnswer) → a ≡ coded_row (outcome vec_items r) → MatchResult r (λ _. P) (λ _. Q) → Leaves a.refusal P Q
leaves_row P Q r a is h =
    subst (λ (b : RowAnswer). Leaves b.refusal P Q) (sym is) (leaves vec_items coded_row (λ b. b.refusal) P Q r (λ x. refl) (λ n at. refl) h)

pub promised_row : (P : List Changed → Type 0) (r : Result (Vec Changed Global) Refusal) (a : RowAnswer) → a ≡ coded_row (outcome vec_items r) → IfOk r (λ v. P (vec_items v)) → a.refusal ≡ 0 → (ts : List Changed) × (a ≡ coded_row (accepted ts)) × P ts
promised_row P (Ok v) a is h zero = (vec_items v, is, h)
promised_row P (Err e) a is h zero = absurd (some_number e (sym (ap (λ (b : RowAnswer). b.refusal) is) ∙ zero))

-- the last of a list
pub last_said : (ts : List Changed) (t : Changed) → Some t ≡ slice_get ts (length ts - 1) → t ≡ last_of ts
last_said [] t is = cc
last_said (u ∷ []) t is = cc
last_said (u ∷ w ∷ ts) t is =
    let more : length (u ∷ w ∷ ts) - 1 ≡ suc (length (w ∷ ts) - 1) = omega arith in
    last_said (w ∷ ts) t (is ∙ ap (slice_get (u ∷ w ∷ ts)) more)

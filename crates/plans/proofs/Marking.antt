-- The marks say who was seen in which round among the meetings so far: at first nobody was, a meeting with a round adds its party
-- there, and one without adds nobody. Assumes nothing.
use Rattle.std.proofs.Common.{◌≡◌, ℕ, suc, ◌+◌, ◌*◌, ◌<◌, ◌≤◌, Bool, true, false, ◌&&◌, ◌||◌, eqb, List, length, set, replicate, sym, refl, ap, ◌∙◌, arith}
use Rattle.std.proofs.lemmas.Bool.{eq-eqb, eqb-true}
use Rattle.meetings.specs.declared.numbers.Meeting.{Meeting}
use Rattle.meetings.specs.declared.numbers.Side.{Side}
use Rattle.meetings.specs.Lists.{Exist, parties}
use Rattle.fewest.specs.Plans.{none}
use Rattle.chains.specs.Partial.{party_of, round_of}
use Rattle.plans.specs.Checking.{seen}
use Rattle.plans.specs.Seen.{Marks}
use Rattle.plans.proofs.Entries.{all_alike, none_written, one_written}

-- nobody was seen yet
pub marks_none : (n k : ℕ) (ms : List Meeting) (xs : List ℕ) (s : Side) (w : ℕ) (bs : List Bool) → Exist n k ms → bs ≡ replicate (parties s n k * w) false → Marks ms xs s w 0 bs
marks_none n k ms xs s w bs exist clear = all_alike false ms s w n k (λ p c b. b ≡ seen ms xs s p c 0) bs exist clear (λ p c. refl)

module _ (ms : List Meeting) (xs : List ℕ) (s : Side) (i : ℕ) where
  step : (p c : ℕ) → seen ms xs s p c (i + 1) ≡ seen ms xs s p c (suc i)
  step p c = let one : i + 1 ≡ suc i = omega arith in ap (seen ms xs s p c) one

  neither : (a b v : Bool) → (a ≡ true → b ≡ true → ⊥) → ((a && b) || v) ≡ v
  neither true true v h = absurd (h refl refl)
  neither true false v h = refl
  neither false b v h = refl

  -- of another party, or in another round, nobody more is seen
  still : (p c : ℕ) → ((p ≡ party_of ms s i) × (c ≡ round_of xs i) → ⊥) → seen ms xs s p c (i + 1) ≡ seen ms xs s p c i
  still p c other =
      step p c ∙ neither (eqb (party_of ms s i) p) (eqb (round_of xs i) c) (seen ms xs s p c i) (λ e f. other (sym (eqb-true _ _ e), sym (eqb-true _ _ f)))

  both : (a b v : Bool) → a ≡ true → b ≡ true → ((a && b) || v) ≡ true
  both a b v e f = rw (e, f) refl

  now_seen : seen ms xs s (party_of ms s i) (round_of xs i) (i + 1) ≡ true
  now_seen =
      step (party_of ms s i) (round_of xs i) ∙ both (eqb (party_of ms s i) (party_of ms s i)) (eqb (round_of xs i) (round_of xs i)) (seen ms xs s (party_of ms s i) (round_of xs i) i) (eq-eqb _ _ refl) (eq-eqb _ _ refl)

  module _ (w : ℕ) (bs : List Bool) (marks : Marks ms xs s w i bs) where
    -- a meeting without a round
    pub marks_passed : w ≤ none → round_of xs i ≡ none → Marks ms xs s w (i + 1) bs
    marks_passed narrow out =
        none_written false ms s w (λ p c b. b ≡ seen ms xs s p c i) (λ p c b. b ≡ seen ms xs s p c (i + 1)) bs marks
        (λ p c b within is. is ∙ sym (still p c (λ same. omega (arith, same.1))))

    -- a meeting with a round
    pub marks_more : (bs' : List Bool) → i < length ms → round_of xs i < w → bs' ≡ set bs (party_of ms s i * w + round_of xs i) true → Marks ms xs s w (i + 1) bs'
    marks_more bs' here below is =
        one_written false ms s w (λ p c b. b ≡ seen ms xs s p c i) (λ p c b. b ≡ seen ms xs s p c (i + 1)) bs marks bs' i (round_of xs i) true here below is (sym now_seen)
        (λ p c b within other is. is ∙ sym (still p c other))

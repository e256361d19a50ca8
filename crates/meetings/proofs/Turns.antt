-- One turn of reading: what is left gives the whole, one meeting on. Assumes nothing.
use Rattle.std.proofs.Common.{◌≡◌, ℕ, suc, ◌+◌, ◌-◌, ◌*◌, ◌<◌, List, [], ◌∷◌, ◌++◌, refl, ap, arith}
use Rattle.meetings.specs.declared.numbers.Meeting.{Meeting}
use Rattle.meetings.specs.Bytes.{meeting_at, meetings_at}
use Rattle.meetings.specs.Refusals.{Outcome, accepted, refused, then}

-- so many left, of which one is read
one_less : (bs : List ℕ) (n k left rest at : ℕ) (came : List Meeting) → left ≡ suc rest → meetings_at bs n k left at came ≡ then (meeting_at bs at n k) (λ m. meetings_at bs n k rest (at + 2) (came ++ m ∷ []))
one_less bs n k left rest at came e = ap (λ x. meetings_at bs n k x at came) e

module _ (bs : List ℕ) (n k many i : ℕ) (came : List Meeting) {whole : Outcome (List Meeting)} (h : i < many) (inv : meetings_at bs n k (many - i) (5 + 2 * i) came ≡ whole) where
  pub read_one : (m : Meeting) {now : List Meeting} → accepted m ≡ meeting_at bs (5 + 2 * i) n k → now ≡ came ++ m ∷ [] → meetings_at bs n k (many - (i + 1)) (5 + 2 * (i + 1)) now ≡ whole
  read_one m e pushed =
      let at : 5 + 2 * (i + 1) ≡ 5 + 2 * i + 2 = omega arith in
      let less : many - i ≡ suc (many - (i + 1)) = omega arith in
      rw (at, pushed, ← inv, one_less bs n k (many - i) (many - (i + 1)) (5 + 2 * i) came less, ← e) refl

  pub refused_one : {a b : ℕ} → refused a b ≡ meeting_at bs (5 + 2 * i) n k → refused a b ≡ whole
  refused_one e =
      let less : many - i ≡ suc (many - (i + 1)) = omega arith in
      rw (← inv, one_less bs n k (many - i) (many - (i + 1)) (5 + 2 * i) came less, ← e) refl

-- Entries that stand for the meetings so far: at first for none, then for one meeting more, which adds one entry or none. Assumes
-- nothing.
use Rattle.std.proofs.Common.{◌≡◌, ℕ, ◌+◌, ◌*◌, ◌<◌, List, length, get_or, set, replicate, sym, ap, ◌∙◌, ⊎_elim, subst, mul-le-mul_right, suc-mul, arith}
use Rattle.std.proofs.lemmas.List.{get_or-replicate, get_or-set_other, get_or-set_same, length-replicate, length-set}
use Rattle.std.proofs.lemmas.Bool.{cases_eq}
use Rattle.meetings.specs.declared.numbers.Meeting.{Meeting}
use Rattle.meetings.specs.declared.numbers.Side.{Side}
use Rattle.meetings.specs.Lists.{Exist, parties}
use Rattle.chains.specs.Partial.{party_of}
use Rattle.chains.proofs.RowsKept.{same_place}
use Rattle.plans.specs.Cells.{Cells}

module _ {A : Type 0} (past : A) (ms : List Meeting) (s : Side) (w : ℕ) where
  -- all are alike
  pub all_alike : (n k : ℕ) (P : ℕ → ℕ → A → Type 0) (es : List A) → Exist n k ms → es ≡ replicate (parties s n k * w) past → ((p c : ℕ) → P p c past) → Cells ms s w past P es
  all_alike n k P es exist clear says =
      let long : length es ≡ parties s n k * w = ap length clear ∙ length-replicate (parties s n k * w) past in
      record {
        room = λ j h. let more = suc-mul (party_of ms s j) w in omega (arith, long, mul-le-mul_right w (exist s j h));
        each = λ p c within here.
            let is : get_or es (p * w + c) past ≡ past = ap (λ l. get_or l (p * w + c) past) clear ∙ get_or-replicate (parties s n k * w) (p * w + c) past past (omega (arith, long)) in
            subst (P p c) (sym is) (says p c);
      }

  module _ (P Q : ℕ → ℕ → A → Type 0) (es : List A) (cells : Cells ms s w past P es) where
    -- none is written
    pub none_written : ((p c : ℕ) (x : A) → c < w → P p c x → Q p c x) → Cells ms s w past Q es
    none_written still = record { room = cells.room; each = λ p c within here. still p c (get_or es (p * w + c) past) within (cells.each p c within here) }

    -- the entry of a meeting's party in round c is written
    pub one_written : (es' : List A) (i c : ℕ) (x : A) → i < length ms → c < w → es' ≡ set es (party_of ms s i * w + c) x → Q (party_of ms s i) c x → ((p e : ℕ) (y : A) → e < w → ((p ≡ party_of ms s i) × (e ≡ c) → ⊥) → P p e y → Q p e y) → Cells ms s w past Q es'
    one_written es' i c x here below is this others =
        let at = party_of ms s i * w + c in
        let long : length es' ≡ length es = ap length is ∙ length-set es at x in
        record {
          room = λ j h. omega (arith, cells.room j h);
          each = λ p e within lies.
              ⊎_elim
              (λ same.
              let both = same_place w p e (party_of ms s i) c within below same in
              let now : get_or es' (p * w + e) past ≡ x = ap (λ l. get_or l (p * w + e) past) is ∙ ap (λ k. get_or (set es at x) k past) same ∙ get_or-set_same es at x past (omega (arith, cells.room i here)) in
              subst (Q p e) (sym now) (subst (λ q. Q q e x) (sym both.0) (subst (λ k. Q (party_of ms s i) k x) (sym both.1) this)))
              (λ other.
              let still : get_or es' (p * w + e) past ≡ get_or es (p * w + e) past = ap (λ l. get_or l (p * w + e) past) is ∙ get_or-set_other es at (p * w + e) x past other in
              subst (Q p e) (sym still)
              (others p e (get_or es (p * w + e) past) within (λ both. other (ap (λ q. q * w + e) both.0 ∙ ap (λ k. party_of ms s i * w + k) both.1)) (cells.each p e within (omega (arith, long)))))
              (cases_eq (p * w + e) at);
        }

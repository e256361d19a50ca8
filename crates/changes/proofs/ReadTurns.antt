-- One turn of reading changes: what is left gives the whole, one change on. Assumes nothing.
use Rattle.std.proofs.Common.{◌≡◌, ℕ, zero, suc, ◌+◌, ◌-◌, ◌<◌, ◌≤◌, List, [], ◌∷◌, ◌++◌, length, sym, refl, ap, ◌∙◌, arith}
use Rattle.std.proofs.lemmas.Bool.{lt-leb, le-leb}
use Rattle.std.proofs.lemmas.List.{length-append}
use Rattle.meetings.specs.Refusals.{Outcome, accepted, refused, then}
use Rattle.changes.specs.declared.change.Change.{Change}
use Rattle.changes.specs.Bytes.{changes_at, next_at, width_of}
use Rattle.changes.specs.Numbered.{Numbered, changed}

module _ (v : Numbered) (bs : List ℕ) (at : ℕ) (came : List Change) where
  -- at the end of the bytes, however many changes might come
  pub past_end : (left : ℕ) → length bs ≤ at → changes_at v bs left at came ≡ accepted came
  past_end zero h = refl
  past_end (suc left) h = rw (le-leb (length bs) at h) refl

  pub one_less : (left rest : ℕ) → left ≡ suc rest → at < length bs → changes_at v bs left at came ≡ then (next_at v bs at (length came)) (λ c. changes_at (changed v c) bs rest (at + width_of c) (came ++ c ∷ []))
  one_less left rest e h = ap (λ x. changes_at v bs x at came) e ∙ (rw (lt-leb (length bs) at h) refl)

  module _ {whole : Outcome (List Change)} (inv : changes_at v bs (length bs - length came) at came ≡ whole) where
    pub read_end : length bs ≤ at → accepted came ≡ whole
    read_end h = sym (past_end (length bs - length came) h) ∙ inv

    module _ (h : at < length bs) (few : length came ≤ at) (z : ℕ) (many : z ≡ length came) where
      less : length bs - length came ≡ suc (length bs - suc (length came))
      less = omega arith

      pub read_one : (c : Change) (w : Numbered) (now : List Change) (next : ℕ) → accepted c ≡ next_at v bs at z → w ≡ changed v c → now ≡ came ++ c ∷ [] → next ≡ at + width_of c → changes_at w bs (length bs - length now) next now ≡ whole
      read_one c w now next e same pushed wide =
          let long : length bs - length now ≡ length bs - suc (length came) = omega (arith, ap length pushed, length-append came (c ∷ [])) in
          rw (long, same, pushed, wide, ← inv, one_less (length bs - length came) (length bs - suc (length came)) less h, ← many, ← e) refl

      pub read_refused : {a b : ℕ} → refused a b ≡ next_at v bs at z → refused a b ≡ whole
      read_refused e =
          rw (← inv, one_less (length bs - length came) (length bs - suc (length came)) less h, ← many, ← e) refl

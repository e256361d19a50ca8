-- A row tells just the meetings of a plan, since a party has at most one in a round. Assumes nothing.
use Rattle.std.proofs.Common.{◌≡◌, ℕ, ◌<◌, ◌≤◌, Option, Some, None, ltb, List, length, sym, ap, ◌∙◌, ⊎_elim, arith}
use Rattle.std.proofs.lemmas.Bool.{cond-false, cond-true, le-ltb, lt-ltb}
use Rattle.meetings.specs.declared.numbers.Meeting.{Meeting}
use Rattle.meetings.specs.declared.numbers.Side.{Side}
use Rattle.meetings.specs.declared.numbers.Side.TheVariants.{Groups, Stations}
use Rattle.meetings.specs.Lists.{other_side}
use Rattle.fewest.specs.Plans.{none}
use Rattle.chains.specs.Partial.{Partial, Vacant, meeting_of, party_of, round_of}
use Rattle.chains.proofs.Entries.{at_cases, at_found, at_none}
use Rattle.sheets.specs.Entered.{Has, Tells}
use Rattle.sheets.specs.Met.{Meets, RowsTellMeetings, SheetsAgree, met, partner}

partner_here : (ms : List Meeting) (s : Side) (i : ℕ) → i < length ms → partner ms s i ≡ Some (party_of ms (other_side s) i)
partner_here ms s i h = cond-true (ltb i (length ms)) (Some (party_of ms (other_side s) i)) None (lt-ltb i (length ms) h)

partner_none : (ms : List Meeting) (s : Side) (i : ℕ) → length ms ≤ i → partner ms s i ≡ None
partner_none ms s i h = cond-false (ltb i (length ms)) (Some (party_of ms (other_side s) i)) None (le-ltb i (length ms) h)

some_same : {x y : ℕ} → Some x ≡ Some y → x ≡ y
some_same e = cc e

not_some : {x : ℕ} → ◌≡◌ {A = Option ℕ} None (Some x) → ⊥
not_some e = let z : ◌≡◌ {A = ℕ} 0 1 = cc e in omega arith

module _ (r : ℕ) (ms : List Meeting) (xs : List ℕ) (s : Side) (p c : ℕ) (few : length ms ≤ none) (le : r ≤ none) (part : Partial r ms xs) (within : c < r) where
  found : ℕ
  found = meeting_of ms xs s p c

  -- what is found is the only one
  only : (i : ℕ) → i < length ms → Has ms xs s p c i → (meeting_of ms xs s p c < length ms) × (meeting_of ms xs s p c ≡ i)
  only i h has =
      ⊎_elim
      (λ past. absurd (at_none (length ms) (party_of ms s) (round_of xs) p c past few i h has.1 has.0))
      (λ below.
      let f = at_found (length ms) (party_of ms s) (round_of xs) p c few below in
      (below, part.apart s (meeting_of ms xs s p c) i below h (omega (arith, f.1)) (f.1 ∙ sym has.0) (f.0 ∙ sym has.1)))
      (at_cases (length ms) (party_of ms s) (round_of xs) p c)

  met_one : (i : ℕ) → i < length ms → Has ms xs s p c i → met ms xs s p c ≡ Some (party_of ms (other_side s) i)
  met_one i h has = let one = only i h has in ap (partner ms s) one.1 ∙ partner_here ms s i h

  met_nobody : Vacant ms xs s p c → met ms xs s p c ≡ None
  met_nobody vacant =
      ⊎_elim
      (λ past. partner_none ms s (meeting_of ms xs s p c) (omega (arith, past)))
      (λ below. let f = at_found (length ms) (party_of ms s) (round_of xs) p c few below in absurd (vacant (meeting_of ms xs s p c) below f.1 f.0))
      (at_cases (length ms) (party_of ms s) (round_of xs) p c)

  met_some : (v : ℕ) → met ms xs s p c ≡ Some v → Meets ms xs s p c v
  met_some v e =
      ⊎_elim
      (λ past. absurd (not_some (sym (partner_none ms s (meeting_of ms xs s p c) (omega (arith, past))) ∙ e)))
      (λ below.
      let f = at_found (length ms) (party_of ms s) (round_of xs) p c few below in
      record {
        meeting = meeting_of ms xs s p c;
        here = below;
        in_round = f.1;
        one = f.0;
        other = some_same (sym (partner_here ms s (meeting_of ms xs s p c) below) ∙ e);
      })
      (at_cases (length ms) (party_of ms s) (round_of xs) p c)

  met_none : met ms xs s p c ≡ None → Vacant ms xs s p c
  met_none e i h in_c of_p = not_some (sym e ∙ met_one i h (in_c, of_p))

  -- an entry of all meetings is what the party meets
  pub entry_is : (o : Option ℕ) → Tells ms xs s p c (length ms) o → o ≡ met ms xs s p c
  entry_is None nobody = sym (met_nobody (λ i h in_c of_p. nobody i h (in_c, of_p)))
  entry_is (Some v) told = ap Some (sym told.3) ∙ sym (met_one told.0 told.1 told.2)

pub rows_tell_meetings : RowsTellMeetings
rows_tell_meetings r ms xs s p c few le part within = (
  λ v. (met_some r ms xs s p c few le part within v, λ m. met_one r ms xs s p c few le part within m.meeting m.here (m.in_round, m.one) ∙ ap Some m.other),
  (met_none r ms xs s p c few le part within, met_nobody r ms xs s p c few le part within),
)

pub sheets_agree : SheetsAgree
sheets_agree r ms xs g k c few le part within = (
  λ e. let m = met_some r ms xs Groups g c few le part within k e in met_one r ms xs Stations k c few le part within m.meeting m.here (m.in_round, m.other) ∙ ap Some m.one,
  λ e. let m = met_some r ms xs Stations k c few le part within g e in met_one r ms xs Groups g c few le part within m.meeting m.here (m.in_round, m.other) ∙ ap Some m.one,
)

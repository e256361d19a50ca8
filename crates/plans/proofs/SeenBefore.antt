-- A party is seen in a round before meeting i just where an earlier meeting has it there; so meeting i is alone just where no earlier
-- one clashes with it. Assumes nothing.
use Rattle.std.proofs.Common.{◌≡◌, ◌≢◌, ℕ, zero, suc, ◌<◌, true, false, ◌&&◌, eqb, not, List, sym, refl, ap, ◌∙◌, ⊎_elim, arith}
use Rattle.std.proofs.lemmas.Bool.{and_from, and_parts, both_ways, cases_eq, eq-eqb, eqb-true, ne_eqb, or_cases, or_left, or_right}
use Rattle.meetings.specs.declared.numbers.Meeting.{Meeting}
use Rattle.meetings.specs.declared.numbers.Side.{Side}
use Rattle.meetings.specs.Refusals.{place_of_clash, refused}
use Rattle.fewest.specs.Plans.{none}
use Rattle.chains.specs.Partial.{party_of, round_of}
use Rattle.changes.specs.Days.{has_round}
use Rattle.changes.proofs.Standing.{round_has}
use Rattle.plans.specs.Checking.{alone, fine, seen}
use Rattle.plans.proofs.Tests.{if_fine, if_refused}

pub has_round_from : (x : ℕ) → x ≢ none → has_round x ≡ true
has_round_from x some = ap not (ne_eqb x none some)

-- an earlier meeting of party p in round c
pub record Earlier (ms : List Meeting) (xs : List ℕ) (s : Side) (p c i : ℕ) : Type 0 where
  pub meeting : ℕ
  pub before : meeting < i
  pub of : party_of ms s meeting ≡ p
  pub in_it : round_of xs meeting ≡ c

module _ (ms : List Meeting) (xs : List ℕ) (s : Side) where
  pub earlier_of_seen : (p c i : ℕ) → seen ms xs s p c i ≡ true → Earlier ms xs s p c i
  earlier_of_seen p c zero e = absurd (both_ways false refl e)
  earlier_of_seen p c (suc i) e =
      ⊎_elim
      (λ here.
      let both = and_parts (eqb (party_of ms s i) p) (eqb (round_of xs i) c) here in
      record { meeting = i; before = omega arith; of = eqb-true (party_of ms s i) p both.0; in_it = eqb-true (round_of xs i) c both.1 })
      (λ more.
      let one = earlier_of_seen p c i more in
      record { meeting = one.meeting; before = omega (arith, one.before); of = one.of; in_it = one.in_it })
      (or_cases (eqb (party_of ms s i) p && eqb (round_of xs i) c) (seen ms xs s p c i) e)

  pub seen_of_earlier : (p c i j : ℕ) → j < i → party_of ms s j ≡ p → round_of xs j ≡ c → seen ms xs s p c i ≡ true
  seen_of_earlier p c zero j before of in_it = absurd (omega arith)
  seen_of_earlier p c (suc i) j before of in_it =
      ⊎_elim
      (λ same. or_left _ _ (and_from _ _ (eq-eqb (party_of ms s i) p (ap (party_of ms s) (sym same) ∙ of)) (eq-eqb (round_of xs i) c (ap (round_of xs) (sym same) ∙ in_it))))
      (λ other. or_right _ _ (seen_of_earlier p c i j (omega arith) of in_it))
      (cases_eq j i)

  -- what is refused at meeting i
  pub record Clashes (i number place : ℕ) : Type 0 where
    pub number_is : number ≡ 8
    pub place_is : place ≡ place_of_clash s i
    pub some : round_of xs i ≢ none
    pub earlier : Earlier ms xs s (party_of ms s i) (round_of xs i) i

  pub clash_if_refused : (i number place : ℕ) → alone ms xs s i ≡ refused number place → Clashes i number place
  clash_if_refused i number place e =
      let why = if_refused (has_round (round_of xs i) && seen ms xs s (party_of ms s i) (round_of xs i) i) 8 (place_of_clash s i) number place e in
      let both = and_parts (has_round (round_of xs i)) (seen ms xs s (party_of ms s i) (round_of xs i) i) why.0 in
      record {
        number_is = sym why.1;
        place_is = sym why.2;
        some = round_has (round_of xs i) both.0;
        earlier = earlier_of_seen (party_of ms s i) (round_of xs i) i both.1;
      }

  pub no_clash_if_fine : (j i : ℕ) → alone ms xs s i ≡ fine → j < i → round_of xs i ≢ none → round_of xs j ≡ round_of xs i → party_of ms s j ≡ party_of ms s i → ⊥
  no_clash_if_fine j i e before some in_it of =
      both_ways (has_round (round_of xs i) && seen ms xs s (party_of ms s i) (round_of xs i) i)
      (if_fine _ 8 (place_of_clash s i) e)
      (and_from _ _ (has_round_from (round_of xs i) some) (seen_of_earlier (party_of ms s i) (round_of xs i) i j before of in_it))

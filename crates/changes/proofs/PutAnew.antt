-- Only those that wait are put in by the steps, and who waits is new, or its round is no more: a meeting from before that is there
-- had a round, and it has none only where that is not one of those that are left. Assumes nothing.
use Rattle.std.proofs.Common.{◌≡◌, ℕ, zero, suc, ◌≤◌, Bool, true, false, cond, ltb, List, [], ◌∷◌, ◌++◌, length, get_or, map, sym, ap, ◌∙◌, inl, inr, ⊎_elim, arith}
use Rattle.std.proofs.lemmas.Bool.{both_ways, cases_lt}
use Rattle.std.proofs.lemmas.Bool.Decides.{nat_tests}
use Rattle.meetings.specs.declared.numbers.Meeting.{Meeting}
use Rattle.meetings.specs.declared.numbers.Side.TheVariants.{Groups, Stations}
use Rattle.fewest.specs.Plans.{none}
use Rattle.chains.specs.Chains.{holds}
use Rattle.chains.specs.Partial.{round_of}
use Rattle.chains.proofs.Members.{first_held, rest_held}
use Rattle.placing.specs.Putting.{Placed, put, own_free, common_free}
use Rattle.placing.specs.Steps.{Step, chained, exchange, put_in, put_steps}
use Rattle.balance.specs.Evening.{exchange_steps, extremes, one_exchange}
use Rattle.balance.specs.Looking.{look}
use Rattle.balance.specs.Sizes.{emptiest, fullest, size, uneven}
use Rattle.changes.specs.declared.change.Change.{Change}
use Rattle.changes.specs.Days.{Day, has_round}
use Rattle.changes.specs.Making.{noted, put_each_steps, taken_out}
use Rattle.changes.specs.Numbered.{there_after}
use Rattle.changes.specs.Statements.{Anew, PutsAnew}
use Rattle.changes.proofs.Standing.{round_has}
use Rattle.changes.proofs.Noted.{goes_or_stays, round_taken}

module _ (d : Day) (c : Change) (r : ℕ) where
  anew_if : (b : Bool) (ts us : List Step) → PutsAnew d c r ts → PutsAnew d c r us → PutsAnew d c r (cond b ts us)
  anew_if true ts us one two = one
  anew_if false ts us one two = two

  pub anew_then : (ts us : List Step) → PutsAnew d c r ts → PutsAnew d c r us → PutsAnew d c r (ts ++ us)
  anew_then [] us one two = two
  anew_then (exchange a b is ∷ ts) us one two = anew_then ts us one two
  anew_then (put_in i x ∷ ts) us one two = (one.0, anew_then ts us one.1 two)

  -- putting in one meeting puts in that one
  anew_put : (ms : List Meeting) (xs : List ℕ) (i : ℕ) → Anew d c r i → PutsAnew d c r (put_steps r ms xs i)
  anew_put ms xs i h =
      anew_if (ltb (common_free r ms xs i) r) (put_in i (common_free r ms xs i) ∷ []) (exchange (own_free r ms xs i Groups) (own_free r ms xs i Stations) (chained r ms xs i) ∷ put_in i (own_free r ms xs i Groups) ∷ []) (h, tt) (h, tt)

  -- putting in these
  pub anew_each : (ms : List Meeting) (is xs : List ℕ) → ((i : ℕ) → holds is i ≡ true → Anew d c r i) → PutsAnew d c r (put_each_steps r ms is xs)
  anew_each ms [] xs h = tt
  anew_each ms (i ∷ is) xs h =
      anew_then (put_steps r ms xs i) (put_each_steps r ms is (put r ms xs i).rounds) (anew_put ms xs i (h i (first_held i is)))
      (anew_each ms is (put r ms xs i).rounds (λ j w. h j (rest_held i is j w)))

  -- evening out puts in nobody
  pub anew_even : (ms : List Meeting) (left : ℕ) (p : Placed) → PutsAnew d c r (exchange_steps r ms left p)
  anew_even ms zero p = tt
  anew_even ms (suc left) p =
      anew_if (uneven r (size p.rounds)) (exchange (fullest r (size p.rounds)) (emptiest r (size p.rounds)) (look (extremes r ms p.rounds)).taken ∷ exchange_steps r ms left (one_exchange r ms p)) [] (anew_even ms left (one_exchange r ms p)) tt

  -- WHO IS THERE WITHOUT A ROUND is new, or its round is no more
  pub waits_anew : (i : ℕ) → r ≤ none → get_or (there_after (map has_round d.at) c) i false ≡ true → round_of (taken_out r (noted d.at c)) i ≡ none → Anew d c r i
  waits_anew i le there out =
      ⊎_elim
      (λ h. ⊎_elim
      (λ goes. absurd (both_ways _ goes.away there))
      (λ stays. inr (no_more (round_of d.at i) (sym stays.there ∙ there) (ap (λ x. cond (ltb x r) x none) (sym stays.same) ∙ sym (round_taken r (noted d.at c) i) ∙ out)))
      (goes_or_stays d.at c i h))
      (λ past. inl past)
      (cases_lt i (length d.at))
    where
      no_more : (x : ℕ) → has_round x ≡ true → cond (ltb x r) x none ≡ none → (r ≤ x) × (x ≡ none → ⊥)
      no_more x some e = (past x some e, round_has x some)
        where
          past : (x : ℕ) → has_round x ≡ true → cond (ltb x r) x none ≡ none → r ≤ x
          past x some e = grind (arith, nat_tests)

-- Making a plan again is done by allowed steps: a meeting is put in after an exchange on a whole chain, which frees its round, and
-- rounds are evened out by exchanges on whole parts. Who is named by no step keeps the round. Assumes nothing.
use Rattle.std.proofs.Common.{◌≡◌, ℕ, zero, suc, ◌+◌, ◌<◌, ◌≤◌, Bool, true, false, cond, ltb, List, [], ◌∷◌, ◌++◌, length, set, sym, refl, ap, ◌∙◌, subst, ⊎_elim, arith}
use Rattle.std.proofs.lemmas.List.{get_or-set_other}
use Rattle.std.proofs.lemmas.Bool.{both_ways, cond-false, ltb-false, ltb-true, cases_Bool}
use Rattle.meetings.specs.declared.numbers.Meeting.{Meeting}
use Rattle.meetings.specs.declared.numbers.Side.TheVariants.{Groups, Stations}
use Rattle.meetings.specs.Lists.{Exist}
use Rattle.fewest.specs.Plans.{none, in_round}
use Rattle.chains.specs.Chains.{holds}
use Rattle.chains.specs.Exchanges.{exchanged}
use Rattle.chains.specs.Partial.{Partial, round_of}
use Rattle.chains.proofs.Exchange.{exchanged_none, exchanged_stays}
use Rattle.chains.proofs.Members.{append_cases, first_held, held_cases, none_held, unless}
use Rattle.placing.specs.Putting.{Placed, placed, chain_for, common_free, own_free, put, put_by_chain}
use Rattle.placing.specs.Statements.{Ready}
use Rattle.placing.specs.Steps.{Leads, Step, all_named, chained, exchange, put_in, put_steps}
use Rattle.placing.proofs.Opens.{chain_opens}
use Rattle.placing.proofs.PutOne.{chain_frees, common_frees, puts}
use Rattle.balance.specs.Evening.{even_out, even_steps, exchange_steps, exchanges, one_exchange, extremes}
use Rattle.balance.specs.Looking.{look}
use Rattle.balance.specs.Sizes.{emptiest, far, fullest, size, uneven}
use Rattle.balance.proofs.Extremes.{emptiest_is, fullest_is, uneven_is}
use Rattle.balance.proofs.FirstPart.{finds_first}
use Rattle.balance.proofs.OneExchange.{one_exchange_is, some_rounds}
use Rattle.balance.proofs.Passed.{in_back, in_front}
use Rattle.changes.specs.Making.{again_steps, made_again, put_each, put_each_steps, put_waiting, waiting}
use Rattle.changes.specs.Numbered.{Numbered}
use Rattle.changes.proofs.Again.{again_is, puts_waiting}
use Rattle.changes.specs.Waiting.{Spared, WhilePutting, is_there}
use Rattle.changes.proofs.PuttingEach.{each_ready, one_put}

-- steps, and then further steps
pub leads_then : (r : ℕ) (ms : List Meeting) (ts us : List Step) (xs ys zs : List ℕ) → Leads r ms ts xs ys → Leads r ms us ys zs → Leads r ms (ts ++ us) xs zs
leads_then r ms [] us xs ys zs one two = subst (λ l. Leads r ms us l zs) (sym one) two
leads_then r ms (exchange a b is ∷ ts) us xs ys zs one two = (one.0, leads_then r ms ts us (exchanged a b is xs) ys zs one.1 two)
leads_then r ms (put_in i c ∷ ts) us xs ys zs one two = (one.0, leads_then r ms ts us (set xs i c) ys zs one.1 two)

-- steps that depend on a test, as what they lead to does
leads_if : (r : ℕ) (ms : List Meeting) (b : Bool) (ts us : List Step) (xs : List ℕ) (p q : Placed) → (b ≡ true → Leads r ms ts xs p.rounds) → (b ≡ false → Leads r ms us xs q.rounds) → Leads r ms (cond b ts us) xs (cond b p q).rounds
leads_if r ms true ts us xs p q one two = one refl
leads_if r ms false ts us xs p q one two = two refl

module _ (n k r : ℕ) (ms : List Meeting) (xs : List ℕ) (i : ℕ) (ready : Ready n k r ms xs i) where
  -- a chain that opens a round is exchanged, and the meeting gets the round
  by_chain : r ≤ common_free r ms xs i → Leads r ms (exchange (own_free r ms xs i Groups) (own_free r ms xs i Stations) (chain_for ms xs i (own_free r ms xs i Groups) (own_free r ms xs i Stations)) ∷ put_in i (own_free r ms xs i Groups) ∷ []) xs (put_by_chain ms xs i (own_free r ms xs i Groups) (own_free r ms xs i Stations)).rounds
  by_chain no_common =
      let a = own_free r ms xs i Groups in
      let b = own_free r ms xs i Stations in
      let is = chain_for ms xs i a b in
      let found = chain_opens n k r ms xs i ready no_common in
      let frees = chain_frees n k ms xs i a b is ready.plan.each found.2 in
      ((found.0, found.1, found.2.different, _, found.2.whole), ((ready.here, found.0, exchanged_none a b is xs r i ready.rounds found.0 found.1 ready.out, λ s j h e p. frees s j h e p), refl))

  -- PUTTING IN ONE MEETING
  pub put_leads : Leads r ms (put_steps r ms xs i) xs (put r ms xs i).rounds
  put_leads =
      let a = own_free r ms xs i Groups in
      let b = own_free r ms xs i Stations in
      let c = common_free r ms xs i in
      leads_if r ms (ltb c r) (put_in i c ∷ []) (exchange a b (chained r ms xs i) ∷ put_in i a ∷ []) xs (placed (set xs i c) 1) (put_by_chain ms xs i a b)
      (λ common. let below = ltb-true c r common in ((ready.here, below, ready.out, λ s j h e p. common_frees n k r ms xs i ready below s j h e p), refl))
      (λ no_common. subst (λ is. Leads r ms (exchange a b is ∷ put_in i a ∷ []) xs (put_by_chain ms xs i a b).rounds) (sym (cond-false (ltb c r) [] (chain_for ms xs i a b) no_common)) (by_chain (ltb-false c r no_common)))

module _ (r : ℕ) (ms : List Meeting) (le : r ≤ none) (few : length ms ≤ none) where
  -- the part that looking finds in the fullest and the emptiest round is a whole one
  one_leads : (xs : List ℕ) → Partial r ms xs → uneven r (size xs) ≡ true → (ts : List Step) (zs : List ℕ) → Leads r ms ts (exchanged (fullest r (size xs)) (emptiest r (size xs)) (look (extremes r ms xs)).taken xs) zs → Leads r ms (exchange (fullest r (size xs)) (emptiest r (size xs)) (look (extremes r ms xs)).taken ∷ ts) xs zs
  one_leads xs plan apart ts zs rest =
      let some = some_rounds r (size xs) apart in
      let a = fullest r (size xs) in
      let b = emptiest r (size xs) in
      let la = (fullest_is r (size xs) some).0 in
      let lb = (emptiest_is r (size xs) some).0 in
      let more : in_round b xs < in_round a xs = omega (arith, uneven_is r (size xs) apart) in
      let found = finds_first r ms xs a b le few plan la lb more in
      ((la, lb, (λ e. omega (arith, ap (λ c. in_round c xs) e)), found.0, found.1.whole), rest)

  -- so many exchanges at most; how many looks there were before is all one
  exchanges_lead : (left : ℕ) (xs : List ℕ) (l l' : ℕ) → Partial r ms xs → Leads r ms (exchange_steps r ms left (placed xs l)) xs (exchanges r ms left (placed xs l')).rounds
  exchanges_lead zero xs l l' plan = refl
  exchanges_lead (suc left) xs l l' plan =
      let p = placed xs l in
      let p' = placed xs l' in
      let one = one_exchange r ms p in
      let one' = one_exchange r ms p' in
      let step = exchange (fullest r (size xs)) (emptiest r (size xs)) (look (extremes r ms xs)).taken in
      leads_if r ms (uneven r (size xs)) (step ∷ exchange_steps r ms left one) [] xs (exchanges r ms left one') p'
      (λ apart. one_leads xs plan apart (exchange_steps r ms left one) (exchanges r ms left one').rounds (exchanges_lead left one.rounds one.looks one'.looks (one_exchange_is r ms p le few plan apart).plan))
      (λ even. refl)

  -- EVENING OUT
  pub even_leads : (xs : List ℕ) (l l' : ℕ) → Partial r ms xs → Leads r ms (even_steps r ms (placed xs l)) xs (even_out r ms (placed xs l')).rounds
  even_leads xs l l' plan = exchanges_lead (far r (size xs)) xs l l' plan

module _ (n k r : ℕ) (v : Numbered) (exist : Exist n k v.list.meetings) (few : length v.list.meetings ≤ none) (le : r ≤ none) (spared : Spared r v) where
  -- putting in all that wait
  puts_lead : (is : List ℕ) (p : Placed) → WhilePutting r v is p.rounds → Leads r v.list.meetings (put_each_steps r v.list.meetings is p.rounds) p.rounds (put_each r v.list.meetings is p).rounds
  puts_lead [] p h = refl
  puts_lead (i ∷ is) p h =
      let ready = each_ready n k r v exist few le spared i is p.rounds h in
      let q = put r v.list.meetings p.rounds i in
      let next = placed q.rounds (p.looks + q.looks) in
      leads_then r v.list.meetings (put_steps r v.list.meetings p.rounds i) (put_each_steps r v.list.meetings is q.rounds) p.rounds q.rounds (put_each r v.list.meetings is next).rounds (put_leads n k r v.list.meetings p.rounds i ready)
      (puts_lead is next (one_put n k r v exist few le spared i is p.rounds q h (puts n k r v.list.meetings p.rounds i ready)))

  module _ (xs : List ℕ) (waits : WhilePutting r v (waiting v.there xs) xs) where
    -- MAKING A PLAN AGAIN
    pub again_leads : Leads r v.list.meetings (again_steps r v xs) xs (made_again r v xs).rounds
    again_leads =
        let p = put_waiting r v xs in
        leads_then r v.list.meetings (put_each_steps r v.list.meetings (waiting v.there xs) xs) (even_steps r v.list.meetings (placed p.rounds 0)) xs p.rounds (made_again r v xs).rounds
        (puts_lead (waiting v.there xs) (placed xs 0) waits)
        (even_leads r v.list.meetings le few p.rounds 0 p.looks (puts_waiting n k r v exist few le spared xs waits).after.plan)

-- who is not named in two rows of steps is named in neither
unnamed_before : (is js : List ℕ) (i : ℕ) → holds (is ++ js) i ≡ false → holds is i ≡ false
unnamed_before is js i out = unless (holds is i) (λ h. both_ways (holds (is ++ js) i) out (in_front is js i h))

unnamed_after : (is js : List ℕ) (i : ℕ) → holds (is ++ js) i ≡ false → holds js i ≡ false
unnamed_after is js i out = unless (holds js i) (λ h. both_ways (holds (is ++ js) i) out (in_back is js i h))

-- WHO IS NAMED BY NO STEP keeps the round
pub unnamed_stays : (r : ℕ) (ms : List Meeting) (ts : List Step) (xs ys : List ℕ) (i : ℕ) → Leads r ms ts xs ys → holds (all_named ts) i ≡ false → round_of ys i ≡ round_of xs i
unnamed_stays r ms [] xs ys i leads out = ap (λ l. round_of l i) (sym leads)
unnamed_stays r ms (exchange a b is ∷ ts) xs ys i leads out =
    unnamed_stays r ms ts (exchanged a b is xs) ys i leads.1 (unnamed_after is (all_named ts) i out) ∙ exchanged_stays a b is xs i (unnamed_before is (all_named ts) i out)
unnamed_stays r ms (put_in z c ∷ ts) xs ys i leads out =
    unnamed_stays r ms ts (set xs z c) ys i leads.1 (unnamed_after (z ∷ []) (all_named ts) i out)
    ∙ get_or-set_other xs z i c none (λ this. both_ways (holds (z ∷ []) i) (unnamed_before (z ∷ []) (all_named ts) i out) (ap (holds (z ∷ [])) this ∙ first_held z []))

-- who waits is named, since there is a round afterwards
pub puts_named : (n k r : ℕ) (v : Numbered) (xs : List ℕ) (i : ℕ) → Exist n k v.list.meetings → length v.list.meetings ≤ none → r ≤ none → Spared r v → length v.there ≡ length v.list.meetings → WhilePutting r v (waiting v.there xs) xs → holds (waiting v.there xs) i ≡ true → holds (all_named (again_steps r v xs)) i ≡ true
puts_named n k r v xs i exist few le spared long waits w =
    ⊎_elim
    (λ h. h)
    (λ out. absurd (omega (arith, unnamed_stays r v.list.meetings (again_steps r v xs) xs (made_again r v xs).rounds i (again_leads n k r v exist few le spared xs waits) out, now, was.2)))
    (cases_Bool (holds (all_named (again_steps r v xs)) i))
  where
    was : (i < length v.list.meetings) × (is_there v i ≡ true) × (round_of xs i ≡ none)
    was = waits.waits i w

    now : round_of (made_again r v xs).rounds i < r
    now = (again_is n k r v exist few le spared xs waits long).has i was.0 was.1

-- only meetings are named
pub named_below : (r : ℕ) (ms : List Meeting) (ts : List Step) (xs ys : List ℕ) → Leads r ms ts xs ys → (i : ℕ) → holds (all_named ts) i ≡ true → i < length ms
named_below r ms [] xs ys leads i h = absurd (none_held i h)
named_below r ms (exchange a b is ∷ ts) xs ys leads i h =
    ⊎_elim (λ here. (leads.0.4.within i here).0) (named_below r ms ts (exchanged a b is xs) ys leads.1 i) (append_cases is (all_named ts) i h)
named_below r ms (put_in z c ∷ ts) xs ys leads i h =
    ⊎_elim (λ this. omega (arith, leads.0.0, this)) (named_below r ms ts (set xs z c) ys leads.1 i) (held_cases z (all_named ts) i h)

-- Each meeting can be put in: into a round in which its group and its station are free; where they have none in common, the
-- chain is exchanged first, and then both are free in its first round. Assumes nothing.
use Rattle.std.proofs.Common.{◌≡◌, ℕ, ◌+◌, ◌<◌, ◌≤◌, true, ◌&&◌, ltb, List, length, set, sym, refl, ap, ◌∙◌, subst, inr, ⊎_elim, arith}
use Rattle.std.proofs.lemmas.List.{length-set, get_or-set_same, get_or-set_other}
use Rattle.std.proofs.lemmas.Bool.{both_ways, cases_lt, cases_eq, and_parts, cond-true, cond-false, lt-ltb, le-ltb}
use Rattle.meetings.specs.declared.numbers.Meeting.{Meeting}
use Rattle.meetings.specs.declared.numbers.Side.{Side}
use Rattle.meetings.specs.declared.numbers.Side.TheVariants.{Groups, Stations}
use Rattle.fewest.specs.Plans.{none}
use Rattle.chains.specs.Exchanges.{exchanged}
use Rattle.chains.specs.Partial.{Partial, Vacant, party_of, round_of}
use Rattle.chains.proofs.Exchange.{exchange_keeps, exchanged_below, exchanged_none, exchanged_to}
use Rattle.chains.proofs.Lowest.{lowest_of}
use Rattle.placing.specs.Putting.{Placed, placed, free, common_free, after_chain}
use Rattle.placing.specs.Statements.{Ready, Opens, PutIn, Puts}
use Rattle.placing.proofs.FreeRounds.{free_is}
use Rattle.placing.proofs.Opens.{chain_opens}

-- neither party of meeting i has a meeting in round c
abbrev pub BothFree : List Meeting → List ℕ → ℕ → ℕ → Type 0
BothFree ms xs i c = (s : Side) → Vacant ms xs s (party_of ms s i) c

module _ (r : ℕ) (ms : List Meeting) (xs : List ℕ) (i c : ℕ) (plan : Partial r ms xs) (here : i < length ms) (below : c < r) where
  pub set_here : round_of (set xs i c) i ≡ c
  set_here = get_or-set_same xs i c none (omega (arith, plan.each))

  pub set_there : (j : ℕ) → (j ≡ i → ⊥) → round_of (set xs i c) j ≡ round_of xs j
  set_there j other = get_or-set_other xs i j c none other

  -- a meeting that gets a round in which both its parties are free leaves a partial plan
  pub placed_keeps : BothFree ms xs i c → Partial r ms (set xs i c)
  placed_keeps both = record {
    each = length-set xs i c ∙ plan.each;
    round = λ j h. ⊎_elim (λ this. inr (placed j this)) (λ other. rw (set_there j other) (plan.round j h)) (cases_eq j i);
    apart = λ s j k hj hk l e p. ⊎_elim
        (λ this. ⊎_elim
        (λ also. this ∙ sym also)
        (λ other. absurd (both s k hk (sym (set_there k other) ∙ sym e ∙ ap (round_of (set xs i c)) this ∙ set_here) (sym p ∙ ap (party_of ms s) this)))
        (cases_eq k i))
        (λ other. ⊎_elim
        (λ this. absurd (both s j hj (sym (set_there j other) ∙ e ∙ ap (round_of (set xs i c)) this ∙ set_here) (p ∙ ap (party_of ms s) this)))
        (λ also. plan.apart s j k hj hk (rw (set_there j other) at l) (sym (set_there j other) ∙ e ∙ set_there k also) p)
        (cases_eq k i))
        (cases_eq j i);
  }
    where
      placed : (j : ℕ) → j ≡ i → round_of (set xs i c) j < r
      placed j this = rw (this, set_here) below

-- a meeting is put in by giving it such a round, after changes that take no round from any meeting and give none to any
given : (n k r : ℕ) (ms : List Meeting) (xs ys : List ℕ) (i c looks : ℕ) → i < length ms → c < r → Partial r ms ys → BothFree ms ys i c → ((j : ℕ) → j < length ms → round_of xs j < r → round_of ys j < r) → ((j : ℕ) → round_of xs j ≡ none → round_of ys j ≡ none) → looks ≤ 1 + n + k → PutIn n k r ms xs i (placed (set ys i c) looks)
given n k r ms xs ys i c looks here below plan both still others most = record {
  plan = placed_keeps r ms ys i c plan here below both;
  placed = placed i refl;
  still = λ j h l. ⊎_elim (placed j) (λ other. rw (there j other) (still j h l)) (cases_eq j i);
  others = λ j other out. there j other ∙ others j out;
  looks = most;
}
  where
    there : (j : ℕ) → (j ≡ i → ⊥) → round_of (set ys i c) j ≡ round_of ys j
    there = set_there r ms ys i c plan here below

    placed : (j : ℕ) → j ≡ i → round_of (set ys i c) j < r
    placed j this = rw (this, set_here r ms ys i c plan here below) below

-- after the exchange of a chain that opens a both are free in a
pub chain_frees : (n k : ℕ) (ms : List Meeting) (xs : List ℕ) (i a b : ℕ) (is : List ℕ) → length xs ≡ length ms → Opens n k ms xs i a b is → BothFree ms (exchanged a b is xs) i a
chain_frees n k ms xs i a b is each opens s j h e p =
    ⊎_elim
    (λ came. opens.comes s j h p came.1 came.0)
    (λ was. both_ways _ was.0 (opens.goes s j h p was.1))
    (exchanged_to a b is xs j opens.different (omega arith) e)

module _ (n k r : ℕ) (ms : List Meeting) (xs : List ℕ) (i : ℕ) (ready : Ready n k r ms xs i) where
  -- in the lowest common free round both are free
  pub common_frees : common_free r ms xs i < r → BothFree ms xs i (common_free r ms xs i)
  common_frees below s j h e p = free_is ms xs ready.few i s (common_free r ms xs i) (both s) j h p e
    where
      passed : (free ms xs i Groups (common_free r ms xs i) ≡ true) × (free ms xs i Stations (common_free r ms xs i) ≡ true)
      passed = and_parts _ _ ((lowest_of (λ c. free ms xs i Groups c && free ms xs i Stations c) r).passes below)

      both : (s : Side) → free ms xs i s (common_free r ms xs i) ≡ true
      both Groups = passed.0
      both Stations = passed.1

  -- into a common free round
  pub puts_common : common_free r ms xs i < r → PutIn n k r ms xs i (placed (set xs i (common_free r ms xs i)) 1)
  puts_common below =
      given n k r ms xs xs i (common_free r ms xs i) 1 ready.here below ready.plan (common_frees below) (λ j h l. l) (λ j out. out) (omega arith)

  within : (j : ℕ) → j < length ms → j < length xs
  within j h = omega (arith, ready.plan.each)

  -- after the exchange of a chain that opens a round
  pub puts_chain : (a b : ℕ) (is : List ℕ) → a < r → b < r → Opens n k ms xs i a b is → PutIn n k r ms xs i (after_chain a b is xs i)
  puts_chain a b is la lb opens =
      given n k r ms xs (exchanged a b is xs) i a (1 + length is) ready.here la (exchange_keeps r ms xs a b is ready.rounds la lb ready.plan opens.whole.closed) (chain_frees n k ms xs i a b is ready.plan.each opens)
      (λ j h l. exchanged_below a b is xs r j la lb (within j h) l)
      (λ j out. exchanged_none a b is xs r j ready.rounds la lb out)
      (omega (arith, opens.short))

pub puts : Puts
puts n k r ms xs i ready =
    ⊎_elim
    (λ common. subst (PutIn n k r ms xs i) (sym (cond-true (ltb (common_free r ms xs i) r) _ _ (lt-ltb _ _ common))) (puts_common n k r ms xs i ready common))
    (λ no_common. subst (PutIn n k r ms xs i) (sym (cond-false (ltb (common_free r ms xs i) r) _ _ (le-ltb _ _ no_common))) (let open_at = chain_opens n k r ms xs i ready no_common in puts_chain n k r ms xs i ready _ _ _ open_at.0 open_at.1 open_at.2))
    (cases_lt (common_free r ms xs i) r)

-- the same of what was left on a board, and counted
pub put_in_as : (n k r : ℕ) (ms : List Meeting) (xs : List ℕ) (i : ℕ) (p : Placed) (ys : List ℕ) (looks : ℕ) → ys ≡ p.rounds → looks ≡ p.looks → PutIn n k r ms xs i p → PutIn n k r ms xs i (placed ys looks)
put_in_as n k r ms xs i p ys looks e f h = rw (e, f) h

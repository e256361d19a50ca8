-- The next round of the size that was reached is the fullest, or the emptiest; and after a meeting was moved from the one to the
-- other, all sizes are still between the two. Assumes nothing.
use Rattle.std.proofs.Common.{MatchOption, ◌≡◌, ◌≢◌, ℕ, ◌+◌, ◌-◌, ◌<◌, ◌≤◌, Option, Some, None, Bool, eqb, ltb, List, length, get_or, set, drop, take, ◌⊎◌, inl, inr, sym, refl, ap, ◌∙◌, subst, ⊎_elim, arith}
use Rattle.std.specs.List.{position}
use Rattle.std.proofs.lemmas.Bool.{both_ways, cases_eq, cases_lt, eq-eqb, eqb-true, le-ltb, lt-ltb}
use Rattle.std.proofs.lemmas.List.{get_or-drop, get_or-set_other, get_or-set_same, length-drop, length-set, take_all}
use Rattle.meetings.specs.declared.numbers.Round.{Round}
use Rattle.fewest.specs.Rounds.{largest}
use Rattle.fewest.proofs.Numbers.{largest_above}
use Rattle.chains.specs.declared.neighbours.TwoRounds.{TwoRounds}
use Rattle.chains.specs.Lowest.{lowest}
use Rattle.chains.specs.Partial.{Unless}
use Rattle.chains.proofs.Lowest.{LowestOf, lowest_of}
use Rattle.placing.proofs.Found.{position_lowest}
use Rattle.balance.specs.declared.searching.Reached.{Reached}
use Rattle.balance.specs.declared.searching.Search.{Search}
use Rattle.balance.specs.Searching.{FoundAt, IsNext, Searched, SearchedTo}
use Rattle.balance.specs.Sizes.{Least, UnevenRounds, emptiest, fullest, more}
use Rattle.balance.proofs.Extremes.{emptiest_before, emptiest_is, emptiest_next, fullest_before, fullest_is, fullest_next, uneven_is}
use Rattle.balance.proofs.OneExchange.{some_rounds}

-- before any round was searched
pub search_starts : (ns : List ℕ) (s : Search) → s.full.size ≡ largest ns → s.full.round.0 ≡ 0 → Least ns s.empty.size → s.empty.round.0 ≡ 0 → Searched ns s
search_starts ns s most full least empty = record {
  full = record {
    within = omega (arith, full);
    all = λ i h. le-ltb _ _ (omega (arith, most, largest_above ns i h));
    before = λ i h. absurd (omega (arith, full));
  };
  empty = record {
    within = omega (arith, empty);
    all = λ i h. le-ltb _ _ (least.all i h);
    before = λ i h. absurd (omega (arith, empty));
  };
}

-- the next of a size
module _ (ns : List ℕ) (size from : ℕ) (within : from ≤ length ns) where
  abbrev rest : List ℕ
  rest = drop from ns

  abbrev q : ℕ → Bool
  q c = eqb (get_or rest c 0) size

  from_rest : (i : ℕ) → from ≤ i → get_or ns i 0 ≡ get_or rest (i - from) 0
  from_rest i h = let same : from + (i - from) ≡ i = omega arith in ap (λ j. get_or ns j 0) (sym same) ∙ sym (get_or-drop from ns (i - from) 0)

  low : LowestOf q (length rest) (lowest q (length rest))
  low = lowest_of q (length rest)

  -- before the lowest that passes none is of the size
  other : (i : ℕ) → from ≤ i → i - from < lowest q (length rest) → get_or ns i 0 ≢ size
  other i there h same = both_ways _ (low.before (i - from) h) (eq-eqb _ _ (sym (from_rest i there) ∙ same))

  next_place : (o : Option ℕ) → Unless (length rest) (λ c. c) o (lowest q (length rest)) → MatchOption o ((i : ℕ) → from ≤ i → i < length ns → get_or ns i 0 ≢ size) (λ k. IsNext ns size from (record { 0 = from + k }))
  next_place None past = λ i there h. other i there (omega (arith, past, length-drop from ns))
  next_place (Some k) found =
      let below : lowest q (length rest) < length rest = ⊎_elim (λ l. l) (λ g. absurd (found.1 (omega (arith, low.most)))) (cases_lt (lowest q (length rest)) (length rest)) in
      record {
        from_there = omega arith;
        below = omega (arith, found.0, below, length-drop from ns);
        is = sym (get_or-drop from ns k 0) ∙ ap (λ j. get_or rest j 0) found.0 ∙ eqb-true _ _ (low.passes below);
        before = λ i there h. other i there (omega (arith, found.0));
      }

  -- the first of what lies from there on
  pub next_found : (o : Option ℕ) → o ≡ position (λ y. eqb y size) (take (length ns - from) (drop from ns)) → MatchOption o ((i : ℕ) → from ≤ i → i < length ns → get_or ns i 0 ≢ size) (λ k. IsNext ns size from (record { 0 = from + k }))
  next_found o e =
      let all : take (length ns - from) rest ≡ rest = take_all (length ns - from) rest (omega (arith, length-drop from ns)) in
      next_place o (rw (e, all) (position_lowest 0 (λ y. eqb y size) q rest (length rest) refl (λ c h. refl)))

-- where it is the next of a size that no other beats, it is the fullest, or the emptiest
pub next_fullest : (ns : List ℕ) (u : Reached) (c : Round) (size from : ℕ) → SearchedTo more ns u → size ≡ u.size → from ≡ u.round.0 → IsNext ns size from c → fullest (length ns) (λ i. get_or ns i 0) ≡ c.0
next_fullest ns u c size from searched same there next = fullest_next (λ i. get_or ns i 0) (length ns) from c.0 size next.below next.is (rw same searched.all) (rw (same, there) searched.before) next.before

pub next_emptiest : (ns : List ℕ) (u : Reached) (c : Round) (size from : ℕ) → SearchedTo ltb ns u → size ≡ u.size → from ≡ u.round.0 → IsNext ns size from c → emptiest (length ns) (λ i. get_or ns i 0) ≡ c.0
next_emptiest ns u c size from searched same there next = emptiest_next (λ i. get_or ns i 0) (length ns) from c.0 size next.below next.is (rw same searched.all) (rw (same, there) searched.before) next.before

-- a meeting is moved from the fullest to the emptiest
module _ (ns : List ℕ) (t : TwoRounds) (s : Search) (ends : UnevenRounds (length ns) (λ i. get_or ns i 0) t) (found : FoundAt ns s t) where
  abbrev f : ℕ → ℕ
  f i = get_or ns i 0

  some : 1 ≤ length ns
  some = some_rounds (length ns) f ends.uneven

  most : (i : ℕ) → i < length ns → f i ≤ f t.a.0
  most i h = omega (arith, (fullest_is (length ns) f some).1 i h, ap f ends.fullest)

  fewer : (i : ℕ) → i < t.a.0 → f i < f t.a.0
  fewer i h = omega (arith, fullest_before (length ns) f some i (omega (arith, ends.fullest)), ap f ends.fullest)

  least : (i : ℕ) → i < length ns → f t.b.0 ≤ f i
  least i h = omega (arith, (emptiest_is (length ns) f some).1 i h, ap f ends.emptiest)

  larger : (i : ℕ) → i < t.b.0 → f t.b.0 < f i
  larger i h = omega (arith, emptiest_before (length ns) f some i (omega (arith, ends.emptiest)), ap f ends.emptiest)

  apart : f t.b.0 + 2 ≤ f t.a.0
  apart = omega (arith, ap f ends.fullest, ap f ends.emptiest, uneven_is (length ns) f ends.uneven)

  a_below : t.a.0 < length ns
  a_below = omega (arith, ends.fullest, (fullest_is (length ns) f some).0)

  b_below : t.b.0 < length ns
  b_below = omega (arith, ends.emptiest, (emptiest_is (length ns) f some).0)

  module _ (ms : List ℕ) (moved : ms ≡ set (set ns t.a.0 (f t.a.0 - 1)) t.b.0 (f t.b.0 + 1)) where
    long : length ms ≡ length ns
    long = ap length moved ∙ length-set (set ns t.a.0 (f t.a.0 - 1)) t.b.0 (f t.b.0 + 1) ∙ length-set ns t.a.0 (f t.a.0 - 1)

    -- what has changed lies between the two
    abbrev Between : ℕ → Type 0
    Between i = (get_or ms i 0 ≡ f i) ⊎ ((f t.b.0 < get_or ms i 0) × (get_or ms i 0 < f t.a.0))

    between : (i : ℕ) → Between i
    between i =
        ⊎_elim
        (λ at_b.
        let is : get_or ms i 0 ≡ f t.b.0 + 1 = ap (λ l. get_or l i 0) moved ∙ ap (λ j. get_or (set (set ns t.a.0 (f t.a.0 - 1)) t.b.0 (f t.b.0 + 1)) j 0) at_b ∙ get_or-set_same (set ns t.a.0 (f t.a.0 - 1)) t.b.0 (f t.b.0 + 1) 0 (omega (arith, b_below, length-set ns t.a.0 (f t.a.0 - 1))) in
        inr (omega (arith, is), omega (arith, is, apart)))
        (λ not_b.
        let same : get_or ms i 0 ≡ get_or (set ns t.a.0 (f t.a.0 - 1)) i 0 = ap (λ l. get_or l i 0) moved ∙ get_or-set_other (set ns t.a.0 (f t.a.0 - 1)) t.b.0 i (f t.b.0 + 1) 0 not_b in
        ⊎_elim
        (λ at_a.
        let is : get_or ms i 0 ≡ f t.a.0 - 1 = same ∙ ap (λ j. get_or (set ns t.a.0 (f t.a.0 - 1)) j 0) at_a ∙ get_or-set_same ns t.a.0 (f t.a.0 - 1) 0 a_below in
        inr (omega (arith, is, apart), omega (arith, is, apart)))
        (λ not_a. inl (same ∙ get_or-set_other ns t.a.0 i (f t.a.0 - 1) 0 not_a))
        (cases_eq i t.a.0))
        (cases_eq i t.b.0)

    full_on : SearchedTo more ms (record { size = f t.a.0; round = t.a })
    full_on = record {
      within = omega (arith, long, a_below);
      all = λ i h. le-ltb _ _ (⊎_elim (λ still. omega (arith, still, most i (omega (arith, long)))) (λ new. omega (arith, new.1)) (between i));
      before = λ i h. lt-ltb _ _ (⊎_elim (λ still. omega (arith, still, fewer i h)) (λ new. new.1) (between i));
    }

    empty_on : SearchedTo ltb ms (record { size = f t.b.0; round = t.b })
    empty_on = record {
      within = omega (arith, long, b_below);
      all = λ i h. le-ltb _ _ (⊎_elim (λ still. omega (arith, still, least i (omega (arith, long)))) (λ new. omega (arith, new.0)) (between i));
      before = λ i h. lt-ltb _ _ (⊎_elim (λ still. omega (arith, still, larger i h)) (λ new. new.0) (between i));
    }

    -- both are searched on from where they were found
    pub searched_on : Searched ms s
    searched_on = record {
      full = subst (SearchedTo more ms) (sym found.full) full_on;
      empty = subst (SearchedTo ltb ms) (sym found.empty) empty_on;
    }

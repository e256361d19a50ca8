-- The part of a meeting is its part: what is followed both ways is linked to it, closed, and each once; and its two rounds
-- differ by one at most, since the rounds alternate along both ways, beginning with the other one. Assumes nothing.
use Rattle.std.proofs.Common.{◌≡◌, ℕ, suc, ◌<◌, ◌≤◌, Bool, true, false, eqb, ◌⊎◌, List, [], ◌∷◌, ◌++◌, sym, refl, ap, ◌∙◌, subst, inl, inr, ⊎_elim, arith}
use Rattle.std.proofs.lemmas.List.Sums.{sum_by-cons, sum_by-append}
use Rattle.std.proofs.lemmas.Bool.{both_ways, or_cases, or_parts, or_right, eqb-true, eq-eqb, ne_eqb}
use Rattle.std.proofs.lemmas.Bool.Decides.{nat_tests}
use Rattle.meetings.specs.declared.numbers.Side.{Side}
use Rattle.meetings.specs.declared.numbers.Side.TheVariants.{Groups, Stations}
use Rattle.fewest.specs.Counting.{one_if}
use Rattle.meetings.specs.Lists.{other_side}
use Rattle.chains.specs.Chains.{Two, in_two, Sound, Beside, Closed, Linked, itself, next, swap, near, with_one, with_all, holds, walked, chain}
use Rattle.chains.specs.Statements.{in_part, PartOf, Parts}
use Rattle.chains.proofs.Closing.{part_closes}
use Rattle.chains.proofs.Members.{not_one, in_all, first_held, held_cases, append_cases, Fresh, unless, once_from_fresh, fresh_append}
use Rattle.chains.proofs.Near.{near_found, near_in, near_beside}
use Rattle.chains.proofs.Runs.{run_each, run_new, run_fresh}
use Rattle.chains.proofs.Walks.{Run, followed}

-- a round and the other of the two
abbrev Turn : Two → ℕ → ℕ → Type 0
Turn t e f = ((e ≡ t.a) × (f ≡ t.b)) ⊎ ((e ≡ t.b) × (f ≡ t.a))

turned : (t : Two) (e f : ℕ) → Turn t e f → Turn t f e
turned t e f turn = ⊎_elim (λ x. inr (x.1, x.0)) (λ x. inl (x.1, x.0)) turn

turn_swap : (t : Two) (e f : ℕ) → Turn t e f → swap t.a t.b e ≡ f
turn_swap t e f turn = ⊎_elim (λ x. first t.a t.b e f x.0 x.1) (λ x. second t.a t.b e f x.0 x.1) turn
  where
    first : (a b e f : ℕ) → e ≡ a → f ≡ b → swap a b e ≡ f
    first a b e f x y = grind (arith, nat_tests)

    second : (a b e f : ℕ) → e ≡ b → f ≡ a → swap a b e ≡ f
    second a b e f x y = grind (arith, nat_tests)

turn_differ : (t : Two) (e f : ℕ) → Sound t → Turn t e f → e ≡ f → ⊥
turn_differ t e f sound turn same = ⊎_elim (λ x. sound.different (sym x.0 ∙ same ∙ x.1)) (λ x. sound.different (sym x.1 ∙ sym same ∙ x.0)) turn

-- one more meeting, in round e: one more there, and as many as before in the other
part_cons : (t : Two) (e f z : ℕ) (zs : List ℕ) → t.round z ≡ e → (e ≡ f → ⊥) → (in_part t e (z ∷ zs) ≡ suc (in_part t e zs)) × (in_part t f (z ∷ zs) ≡ in_part t f zs)
part_cons t e f z zs here differ =
    let more = sum_by-cons (λ j. one_if (eqb (t.round j) e)) z zs in
    let same = sum_by-cons (λ j. one_if (eqb (t.round j) f)) z zs in
    let one : one_if (eqb (t.round z) e) ≡ 1 = ap one_if (eq-eqb (t.round z) e here) in
    let no_more : one_if (eqb (t.round z) f) ≡ 0 = ap one_if (ne_eqb (t.round z) f (λ x. differ (sym here ∙ x))) in
    (omega arith, omega arith)

-- a run from a meeting in round e has as many in f as in e, or one more
even_run : (t : Two) → Sound t → (e f : ℕ) → Turn t e f → (V : ℕ → Bool) (s : Side) (j : ℕ) (zs : List ℕ) → t.round j ≡ e → Run t V s j zs → (in_part t e zs ≤ in_part t f zs) × (in_part t f zs ≤ suc (in_part t e zs))
even_run t sound e f turn V s j [] here run = (omega arith, omega arith)
even_run t sound e f turn V s j (z ∷ zs) here run =
    let below : near t s j < t.many = omega (arith, run.0, run.1) in
    let there : t.round z ≡ f = ap t.round run.0 ∙ (near_found t sound.few s j below).1 ∙ ap (swap t.a t.b) here ∙ turn_swap t e f turn in
    let ih = even_run t sound f e (turned t e f turn) (with_one V z) (other_side s) z zs there run.3 in
    let cons = part_cons t f e z zs there (turn_differ t f e sound (turned t e f turn)) in
    (omega arith, omega arith)

-- a chain that starts in a has at least as many there as in b
pub chain_more : (t : Two) (V : ℕ → Bool) (i : ℕ) → Sound t → t.round i ≡ t.a → in_part t t.b (chain t V i) ≤ in_part t t.a (chain t V i)
chain_more t V i sound here =
    let rest = even_run t sound t.a t.b (inl (refl, refl)) (with_one V i) Groups i (walked t (with_one V i) Groups i) here (followed t (with_one V i) Groups i) in
    let first = part_cons t t.a t.b i (walked t (with_one V i) Groups i) here sound.different in
    omega arith

-- a meeting and two runs from it
even_part : (t : Two) → Sound t → (e f : ℕ) → Turn t e f → (V W : ℕ → Bool) (s q : Side) (x : ℕ) (zs ys : List ℕ) → t.round x ≡ e → Run t V s x zs → Run t W q x ys → (in_part t e ((x ∷ zs) ++ ys) ≤ suc (in_part t f ((x ∷ zs) ++ ys))) × (in_part t f ((x ∷ zs) ++ ys) ≤ suc (in_part t e ((x ∷ zs) ++ ys)))
even_part t sound e f turn V W s q x zs ys here one two =
    let first = even_run t sound e f turn V s x zs here one in
    let second = even_run t sound e f turn W q x ys here two in
    let cons = part_cons t e f x zs here (turn_differ t e f sound turn) in
    let in_e = sum_by-append (λ j. one_if (eqb (t.round j) e)) (x ∷ zs) ys in
    let in_f = sum_by-append (λ j. one_if (eqb (t.round j) f)) (x ∷ zs) ys in
    (omega arith, omega arith)

pub beside_back : (t : Two) (i k : ℕ) → Beside t i k → Beside t k i
beside_back t i k b = record { one = b.other; other = b.one; one_in = b.other_in; other_in = b.one_in; shared = (b.shared.0, sym b.shared.1) }

-- a meeting of the two rounds to which one comes from x
abbrev Reached : Two → ℕ → ℕ → Side → Type 0
Reached t x j s = (j < t.many) × (in_two t j ≡ true) × Linked t x j

reached_on : (t : Two) → Sound t → (x j : ℕ) (s : Side) → Reached t x j s → near t s j < t.many → Reached t x (near t s j) (other_side s)
reached_on t sound x j s r below = (below, near_in t sound.few s j r.1 below, next j (near t s j) r.2 (near_beside t sound s j r.0 r.1 below))

-- x and two runs from it, of which the second goes past what the first has found
module _ (t : Two) (sound : Sound t) (V : ℕ → Bool) (x : ℕ) (zs ys : List ℕ) (one : Run t (with_one V x) Groups x zs) (two : Run t (with_all V (x ∷ zs)) Stations x ys) where
  each_member : (P : ℕ → Type 0) → P x → ((k : ℕ) → holds zs k ≡ true → P k) → ((k : ℕ) → holds ys k ≡ true → P k) → (k : ℕ) → holds ((x ∷ zs) ++ ys) k ≡ true → P k
  each_member P here first second k h =
      ⊎_elim
      (λ front. ⊎_elim (λ e. subst P (sym e) here) (first k) (held_cases x zs k front))
      (second k)
      (append_cases (x ∷ zs) ys k h)

  all_reached : x < t.many → in_two t x ≡ true → (k : ℕ) → holds ((x ∷ zs) ++ ys) k ≡ true → Reached t x k Groups
  all_reached hx in_x =
      let start : Reached t x x Groups = (hx, in_x, itself) in
      each_member (λ k. Reached t x k Groups) start
      (λ k h. (run_each t (Reached t x) (reached_on t sound x) (with_one V x) Groups x zs start one k h).1)
      (λ k h. (run_each t (Reached t x) (reached_on t sound x) (with_all V (x ∷ zs)) Stations x ys start two k h).1)

  all_new : V x ≡ false → (k : ℕ) → holds ((x ∷ zs) ++ ys) k ≡ true → V k ≡ false
  all_new out =
      each_member (λ k. V k ≡ false) out
      (λ k h. (not_one V x k (run_new t (with_one V x) Groups x zs one k h)).0)
      (λ k h. (or_parts (V k) (holds (x ∷ zs) k) (sym (in_all V (x ∷ zs) k) ∙ run_new t (with_all V (x ∷ zs)) Stations x ys two k h)).0)

  all_fresh : Fresh ((x ∷ zs) ++ ys)
  all_fresh =
      fresh_append (x ∷ zs) ys
      (unless (holds zs x) (λ again. (not_one V x x (run_new t (with_one V x) Groups x zs one x again)).1 refl), run_fresh t (with_one V x) Groups x zs one)
      (run_fresh t (with_all V (x ∷ zs)) Stations x ys two)
      (λ k front back. both_ways (with_all V (x ∷ zs) k) (run_new t (with_all V (x ∷ zs)) Stations x ys two k back) (in_all V (x ∷ zs) k ∙ or_right (V k) (holds (x ∷ zs) k) front))

  -- what is beside a member is in V or a member, and V has nothing beside what is not in it
  all_closed : Closed t V → x < t.many → in_two t x ≡ true → V x ≡ false → Closed t (holds ((x ∷ zs) ++ ys))
  all_closed closed hx in_x out i k beside h =
      let is = (x ∷ zs) ++ ys in
      let both = part_closes t sound V x zs ys closed hx in_x one two i k beside (in_all V is i ∙ or_right (V i) (holds is i) h) in
      ⊎_elim
      (λ old. absurd (both_ways (V i) (all_new out i h) (closed k i (beside_back t i k beside) old)))
      (λ k_there. k_there)
      (or_cases (V k) (holds is k) (sym (in_all V is k) ∙ both))

  all_even : in_two t x ≡ true → (in_part t t.a ((x ∷ zs) ++ ys) ≤ suc (in_part t t.b ((x ∷ zs) ++ ys))) × (in_part t t.b ((x ∷ zs) ++ ys) ≤ suc (in_part t t.a ((x ∷ zs) ++ ys)))
  all_even in_x =
      ⊎_elim
      (λ first. even_part t sound t.a t.b (inl (refl, refl)) (with_one V x) (with_all V (x ∷ zs)) Groups Stations x zs ys (eqb-true (t.round x) t.a first) one two)
      (λ second.
      let back = even_part t sound t.b t.a (inr (refl, refl)) (with_one V x) (with_all V (x ∷ zs)) Groups Stations x zs ys (eqb-true (t.round x) t.b second) one two in
      (back.1, back.0))
      (or_cases (eqb (t.round x) t.a) (eqb (t.round x) t.b) in_x)

  part_of : Closed t V → x < t.many → in_two t x ≡ true → V x ≡ false → PartOf t x ((x ∷ zs) ++ ys)
  part_of closed hx in_x out = record {
    starts = first_held x (zs ++ ys);
    within = λ j h. let r = all_reached hx in_x j h in (r.0, r.1);
    once = once_from_fresh ((x ∷ zs) ++ ys) all_fresh;
    closed = all_closed closed hx in_x out;
    linked = λ j h. (all_reached hx in_x j h).2;
    even = all_even in_x;
  }

pub parts : Parts
parts t V x sound closed hx in_x out =
    let zs = walked t (with_one V x) Groups x in
    let ys = walked t (with_all V (x ∷ zs)) Stations x in
    let one = followed t (with_one V x) Groups x in
    let two = followed t (with_all V (x ∷ zs)) Stations x in
    (part_of t sound V x zs ys one two closed hx in_x out, all_new t sound V x zs ys one two out, part_closes t sound V x zs ys closed hx in_x one two)

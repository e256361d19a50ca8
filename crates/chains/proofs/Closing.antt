-- A run closes the set it is in: all that is open before a step is the side by which it goes on, and a step moves that to the
-- new meeting; where the run stops nothing is open. Assumes nothing.
use Rattle.std.proofs.Common.{◌≡◌, ℕ, ◌<◌, Bool, true, ◌⊎◌, List, [], ◌∷◌, ◌++◌, sym, refl, ap, ◌∙◌, inl, inr, ⊎_elim, arith}
use Rattle.meetings.specs.declared.numbers.Side.{Side}
use Rattle.meetings.specs.declared.numbers.Side.TheVariants.{Groups, Stations}
use Rattle.meetings.specs.Lists.{other_side}
use Rattle.chains.specs.Chains.{Two, in_two, Sound, Closed, near, with_one, with_all}
use Rattle.chains.proofs.Members.{one_cases, one_there, one_before, all_before, all_append}
use Rattle.chains.proofs.Near.{near_found, near_in, near_or_self}
use Rattle.chains.proofs.Walks.{Run}

-- closed but for the meetings and sides of which E is true
abbrev ClosedBut : Two → (ℕ → Side → Type 0) → (ℕ → Bool) → Type 0
ClosedBut t E V = (i k : ℕ) (q : Side) → V i ≡ true → i < t.many → in_two t i ≡ true → k < t.many → in_two t k ≡ true → t.party q i ≡ t.party q k → (V k ≡ true) ⊎ E i q

-- the side s of meeting j, or what was open before
abbrev OrAt : ℕ → Side → (ℕ → Side → Type 0) → ℕ → Side → Type 0
OrAt j s F i q = ((i ≡ j) × (q ≡ s)) ⊎ F i q

cases_side : (s q : Side) → (q ≡ s) ⊎ (q ≡ other_side s)
cases_side Groups Groups = inl refl
cases_side Groups Stations = inr refl
cases_side Stations Groups = inr refl
cases_side Stations Stations = inl refl

-- who shares side q with i shares it with j, where i is j and q is s
shares : (t : Two) (i j k : ℕ) (q s : Side) → i ≡ j → q ≡ s → t.party q i ≡ t.party q k → t.party s k ≡ t.party s j
shares t i j k q s e f shared = sym (ap (λ p. t.party p k) f) ∙ sym shared ∙ ap (λ p. t.party p i) f ∙ ap (t.party s) e

abbrev Nowhere : ℕ → Side → Type 0
Nowhere i q = ⊥

module _ (t : Two) (sound : Sound t) where
  -- after a step all that share the side with j are there
  covered : (V : ℕ → Bool) (s : Side) (j z k : ℕ) → z ≡ near t s j → V j ≡ true → j < t.many → in_two t j ≡ true → k < t.many → in_two t k ≡ true → t.party s k ≡ t.party s j → with_one V z k ≡ true
  covered V s j z k e there hj in_j hk in_k shared =
      ⊎_elim
      (λ self. one_before V z k (ap V self ∙ there))
      (λ other. one_there V z k (other.1 ∙ sym e))
      (near_or_self t sound s j k hj in_j hk in_k shared)

  -- one step
  closed_step : (F : ℕ → Side → Type 0) (V : ℕ → Bool) (s : Side) (j z : ℕ) → z ≡ near t s j → z < t.many → V j ≡ true → j < t.many → in_two t j ≡ true → ClosedBut t (OrAt j s F) V → ClosedBut t (OrAt z (other_side s) F) (with_one V z)
  closed_step F V s j z e below there hj in_j closed i k q h hi in_i hk in_k shared =
      ⊎_elim
      (λ new. ⊎_elim (λ same. inl (cover (shares t i z k q s new same shared ∙ from_j))) (λ other. inr (inl (new, other))) (cases_side s q))
      (λ before. ⊎_elim
      (λ k_there. inl (one_before V z k k_there))
      (⊎_elim (λ at. inl (cover (shares t i j k q s at.0 at.1 shared))) (λ f. inr (inr f)))
      (closed i k q before hi in_i hk in_k shared))
      (one_cases V z i h)
    where
      from_j : t.party s z ≡ t.party s j
      from_j = let near_below : near t s j < t.many = omega arith in ap (t.party s) e ∙ (near_found t sound.few s j near_below).0

      cover : t.party s k ≡ t.party s j → with_one V z k ≡ true
      cover = covered V s j z k e there hj in_j hk in_k

  -- where it stops, the last side is open no more
  closed_stop : (F : ℕ → Side → Type 0) (V : ℕ → Bool) (s : Side) (j : ℕ) → V j ≡ true → j < t.many → in_two t j ≡ true → ClosedBut t (OrAt j s F) V → Run t V s j [] → ClosedBut t F V
  closed_stop F V s j there hj in_j closed stop i k q h hi in_i hk in_k shared =
      ⊎_elim inl (⊎_elim (λ at. inl (seen (shares t i j k q s at.0 at.1 shared))) inr) (closed i k q h hi in_i hk in_k shared)
    where
      seen : t.party s k ≡ t.party s j → V k ≡ true
      seen e =
          ⊎_elim
          (λ self. ap V self ∙ there)
          (λ other. ⊎_elim (λ past. absurd (omega (arith, other.0))) (λ marked. ap V other.1 ∙ marked) stop)
          (near_or_self t sound s j k hj in_j hk in_k e)

  closed_run : (F : ℕ → Side → Type 0) (V : ℕ → Bool) (s : Side) (j : ℕ) (zs : List ℕ) → V j ≡ true → j < t.many → in_two t j ≡ true → ClosedBut t (OrAt j s F) V → Run t V s j zs → ClosedBut t F (with_all V zs)
  closed_run F V s j [] there hj in_j closed run = closed_stop F V s j there hj in_j closed run
  closed_run F V s j (z ∷ zs) there hj in_j closed run =
      let below : near t s j < t.many = omega (arith, run.0, run.1) in
      let in_z : in_two t z ≡ true = ap (in_two t) run.0 ∙ near_in t sound.few s j in_j below in
      closed_run F (with_one V z) (other_side s) z zs (one_there V z z refl) run.1 in_z (closed_step F V s j z run.0 run.1 there hj in_j closed) run.3

  -- a meeting that comes to a closed set is open on both sides
  closed_start : (V : ℕ → Bool) (x : ℕ) → Closed t V → ClosedBut t (OrAt x Groups (OrAt x Stations Nowhere)) (with_one V x)
  closed_start V x closed i k q h hi in_i hk in_k shared =
      ⊎_elim
      (λ new. ⊎_elim (λ group. inr (inl (new, group))) (λ station. inr (inr (inl (new, station)))) (cases_side Groups q))
      (λ before. inl (one_before V x k (closed i k (record { one = hi; other = hk; one_in = in_i; other_in = in_k; shared = (q, shared) }) before)))
      (one_cases V x i h)

  -- both ways from x, out of a closed set
  pub part_closes : (V : ℕ → Bool) (x : ℕ) (zs ys : List ℕ) → Closed t V → x < t.many → in_two t x ≡ true → Run t (with_one V x) Groups x zs → Run t (with_all V (x ∷ zs)) Stations x ys → Closed t (with_all V ((x ∷ zs) ++ ys))
  part_closes V x zs ys closed hx in_x one two i k beside h =
      let W = with_all V (x ∷ zs) in
      let there = one_there V x x refl in
      let half = closed_run (OrAt x Stations Nowhere) (with_one V x) Groups x zs there hx in_x (closed_start V x closed) one in
      let whole = closed_run Nowhere W Stations x ys (all_before (with_one V x) zs x there) hx in_x half two in
      let same = all_append V (x ∷ zs) ys in
      let h' : with_all W ys i ≡ true = ap (λ U. U i) (sym same) ∙ h in
      ap (λ U. U k) same ∙ ⊎_elim (λ r. r) absurd (whole i k beside.shared.0 h' beside.one beside.one_in beside.other beside.other_in beside.shared.1)

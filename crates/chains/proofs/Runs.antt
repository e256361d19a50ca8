-- What every step of a run keeps holds of each of its members; they are new, and no one comes twice. So a chain never comes
-- to the group that it is followed for, and it is the whole part where its station is free. Assumes nothing.
use Rattle.std.proofs.Common.{◌≡◌, ℕ, ◌<◌, ◌≤◌, Bool, true, false, List, [], ◌∷◌, ◌++◌, sym, refl, ap, ◌∙◌, subst, inl, ⊎_elim, arith}
use Rattle.std.proofs.lemmas.List.{append-nil}
use Rattle.std.proofs.lemmas.Bool.{cases_lt}
use Rattle.std.proofs.lemmas.Bool.Decides.{nat_tests}
use Rattle.meetings.specs.declared.numbers.Side.{Side}
use Rattle.meetings.specs.declared.numbers.Side.TheVariants.{Groups, Stations}
use Rattle.meetings.specs.Lists.{other_side}
use Rattle.chains.specs.Chains.{Two, Sound, Free, swap, near, with_one, with_all, holds, walked, chain, part}
use Rattle.chains.specs.Statements.{ChainWhole, NeverComes}
use Rattle.chains.proofs.Members.{not_one, Fresh, unless, none_held, held_cases, append_cases}
use Rattle.chains.proofs.Near.{near_found}
use Rattle.chains.proofs.Walks.{Run, followed, run_same}

-- where a step keeps P, it holds of each member
pub run_each : (t : Two) (P : ℕ → Side → Type 0) → ((j : ℕ) (s : Side) → P j s → near t s j < t.many → P (near t s j) (other_side s)) → (V : ℕ → Bool) (s : Side) (j : ℕ) (zs : List ℕ) → P j s → Run t V s j zs → (k : ℕ) → holds zs k ≡ true → (q : Side) × P k q
run_each t P keeps V s j [] start run k h = absurd (none_held k h)
run_each t P keeps V s j (z ∷ zs) start run k h =
    let e : near t s j ≡ z = sym run.0 in
    let below : near t s j < t.many = omega (arith, run.1) in
    let here : P z (other_side s) = subst (λ (i : ℕ). P i (other_side s)) e (keeps j s start below) in
    ⊎_elim
    (λ first. (other_side s, subst (λ (i : ℕ). P i (other_side s)) (sym first) here))
    (λ later. run_each t P keeps (with_one V z) (other_side s) z zs here run.3 k later)
    (held_cases z zs k h)

-- members were not there before
pub run_new : (t : Two) (V : ℕ → Bool) (s : Side) (j : ℕ) (zs : List ℕ) → Run t V s j zs → (k : ℕ) → holds zs k ≡ true → V k ≡ false
run_new t V s j [] run k h = absurd (none_held k h)
run_new t V s j (z ∷ zs) run k h =
    ⊎_elim
    (λ first. ap V first ∙ run.2)
    (λ later. (not_one V z k (run_new t (with_one V z) (other_side s) z zs run.3 k later)).0)
    (held_cases z zs k h)

-- and are meetings
pub run_below : (t : Two) (V : ℕ → Bool) (s : Side) (j : ℕ) (zs : List ℕ) → Run t V s j zs → (k : ℕ) → holds zs k ≡ true → k < t.many
run_below t V s j [] run k h = absurd (none_held k h)
run_below t V s j (z ∷ zs) run k h =
    ⊎_elim
    (λ first. omega (arith, first, run.1))
    (run_below t (with_one V z) (other_side s) z zs run.3 k)
    (held_cases z zs k h)

-- so all of the part of a meeting are meetings, whatever the two rounds are
pub part_below : (t : Two) (V : ℕ → Bool) (x : ℕ) → x < t.many → (k : ℕ) → holds (part t V x) k ≡ true → k < t.many
part_below t V x here k h =
    ⊎_elim
    (λ front. ⊎_elim
    (λ first. omega (arith, first))
    (run_below t (with_one V x) Groups x (walked t (with_one V x) Groups x) (followed t (with_one V x) Groups x) k)
    (held_cases x (walked t (with_one V x) Groups x) k front))
    (run_below t (with_all V (chain t V x)) Stations x (walked t (with_all V (chain t V x)) Stations x) (followed t (with_all V (chain t V x)) Stations x) k)
    (append_cases (chain t V x) (walked t (with_all V (chain t V x)) Stations x) k h)

pub run_fresh : (t : Two) (V : ℕ → Bool) (s : Side) (j : ℕ) (zs : List ℕ) → Run t V s j zs → Fresh zs
run_fresh t V s j [] run = tt
run_fresh t V s j (z ∷ zs) run = (
  unless (holds zs z) (λ again. (not_one V z z (run_new t (with_one V z) (other_side s) z zs run.3 z again)).1 refl),
  run_fresh t (with_one V z) (other_side s) z zs run.3,
)

swap_first : (a b x : ℕ) → x ≡ a → swap a b x ≡ b
swap_first a b x e = grind (arith, nat_tests)

swap_second : (a b x : ℕ) → x ≡ b → swap a b x ≡ a
swap_second a b x e = grind (arith, nat_tests)

pub chain_whole : ChainWhole
chain_whole t V i sound in_a free =
    let W = with_all V (chain t V i) in
    let past : t.many ≤ near t Stations i =
    ⊎_elim
    (λ below. let found = near_found t sound.few Stations i below in absurd (free (near t Stations i) below (found.1 ∙ swap_first t.a t.b (t.round i) in_a) found.0))
    (λ h. h)
    (cases_lt (near t Stations i) t.many) in
    let rest = run_same t W Stations i (walked t W Stations i) [] (followed t W Stations i) (inl past) in
    sym (ap (λ ys. chain t V i ++ ys) rest ∙ append-nil (chain t V i))

-- through a group one comes from a to b, through a station back to a, and none of them is a meeting of group g
abbrev Passes : Two → ℕ → ℕ → Side → Type 0
Passes t g j Groups = (t.round j ≡ t.a) × (t.party Groups j ≡ g → ⊥)
Passes t g j Stations = (t.round j ≡ t.b) × (t.party Groups j ≡ g → ⊥)

passes_on : (t : Two) (g : ℕ) → Sound t → Free t Groups g t.a → (j : ℕ) (s : Side) → Passes t g j s → near t s j < t.many → Passes t g (near t s j) (other_side s)
passes_on t g sound free j Groups p below =
    let found = near_found t sound.few Groups j below in
    (found.1 ∙ swap_first t.a t.b (t.round j) p.0, λ e. p.1 (sym found.0 ∙ e))
passes_on t g sound free j Stations p below =
    let found = near_found t sound.few Stations j below in
    let back = found.1 ∙ swap_second t.a t.b (t.round j) p.0 in
    (back, free (near t Stations j) below back)

not_there : (t : Two) (g j : ℕ) (s : Side) → Passes t g j s → t.party Groups j ≡ g → ⊥
not_there t g j Groups p = p.1
not_there t g j Stations p = p.1

pub never_comes : NeverComes
never_comes t V i g sound below in_a free j h e =
    ⊎_elim
    (λ first. free i below in_a (ap (t.party Groups) (sym first) ∙ e))
    (λ later.
    let W = with_one V i in
    let p = run_each t (Passes t g) (passes_on t g sound free) W Groups i (walked t W Groups i) (in_a, free i below in_a) (followed t W Groups i) j later in
    not_there t g j p.0 p.1 e)
    (held_cases i (walked t (with_one V i) Groups i) j h)

-- The lowest number that passes: none before it does, and no other number is like that. Assumes nothing.
use Rattle.std.proofs.Common.{◌≡◌, ℕ, zero, suc, ◌<◌, ◌≤◌, Bool, true, false, cond, sym, ◌∙◌, ⊎_elim, arith}
use Rattle.std.proofs.lemmas.Bool.{cases_Bool, cases_lt}
use Rattle.chains.specs.Lowest.{lowest}

-- one step, by what the first test says
step_yes : (b : Bool) (x : ℕ) → b ≡ true → cond b 0 (suc x) ≡ 0
step_yes b x e = rw e

step_no : (b : Bool) (x : ℕ) → b ≡ false → cond b 0 (suc x) ≡ suc x
step_no b x e = rw e

-- none before it passes, it passes if it is below n, and it is n at most
pub record LowestOf (p : ℕ → Bool) (n x : ℕ) : Type 0 where
  pub most : x ≤ n
  pub before : (i : ℕ) → i < x → p i ≡ false
  pub passes : x < n → p x ≡ true

pub lowest_of : (p : ℕ → Bool) (n : ℕ) → LowestOf p n (lowest p n)
lowest_of p zero = record { most = omega arith; before = λ i h. absurd (omega arith); passes = λ h. absurd (omega arith) }
lowest_of p (suc n) =
    let rest = lowest_of (λ i. p (suc i)) n in
    ⊎_elim
    (λ first. rw (step_yes (p 0) (lowest (λ i. p (suc i)) n) first) (record { most = omega arith; before = λ i h. absurd (omega arith); passes = λ h. first }))
    (λ fails. rw (step_no (p 0) (lowest (λ i. p (suc i)) n) fails) (record { most = omega (arith, rest.most); before = earlier fails rest.before; passes = λ h. rest.passes (omega arith) }))
    (cases_Bool (p 0))
  where
    earlier : {x : ℕ} → p 0 ≡ false → ((i : ℕ) → i < x → p (suc i) ≡ false) → (i : ℕ) → i < suc x → p i ≡ false
    earlier first h zero l = first
    earlier first h (suc i) l = h i (omega arith)

-- two numbers that are the lowest are the same
pub lowest_same : (p : ℕ → Bool) (n x y : ℕ) → LowestOf p n x → LowestOf p n y → x ≡ y
lowest_same p n x y u v =
    ⊎_elim
    (λ h. absurd (clash (v.before x h) (u.passes (omega (arith, v.most)))))
    (λ h. ⊎_elim (λ l. absurd (clash (u.before y l) (v.passes (omega (arith, u.most))))) (λ l. omega arith) (cases_lt y x))
    (cases_lt x y)
  where
    clash : {b : Bool} → b ≡ false → b ≡ true → ⊥
    clash e f = let z : ◌≡◌ {A = Bool} false true = sym e ∙ f in let w : ◌≡◌ {A = ℕ} 0 1 = cc in omega arith

pub lowest_is : (p : ℕ → Bool) (n x : ℕ) → LowestOf p n x → lowest p n ≡ x
lowest_is p n x u = lowest_same p n (lowest p n) x (lowest_of p n) u

-- tests that agree below n have the same lowest number
pub lowest_ext : (p q : ℕ → Bool) (n : ℕ) → ((i : ℕ) → i < n → p i ≡ q i) → lowest p n ≡ lowest q n
lowest_ext p q n same =
    let low = lowest_of q n in
    lowest_is p n (lowest q n) (record {
      most = low.most;
      before = λ i h. same i (omega (arith, low.most)) ∙ low.before i h;
      passes = λ h. same (lowest q n) h ∙ low.passes h;
    })

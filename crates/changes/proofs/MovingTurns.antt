-- One meeting more is looked at: it is looked at once, so its round from before is still noted, and it is counted if it was moved.
-- Assumes nothing.
use Rattle.std.proofs.Common.{◌≡◌, ℕ, ◌+◌, ◌<◌, ◌≤◌, Bool, true, false, cond, List, length, get_or, set, take, count_by, sym, refl, ap, ◌∙◌, subst, ⊎_elim, arith}
use Rattle.std.proofs.lemmas.Bool.{cases_eq, cond-false}
use Rattle.std.proofs.lemmas.Bool.Decides.{nat_tests}
use Rattle.std.proofs.lemmas.List.{get_or_default, get_or-set_same, get_or-set_other, get_or-take, length-set, length-take-le, take_all, take_more}
use Rattle.std.proofs.lemmas.List.Sums.{count_by-le-length, count_by_more_no, count_by_more_yes}
use Rattle.fewest.specs.Plans.{none}
use Rattle.chains.specs.Chains.{holds, with_one}
use Rattle.chains.specs.Partial.{round_of}
use Rattle.chains.specs.Statements.{Once}
use Rattle.chains.proofs.Marks.{holds_more}
use Rattle.chains.proofs.Members.{place_of, unless}
use Rattle.changes.specs.Days.{moved}
use Rattle.changes.specs.OnBoard.{CopiedFor}

-- the first t of the meetings were looked at, and so many of them were moved
pub record Moving (xs before now is : List ℕ) (t many : ℕ) : Type 0 where
  pub noted : CopiedFor before now xs (take t is)
  pub counted : many ≡ count_by (λ i. moved (round_of before i) (round_of xs i)) (take t is)

pub moving_starts : (xs before is : List ℕ) → Moving xs before before is 0 0
moving_starts xs before is = record { noted = record { long = refl; now = λ i. refl }; counted = refl }

pub moving_ends : (xs before now is : List ℕ) (t many : ℕ) → length is ≤ t → Moving xs before now is t many → (many ≡ count_by (λ i. moved (round_of before i) (round_of xs i)) is) × CopiedFor before now xs is
moving_ends xs before now is t many all so_far = (
  so_far.counted ∙ ap (count_by (λ i. moved (round_of before i) (round_of xs i))) (take_all t is all),
  subst (CopiedFor before now xs) (take_all t is all) so_far.noted,
)

module _ (xs before now is : List ℕ) (t many : ℕ) (so_far : Moving xs before now is t many) (here : t < length is) where
  abbrev pub i : ℕ
  i = get_or is t 0

  pub few_counted : many ≤ t
  few_counted = omega (arith, so_far.counted, count_by-le-length (λ i. moved (round_of before i) (round_of xs i)) (take t is), length-take-le t is (omega arith))

  held_more : holds (take (t + 1) is) ≡ with_one (holds (take t is)) i
  held_more = ap holds (take_more is t 0 here) ∙ holds_more (take t is) i

  -- it was not looked at before
  new : Once is → holds (take t is) i ≡ false
  new once = unless (holds (take t is) i) (λ again.
      let at = place_of (take t is) i again in
      let less : at.0 < t = omega (arith, at.1, length-take-le t is (omega arith)) in
      omega (arith, once at.0 t (omega arith) here (sym (get_or-take t is at.0 none less) ∙ at.2 ∙ get_or_default is t 0 none here)))

  pub still_noted : Once is → round_of now i ≡ round_of before i
  still_noted once = so_far.noted.now i ∙ cond-false (holds (take t is) i) (round_of xs i) (round_of before i) (new once)

  noted_more : i < length xs → length xs ≤ length before → CopiedFor before (set now i (get_or xs i 0)) xs (take (t + 1) is)
  noted_more below long = record {
    long = length-set now i (get_or xs i 0) ∙ so_far.noted.long;
    now = λ j. ⊎_elim
        (λ this. ap (round_of (set now i (get_or xs i 0))) this ∙ get_or-set_same now i (get_or xs i 0) none (omega (arith, so_far.noted.long)) ∙ get_or_default xs i 0 none below ∙ ap (round_of xs) (sym this) ∙ sym (ap (λ f. cond (f j) (round_of xs j) (round_of before j)) held_more ∙ one (holds (take t is) j) j i (round_of xs j) (round_of before j) this))
        (λ other. get_or-set_other now i j (get_or xs i 0) none other ∙ so_far.noted.now j ∙ sym (ap (λ f. cond (f j) (round_of xs j) (round_of before j)) held_more ∙ rest (holds (take t is) j) j i (round_of xs j) (round_of before j) other))
        (cases_eq j i);
  }
    where
      one : (h : Bool) (j i x y : ℕ) → j ≡ i → cond (with_one (λ k. h) i j) x y ≡ x
      one h j i x y e = grind (arith, nat_tests)

      rest : (h : Bool) (j i x y : ℕ) → (j ≡ i → ⊥) → cond (with_one (λ k. h) i j) x y ≡ cond h x y
      rest h j i x y e = grind (arith, nat_tests)

  same_at : i < length xs → length xs ≤ length before → Once is → moved (get_or now i 0) (get_or xs i 0) ≡ moved (round_of before (get_or is t none)) (round_of xs (get_or is t none))
  same_at below long once =
      ap (λ x. moved x (get_or xs i 0)) (get_or_default now i 0 none (omega (arith, so_far.noted.long)) ∙ still_noted once)
      ∙ ap (moved (round_of before i)) (get_or_default xs i 0 none below)
      ∙ ap (λ j. moved (round_of before j) (round_of xs j)) (get_or_default is t 0 none here)

  pub moving_yes : i < length xs → length xs ≤ length before → Once is → moved (get_or now i 0) (get_or xs i 0) ≡ true → Moving xs before (set now i (get_or xs i 0)) is (t + 1) (many + 1)
  moving_yes below long once yes_moved = record {
    noted = noted_more below long;
    counted = ap (λ n. n + 1) so_far.counted ∙ sym (count_by_more_yes (λ i. moved (round_of before i) (round_of xs i)) is t none here (sym (same_at below long once) ∙ yes_moved));
  }

  pub moving_no : i < length xs → length xs ≤ length before → Once is → moved (get_or now i 0) (get_or xs i 0) ≡ false → Moving xs before (set now i (get_or xs i 0)) is (t + 1) many
  moving_no below long once not_moved = record {
    noted = noted_more below long;
    counted = so_far.counted ∙ sym (count_by_more_no (λ i. moved (round_of before i) (round_of xs i)) is t none here (sym (same_at below long once) ∙ not_moved));
  }

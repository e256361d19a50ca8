-- The busiest number is that of some party, or 0, and no party has more. Assumes nothing.
use Rattle.std.proofs.Common.{◌≡◌, ℕ, suc, ◌<◌, ◌≤◌, ◌⊎◌, List, [], ◌∷◌, length, get_or, sym, refl, ◌∙◌, inl, inr, ⊎_elim, arith}
use Rattle.std.proofs.lemmas.Bool.{cases_lt}
use Rattle.meetings.specs.declared.numbers.Side.{Side}
use Rattle.meetings.specs.declared.numbers.Side.TheVariants.{Groups, Stations}
use Rattle.meetings.specs.Lists.{Contents, parties}
use Rattle.fewest.specs.Rounds.{meetings_of, numbers, largest, busiest}
use Rattle.fewest.specs.Statements.{Busiest}
use Rattle.fewest.proofs.Numbers.{largest_above, numbers_long, number_at}

-- the largest stands somewhere
abbrev pub Stands : List ℕ → Type 0
Stands xs = (largest xs ≡ 0) ⊎ ((i : ℕ) × (i < length xs) × (get_or xs i 0 ≡ largest xs))

pub largest_stands : (xs : List ℕ) → Stands xs
largest_stands [] = inl refl
largest_stands (x ∷ xs) = ⊎_elim (λ less. behind less (largest_stands xs)) (λ more. inr (0, omega arith, omega arith)) (cases_lt x (largest xs))
  where
    behind : x < largest xs → Stands xs → Stands (x ∷ xs)
    behind less (inl none) = absurd (omega arith)
    behind less (inr some) = inr (suc some.0, omega (arith, some.1), omega (arith, some.2))

module _ (s : Side) (d : Contents) where
  below : (p : ℕ) → p < parties s d.groups d.stations → meetings_of s p d.meetings ≤ largest (numbers s d)
  below p h = omega (arith, number_at s d p h, largest_above (numbers s d) p (omega (arith, numbers_long s d)))

  attained : (b : ℕ) → b ≡ largest (numbers s d) → (b ≡ 0) ⊎ ((s : Side) × (p : ℕ) × (p < parties s d.groups d.stations) × (meetings_of s p d.meetings ≡ b))
  attained b e =
      ⊎_elim (λ none. inl (e ∙ none))
      (λ some. let here : some.0 < parties s d.groups d.stations = omega (arith, numbers_long s d, some.1) in inr (s, some.0, here, sym (number_at s d some.0 here) ∙ some.2 ∙ sym e))
      (largest_stands (numbers s d))

pub busiest_is : Busiest
busiest_is d = (bound, ⊎_elim (λ less. attained Stations d (busiest d) (omega arith)) (λ more. attained Groups d (busiest d) (omega arith)) (cases_lt (largest (numbers Groups d)) (largest (numbers Stations d))))
  where
    bound : (s : Side) (p : ℕ) → p < parties s d.groups d.stations → meetings_of s p d.meetings ≤ busiest d
    bound Groups p h = omega (arith, below Groups d p h)
    bound Stations p h = omega (arith, below Stations d p h)

-- The largest of some numbers, and the numbers of a side, entry by entry. Assumes nothing.
use Rattle.std.proofs.Common.{◌≡◌, ℕ, ◌+◌, ◌<◌, ◌≤◌, List, length, get_or, refl, arith}
use Rattle.std.proofs.lemmas.List.FromFn.{length-map-range_with_len, get_or-map-range_with_len}
use Rattle.std.proofs.lemmas.List.Recursion.{max_bounds, max_least}
use Rattle.meetings.specs.declared.numbers.Side.{Side}
use Rattle.meetings.specs.Lists.{Contents, parties}
use Rattle.fewest.specs.Rounds.{largest, numbers, meetings_of}

pub largest_above : (xs : List ℕ) (i : ℕ) → i < length xs → get_or xs i 0 ≤ largest xs
largest_above xs i h = max_bounds largest (λ x. x) refl (λ _ _. refl) xs i 0 h

pub largest_within : (m : ℕ) (xs : List ℕ) → ((i : ℕ) → i < length xs → get_or xs i 0 ≤ m) → largest xs ≤ m
largest_within m xs h = max_least largest (λ x. x) refl (λ _ _. refl) xs 0 m h

-- the numbers of a side, entry by entry
module _ (s : Side) (d : Contents) where
  pub numbers_long : length (numbers s d) ≡ parties s d.groups d.stations
  numbers_long = length-map-range_with_len (λ p. meetings_of s p d.meetings) 0 (parties s d.groups d.stations)

  pub number_at : (p : ℕ) → p < parties s d.groups d.stations → get_or (numbers s d) p 0 ≡ meetings_of s p d.meetings
  number_at p h =
      let here : 0 + p ≡ p = omega arith in
      get_or-map-range_with_len (λ p. meetings_of s p d.meetings) 0 (parties s d.groups d.stations) p p 0 h here

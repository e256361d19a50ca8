-- Each day of the table has the number of rounds that stands there: one test, which antt computes over the whole table.
-- Assumes nothing.
use Rattle.std.proofs.Common.{◌≡◌, Bool, eqb, refl}
use Rattle.std.proofs.lemmas.Bool.Decides.{Decides-eqb, Decides-by_and}
use Rattle.std.specs.List.{list_all}
use Rattle.fewest.specs.Days.{Worked, days, DaysRight}
use Rattle.fewest.specs.Rounds.{fewest}

right : Worked → Bool
right w = eqb (fewest w.day) w.rounds

pub days_right : DaysRight
unfolding right
days_right =
    (Decides-by_and right (λ w. fewest w.day ≡ w.rounds) (list_all right) (λ w. Decides-eqb (fewest w.day) w.rounds) refl (λ w ws. refl) days).0 refl

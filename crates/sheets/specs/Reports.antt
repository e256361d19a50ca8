-- What is told of a day that is planned. Assumes nothing.
use Rattle.std.specs.Prelude.{◌≡◌, ℕ, List, vec_items}
use Rattle.meetings.specs.Lists.{Contents}
use Rattle.fewest.specs.Rounds.{fewest}
use Rattle.balance.specs.declared.planned.Planned.{Planned}
use Rattle.balance.specs.Lent.{plan_of}
use Rattle.balance.specs.Sizes.{sizes_of}
use Rattle.plans.specs.Given.{Given}
use Rattle.sheets.specs.declared.report.Report.{Report}

-- the number of rounds, the looks, how many meetings each round has, and the round of each meeting
pub record Told : Type 0 where
  pub rounds : ℕ
  pub looks : ℕ
  pub of_rounds : List ℕ
  pub of_meetings : List ℕ

abbrev pub telling : ℕ → ℕ → List ℕ → Told
telling rounds looks xs = record { rounds = rounds; looks = looks; of_rounds = sizes_of rounds xs; of_meetings = xs }

abbrev pub told : Report → Told
told r = record { rounds = r.planned.rounds; looks = r.planned.looks; of_rounds = vec_items r.of_rounds; of_meetings = vec_items r.of_meetings }

-- the plan in it
abbrev pub plan_told : Told → Given
plan_told t = record { rounds = t.rounds; at = t.of_meetings }

-- what is told of a list: the fewest rounds, and the rule's plan with so many
abbrev pub told_of : Contents → Told
told_of d = telling (fewest d) (plan_of d).looks (plan_of d).rounds

-- what planning answers and leaves in the lent rounds is what is told
abbrev pub ToldBy : Contents → Planned → List ℕ → Type 0
ToldBy d p xs = telling p.rounds p.looks xs ≡ told_of d

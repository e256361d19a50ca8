-- What the marks of the parties that were seen say. Assumes nothing.
use Rattle.std.specs.Prelude.{◌≡◌, ℕ, Bool, false, List}
use Rattle.meetings.specs.declared.numbers.Meeting.{Meeting}
use Rattle.meetings.specs.declared.numbers.Side.{Side}
use Rattle.plans.specs.Cells.{Cells}
use Rattle.plans.specs.Checking.{seen}

-- marks for each of w rounds of each party of a side: who was seen in which round among the first i meetings
abbrev pub Marks : List Meeting → List ℕ → Side → ℕ → ℕ → List Bool → Type 0
Marks ms xs s w i bs = Cells ms s w false (λ p c b. b ≡ seen ms xs s p c i) bs

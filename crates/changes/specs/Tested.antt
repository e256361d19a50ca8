-- What the test of a row of changes answers. Assumes nothing.
use Rattle.std.specs.Prelude.{ℕ, List, [], vec_items}
use Rattle.meetings.specs.declared.numbers.Meeting.{Meeting}
use Rattle.meetings.specs.Lists.{Contents}
use Rattle.meetings.specs.Refusals.{Outcome, accepted, then}
use Rattle.changes.specs.declared.change.Change.{Change}
use Rattle.changes.specs.declared.tested.Tested.{Tested}
use Rattle.changes.specs.Numbered.{tested, whole}

abbrev pub tested_lists : Tested → List Meeting × List ℕ
tested_lists t = (vec_items t.meetings, vec_items t.rounds)

-- all meetings that have a number in the end, and the number of rounds after each change
abbrev pub row_tested : Contents → List Change → Outcome (List Meeting × List ℕ)
row_tested d cs = then (tested (whole d) cs 0 []) (λ p. accepted (p.0.list.meetings, p.1))

-- A round that is given to a meeting, or none. Assumes nothing.
use Rattle.std.specs.Prelude.{ℕ, Option, Some, None, ⊤}
use Rattle.meetings.specs.declared.numbers.Round.{Round}
use Rattle.fewest.specs.Plans.{none}
use Rattle.chains.specs.declared.shapes.Shape.{Shape}
use Rattle.chains.specs.Rows.{WithinRows}

-- how a round or none is written in a lent slice
abbrev pub entry_of : Option Round → ℕ
entry_of None = none
entry_of (Some c) = c.0

-- a round for which all rows have an entry, or none
abbrev pub WithinOrNone : Shape → Option Round → Type 0
WithinOrNone z None = ⊤
WithinOrNone z (Some c) = WithinRows z c.0

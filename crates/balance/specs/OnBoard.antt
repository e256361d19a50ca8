-- What is found while parts are looked at on a board, and what evening out asks of a board and leaves on it. Assumes nothing.
use Rattle.std.specs.Prelude.{◌≡◌, ℕ, ◌+◌, ◌≤◌, true, false, Option, MatchOption, List, [], ◌++◌, length}
use Rattle.meetings.specs.declared.numbers.Side.TheVariants.{Groups}
use Rattle.chains.specs.declared.board.Board.{Board}
use Rattle.chains.specs.declared.found.Found.{Found}
use Rattle.chains.specs.declared.neighbours.TwoRounds.{TwoRounds}
use Rattle.chains.specs.declared.shapes.Shape.{Shape}
use Rattle.chains.specs.Boards.{Becomes, meetings_on, rounds_on, two_on}
use Rattle.chains.specs.Chains.{Two, Sound, holds, part}
use Rattle.chains.specs.Exchanges.{Exchangeable, exchanged}
use Rattle.chains.specs.Finding.{Finds, Unused, among_all, found_in}
use Rattle.chains.specs.Partial.{Partial}
use Rattle.chains.specs.Rows.{ManyWithin, parties_of}
use Rattle.placing.specs.Putting.{Placed}
use Rattle.balance.specs.Looking.{Looked, look, looks_of, one_more}
use Rattle.balance.specs.Sizes.{sizes_of}

-- the part of meeting i starts behind the parts passed over, if it has one more; nothing if not
abbrev pub Judged : Two → List ℕ → ℕ → Option ℕ → Type 0
Judged t is i o =
    MatchOption o
    (one_more t (part t (holds is) i) ≡ false)
    (λ start. (one_more t (part t (holds is) i) ≡ true) × (start ≡ length is))

-- v becomes w, which has found the parts that were looked at, one after the other; the one that is taken starts here
pub record Looks (v w : Found) (l : Looked) (start : ℕ) : Type 0 where
  pub among : among_all w ≡ among_all v
  pub list : found_in w ≡ l.passed ++ l.taken
  pub at : start ≡ length l.passed

-- the meetings of two rounds fit into a list with so much room
abbrev pub RoomForTwo : Shape → ℕ → Type 0
RoomForTwo z room = parties_of Groups z + parties_of Groups z ≤ room

-- two rounds of the board d can be exchanged on the part that looking finds, v has found nothing yet, and there is room
pub record CanExchange (d : Board) (v : Found) (room : ℕ) (r : TwoRounds) : Type 0 where
  pub sound : Sound (two_on d r)
  pub exchange : Exchangeable (meetings_on d) d.shape (rounds_on d) (look (two_on d r)).taken r.a.0 r.b.0
  pub unused : Unused v (length (meetings_on d))
  pub enough : RoomForTwo d.shape room

-- the board d becomes e: two rounds are exchanged on the part that looking finds; so many looks are counted
pub record ExchangedOn (d e : Board) (v w : Found) (r : TwoRounds) (counted : ℕ) : Type 0 where
  pub board : Becomes d e (exchanged r.a.0 r.b.0 (look (two_on d r)).taken (rounds_on d))
  pub looks : counted ≡ looks_of (look (two_on d r))
  pub forgotten : Finds v w []

-- what evening out asks: the meetings of the board d have one of as many rounds as there are sizes, or none, and these are their
-- sizes; v has found nothing yet, and there is room
pub record ReadyToEven (d : Board) (ns : List ℕ) (v : Found) (room : ℕ) : Type 0 where
  pub plan : Partial (length ns) (meetings_on d) (rounds_on d)
  pub within : ManyWithin d.shape (length ns)
  pub counted : ns ≡ sizes_of (length ns) (rounds_on d)
  pub unused : Unused v (length (meetings_on d))
  pub enough : RoomForTwo d.shape room

-- the board d becomes e, with the rounds that the rule gives, and the numbers are their sizes; so many looks are counted, and
-- what was found is forgotten
pub record EvensOn (d e : Board) (ns ns' : List ℕ) (v w : Found) (p : Placed) (counted : ℕ) : Type 0 where
  pub board : Becomes d e p.rounds
  pub looks : counted ≡ p.looks
  pub sizes : ns' ≡ sizes_of (length ns) p.rounds
  pub forgotten : Finds v w []

-- What is asked of a board on which a meeting is put in, and what is left on it. Assumes nothing.
use Rattle.std.specs.Prelude.{◌≡◌, ℕ, ◌+◌, ◌<◌, ◌≤◌, [], length}
use Rattle.meetings.specs.declared.numbers.Side.TheVariants.{Groups, Stations}
use Rattle.fewest.specs.Plans.{none}
use Rattle.chains.specs.declared.board.Board.{Board}
use Rattle.chains.specs.declared.found.Found.{Found}
use Rattle.chains.specs.Boards.{Becomes, meetings_on, rounds_on}
use Rattle.chains.specs.Exchanges.{exchanged}
use Rattle.chains.specs.Partial.{Vacant, party_of, round_of}
use Rattle.chains.specs.Rows.{ManyWithin, WithinRows}
use Rattle.chains.specs.Finding.{Finds, Unused}
use Rattle.placing.specs.Putting.{Placed, chain_for}
use Rattle.placing.specs.Statements.{Opens, Ready}

-- meeting i can be put in into one of r rounds on the board d, and v has found nothing yet
pub record ReadyOn (d : Board) (v : Found) (r i : ℕ) : Type 0 where
  pub ready : Ready d.shape.groups d.shape.stations r (meetings_on d) (rounds_on d) i
  pub within : ManyWithin d.shape r
  pub unused : Unused v (length (meetings_on d))

-- meeting i has no round on the board d, its chain in a and b opens a for it, and v has found nothing yet
pub record OpensOn (d : Board) (v : Found) (i a b : ℕ) : Type 0 where
  pub one : WithinRows d.shape a
  pub other : WithinRows d.shape b
  pub here : i < length (meetings_on d)
  pub out : round_of (rounds_on d) i ≡ none
  pub opens : Opens d.shape.groups d.shape.stations (meetings_on d) (rounds_on d) i a b (chain_for (meetings_on d) (rounds_on d) i a b)
  pub unused : Unused v (length (meetings_on d))

-- the board d becomes e, with the rounds that the rule gives; so many looks are counted
pub record PutOn (d e : Board) (p : Placed) (counted : ℕ) : Type 0 where
  pub board : Becomes d e p.rounds
  pub looks : counted ≡ p.looks

-- the same, and what was found is forgotten
pub record PutsOn (d e : Board) (v w : Found) (p : Placed) (counted : ℕ) : Type 0 where
  pub board : Becomes d e p.rounds
  pub looks : counted ≡ p.looks
  pub forgotten : Finds v w []

-- the board d becomes e: a and b are exchanged on the chain for meeting i, of so many meetings, which is found; i still has no
-- round, and its group and its station are free in a
pub record Opened (d e : Board) (v w : Found) (i a b long : ℕ) : Type 0 where
  pub board : Becomes d e (exchanged a b (chain_for (meetings_on d) (rounds_on d) i a b) (rounds_on d))
  pub counted : long ≡ length (chain_for (meetings_on d) (rounds_on d) i a b)
  pub short : long ≤ d.shape.groups + d.shape.stations
  pub few : long ≤ none
  pub out : round_of (rounds_on e) i ≡ none
  pub group_free : Vacant (meetings_on d) (rounds_on e) Groups (party_of (meetings_on d) Groups i) a
  pub station_free : Vacant (meetings_on d) (rounds_on e) Stations (party_of (meetings_on d) Stations i) a
  pub found : Finds v w (chain_for (meetings_on d) (rounds_on d) i a b)

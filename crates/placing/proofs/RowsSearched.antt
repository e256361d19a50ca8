-- The rows of a board show which rounds are free. Assumes nothing.
use Rattle.std.proofs.Common.{◌≡◌, ℕ, ◌<◌, ◌≤◌, Bool, true, false, ◌&&◌, eqb, List, length, get_or, refl, ap, ◌∙◌, arith}
use Rattle.meetings.specs.declared.numbers.Meeting.{Meeting}
use Rattle.meetings.specs.declared.numbers.Side.{Side}
use Rattle.meetings.specs.declared.numbers.Side.TheVariants.{Groups, Stations}
use Rattle.fewest.specs.Plans.{none}
use Rattle.chains.specs.declared.board.Board.{Board}
use Rattle.chains.specs.Boards.{meetings_on, rounds_on}
use Rattle.chains.specs.Rows.{RowOf, parties_of, width_of}
use Rattle.chains.specs.Lowest.{lowest}
use Rattle.chains.specs.Partial.{party_of}
use Rattle.chains.proofs.Lowest.{lowest_ext}
use Rattle.chains.proofs.RowsRead.{side_rows}
use Rattle.placing.specs.Putting.{free, common_free, own_free}

module _ (r : ℕ) (ms : List Meeting) (xs : List ℕ) (i : ℕ) where
  shown : (s : Side) (row : List ℕ) → r ≤ length row → RowOf ms xs s (party_of ms s i) row → (c : ℕ) → c < r → eqb (get_or row c 0) none ≡ free ms xs i s c
  shown s row long is c h = ap (λ y. eqb y none) (is.at c (omega arith))

  pub common_shown : (gs ss : List ℕ) → r ≤ length gs → r ≤ length ss → RowOf ms xs Groups (party_of ms Groups i) gs → RowOf ms xs Stations (party_of ms Stations i) ss → lowest (λ c. eqb (get_or gs c 0) none && eqb (get_or ss c 0) none) r ≡ common_free r ms xs i
  common_shown gs ss lg ls g s =
      lowest_ext _ _ r (λ c h. ap (λ b. b && eqb (get_or ss c 0) none) (shown Groups gs lg g c h) ∙ ap (λ b. free ms xs i Groups c && b) (shown Stations ss ls s c h))

  pub own_shown : (s : Side) (row : List ℕ) → r ≤ length row → RowOf ms xs s (party_of ms s i) row → lowest (λ c. eqb (get_or row c 0) none && eqb (get_or row c 0) none) r ≡ own_free r ms xs i s
  own_shown s row long is = lowest_ext _ _ r (λ c h. twice (eqb (get_or row c 0) none) ∙ shown s row long is c h)
    where
      twice : (b : Bool) → (b && b) ≡ b
      twice true = refl
      twice false = refl

-- the row of a meeting's party, as it was read off the board
pub own_read : (r : ℕ) (d : Board) (i : ℕ) (s : Side) (p : ℕ) (row : List ℕ) → i < length (meetings_on d) → r ≤ d.shape.group_width → r ≤ d.shape.station_width → p ≡ party_of (meetings_on d) s i → length row ≡ width_of s d.shape → (p < parties_of s d.shape → RowOf (meetings_on d) (rounds_on d) s p row) → (r ≤ length row) × RowOf (meetings_on d) (rounds_on d) s (party_of (meetings_on d) s i) row
own_read r d i s p row h gw sw is long of = (
  omega (arith, wide s),
  rw (← is) (of (rw is ((side_rows d s).parties i h))),
)
  where
    wide : (s : Side) → r ≤ width_of s d.shape
    wide Groups = gw
    wide Stations = sw

-- What is read off the board: the entry of a row is the meeting that the party has in the round. Assumes nothing.
use Rattle.std.proofs.Common.{◌≡◌, ℕ, ◌+◌, ◌*◌, ◌<◌, ◌≤◌, List, length, get_or, take, drop, ap, ◌∙◌, arith}
use Rattle.std.proofs.lemmas.List.{length-take-le, length-drop, get_or-take, get_or-drop}
use Rattle.meetings.specs.declared.numbers.Side.{Side}
use Rattle.meetings.specs.declared.numbers.Side.TheVariants.{Groups, Stations}
use Rattle.chains.specs.declared.board.Board.{Board}
use Rattle.chains.specs.Boards.{meetings_on, rounds_on, rows_of}
use Rattle.chains.specs.Rows.{Rows, RowOf, width_of, parties_of}
use Rattle.chains.specs.Partial.{round_of, party_of}
use Rattle.chains.proofs.Entries.{entry_at}

-- the rows of a side, of a board
pub side_rows : (d : Board) (s : Side) → Rows (length (meetings_on d)) (party_of (meetings_on d) s) (round_of (rounds_on d)) (parties_of s d.shape) (width_of s d.shape) (rows_of s d)
side_rows d Groups = d.held.groups
side_rows d Stations = d.held.stations

module _ (rows row : List ℕ) (w p : ℕ) (room : p * w + w ≤ length rows) (held : row ≡ take w (drop (p * w) rows)) where
  pub row_long : length row ≡ w
  row_long = ap length held ∙ length-take-le w (drop (p * w) rows) (omega (arith, length-drop (p * w) rows))

  pub row_entry : (c : ℕ) → c < w → get_or row c 0 ≡ get_or rows (p * w + c) 0
  row_entry c h = ap (λ l. get_or l c 0) held ∙ get_or-take w (drop (p * w) rows) c 0 h ∙ get_or-drop (p * w) rows c 0

pub row_of_board : (d : Board) (s : Side) (p : ℕ) (row : List ℕ) → p * width_of s d.shape + width_of s d.shape ≤ length (rows_of s d) → row ≡ take (width_of s d.shape) (drop (p * width_of s d.shape) (rows_of s d)) → p < parties_of s d.shape → RowOf (meetings_on d) (rounds_on d) s p row
row_of_board d s p row room held hp = record {
  at = λ c h.
      let w = width_of s d.shape in
      let within : c < width_of s d.shape = omega (arith, row_long (rows_of s d) row w p room held) in
      row_entry (rows_of s d) row w p room held c within
      ∙ entry_at (length (meetings_on d)) (party_of (meetings_on d) s) (round_of (rounds_on d)) p c _ d.held.few ((side_rows d s).entries p c hp within);
}

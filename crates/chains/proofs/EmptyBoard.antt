-- Cleared rows are the rows of meetings without a round. Assumes nothing.
use Rattle.std.proofs.Common.{◌≡◌, ℕ, ◌+◌, ◌*◌, ◌<◌, ◌≤◌, List, length, get_or, drop, replicate, ap, ◌∙◌, ⊎_elim, mul-le-mul_right, suc-mul, arith}
use Rattle.std.proofs.lemmas.List.{drop_at, get_or_append_left, get_or_past, get_or-replicate, length-append, length-drop, length-replicate}
use Rattle.std.proofs.lemmas.Bool.{cases_lt}
use Rattle.fewest.specs.Plans.{none}
use Rattle.meetings.specs.declared.numbers.Meeting.{Meeting}
use Rattle.meetings.specs.declared.numbers.Side.TheVariants.{Groups, Stations}
use Rattle.chains.specs.declared.shapes.Shape.{Shape}
use Rattle.chains.specs.Partial.{party_of, round_of}
use Rattle.chains.specs.Rows.{Beyond, Rows}
use Rattle.chains.specs.Shapes.{Sized}
use Rattle.chains.specs.Starting.{Emptied, cleared}
use Rattle.chains.proofs.RowsKept.{place_before}

module _ (n w : ℕ) (rows rows' : List ℕ) (room : n * w ≤ length rows) (is : rows' ≡ cleared n w rows) where
  pub cleared_beyond : Beyond n w rows rows'
  cleared_beyond = (
    ap length is ∙ length-append (replicate (n * w) none) (drop (n * w) rows) ∙ omega (arith, length-replicate (n * w) none, length-drop (n * w) rows),
    ap (drop (n * w)) is ∙ drop_at (replicate (n * w) none) (drop (n * w) rows) (n * w) (length-replicate (n * w) none),
  )

  pub cleared_rows : (m : ℕ) (party rnd : ℕ → ℕ) → w ≤ none → ((i : ℕ) → i < m → party i < n) → ((i : ℕ) → i < m → rnd i ≡ none) → Rows m party rnd n w rows'
  cleared_rows m party rnd narrow exist out = record {
    narrow = narrow;
    parties = exist;
    room = λ p h. let more = suc-mul p w in omega (arith, mul-le-mul_right w h, cleared_beyond.0);
    entries = λ p c hp hc. record {
      is = λ is_some. absurd (is_some (at p c hp hc));
      only = λ i h u v. absurd (omega (arith, out i h));
    };
  }
    where
      at : (p c : ℕ) → p < n → c < w → get_or rows' (p * w + c) 0 ≡ none
      at p c hp hc =
          let before = place_before n w p c hp hc in
          ap (λ l. get_or l (p * w + c) 0) is ∙ get_or_append_left (replicate (n * w) none) (drop (n * w) rows) 0 (p * w + c) (omega (arith, length-replicate (n * w) none)) ∙ get_or-replicate (n * w) (p * w + c) none 0 before

-- nobody has a round
pub none_at : (m i : ℕ) → get_or (replicate m none) i none ≡ none
none_at m i = ⊎_elim (λ h. get_or-replicate m i none none h) (λ h. get_or_past (replicate m none) i none (omega (arith, length-replicate m none))) (cases_lt i m)

-- cleared slices are a board without rounds
pub emptied : (ms : List Meeting) (z : Shape) (xs xs' gs gs' ss ss' : List ℕ) → z.groups * z.group_width ≤ length gs → z.stations * z.station_width ≤ length ss → xs' ≡ replicate (length xs) none → gs' ≡ cleared z.groups z.group_width gs → ss' ≡ cleared z.stations z.station_width ss → Sized ms z xs gs ss → Emptied ms z xs' gs gs' ss ss'
emptied ms z xs xs' gs gs' ss ss' group_room station_room rounds group_rows station_rows sized =
    let no_rounds : xs' ≡ replicate (length ms) none = rounds ∙ ap (λ n. replicate n none) sized.each in
    let out : (i : ℕ) → i < length ms → round_of xs' i ≡ none = λ i h. ap (λ l. round_of l i) no_rounds ∙ none_at (length ms) i in
    record {
      rounds = no_rounds;
      board = record {
        few = sized.few;
        each = ap length no_rounds ∙ length-replicate (length ms) none;
        round = λ i h is_some. absurd (is_some (out i h));
        groups = cleared_rows z.groups z.group_width gs gs' group_room group_rows (length ms) (party_of ms Groups) _ sized.group_narrow (sized.exist Groups) out;
        stations = cleared_rows z.stations z.station_width ss ss' station_room station_rows (length ms) (party_of ms Stations) _ sized.station_narrow (sized.exist Stations) out;
      };
      group_rest = cleared_beyond z.groups z.group_width gs gs' group_room group_rows;
      station_rest = cleared_beyond z.stations z.station_width ss ss' station_room station_rows;
    }

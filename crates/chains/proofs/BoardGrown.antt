-- A meeting more, without a round, changes no entry of the rows. Assumes nothing.
use Rattle.std.proofs.Common.{◌≡◌, ℕ, ◌<◌, ◌≤◌, List, [], ◌∷◌, ◌++◌, length, sym, ap, ◌∙◌, ⊎_elim, arith}
use Rattle.std.proofs.lemmas.List.{get_or_append_left, get_or_push, length-append}
use Rattle.std.proofs.lemmas.Bool.{cases_lt}
use Rattle.meetings.specs.declared.numbers.Meeting.{Meeting}
use Rattle.meetings.specs.declared.numbers.Side.{Side}
use Rattle.meetings.specs.declared.numbers.Side.TheVariants.{Groups, Stations}
use Rattle.meetings.specs.Lists.{nobody, party}
use Rattle.fewest.specs.Plans.{none}
use Rattle.chains.specs.declared.shapes.Shape.{Shape}
use Rattle.chains.specs.Partial.{party_of, round_of}
use Rattle.chains.specs.Rows.{Holds, Rows}

module _ (ms : List Meeting) (x : Meeting) (xs : List ℕ) (each : length xs ≡ length ms) where
  -- meetings from before are as they were
  same_party : (s : Side) (i : ℕ) → i < length ms → party_of (ms ++ x ∷ []) s i ≡ party_of ms s i
  same_party s i h = ap (party s) (get_or_append_left ms (x ∷ []) nobody i h)

  same_round : (i : ℕ) → i < length ms → round_of (xs ++ none ∷ []) i ≡ round_of xs i
  same_round i h = get_or_append_left xs (none ∷ []) none i (omega arith)

  -- the new one is the last, and has no round
  new_round : (i : ℕ) → length ms ≤ i → i < length (ms ++ x ∷ []) → round_of (xs ++ none ∷ []) i ≡ none
  new_round i past h = get_or_push xs none none i (omega (arith, length-append ms (x ∷ [])))

  new_party : (s : Side) (i : ℕ) → length ms ≤ i → i < length (ms ++ x ∷ []) → party_of (ms ++ x ∷ []) s i ≡ party s x
  new_party s i past h = ap (party s) (get_or_push ms x nobody i (omega (arith, length-append ms (x ∷ []))))

  rows_grown : (s : Side) (n w : ℕ) (rows : List ℕ) → party s x < n → Rows (length ms) (party_of ms s) (round_of xs) n w rows → Rows (length (ms ++ x ∷ [])) (party_of (ms ++ x ∷ []) s) (round_of (xs ++ none ∷ [])) n w rows
  rows_grown s n w rows new r = record {
    narrow = r.narrow;
    parties = λ i h. ⊎_elim (λ old. omega (arith, r.parties i old, same_party s i old)) (λ past. omega (arith, new, new_party s i past h)) (cases_lt i (length ms));
    room = r.room;
    entries = λ p c hp hc.
        let was = r.entries p c hp hc in
        record {
          is = λ some. let at = was.is some in (omega (arith, at.0, length-append ms (x ∷ [])), same_party s _ at.0 ∙ at.1, same_round _ at.0 ∙ at.2);
          only = λ i h group round. ⊎_elim
              (λ old. was.only i old (sym (same_party s i old) ∙ group) (sym (same_round i old) ∙ round))
              (λ past. absurd (omega (arith, round, new_round i past h, hc, r.narrow)))
              (cases_lt i (length ms));
        };
  }

-- the slices are a board for them as well
pub board_grown : (ms : List Meeting) (x : Meeting) (z : Shape) (xs gs ss : List ℕ) → length ms < none → party Groups x < z.groups → party Stations x < z.stations → Holds ms z xs gs ss → Holds (ms ++ x ∷ []) z (xs ++ none ∷ []) gs ss
board_grown ms x z xs gs ss few group station b = record {
  few = omega (arith, length-append ms (x ∷ []));
  each = omega (arith, b.each, length-append ms (x ∷ []), length-append xs (none ∷ []));
  round = λ i h some. ⊎_elim
      (λ old. let was = b.round i old (λ out. some (same_round ms x xs b.each i old ∙ out)) in (omega (arith, was.0, same_round ms x xs b.each i old), omega (arith, was.1, same_round ms x xs b.each i old)))
      (λ past. absurd (some (new_round ms x xs b.each i past h)))
      (cases_lt i (length ms));
  groups = rows_grown ms x xs b.each Groups z.groups z.group_width gs group b.groups;
  stations = rows_grown ms x xs b.each Stations z.stations z.station_width ss station b.stations;
}

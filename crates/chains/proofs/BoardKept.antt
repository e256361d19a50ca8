-- The board holds what it should after a meeting was placed or taken out. Assumes nothing.
use Rattle.std.proofs.Common.{◌≡◌, ℕ, ◌+◌, ◌*◌, ◌<◌, ◌⊎◌, Option, Some, None, List, length, set, sym, refl, ap, ◌∙◌, subst, inl, inr, ⊎_elim, arith}
use Rattle.std.proofs.lemmas.List.{get_or-set_same, get_or-set_other, length-set}
use Rattle.std.proofs.lemmas.Bool.{cases_eq}
use Rattle.meetings.specs.declared.numbers.Meeting.{Meeting}
use Rattle.meetings.specs.declared.numbers.Round.{Round}
use Rattle.meetings.specs.declared.numbers.Side.{Side}
use Rattle.meetings.specs.declared.numbers.Side.TheVariants.{Groups, Stations}
use Rattle.fewest.specs.Plans.{none}
use Rattle.chains.specs.declared.board.Board.{Board}
use Rattle.chains.specs.declared.shapes.Shape.{Shape}
use Rattle.chains.specs.Boards.{Becomes, meetings_on, rounds_on}
use Rattle.chains.specs.Given.{WithinOrNone, entry_of}
use Rattle.chains.specs.Rows.{Beyond, Holds, FreeFor, WithinRows}
use Rattle.chains.specs.Partial.{Vacant, round_of, party_of}
use Rattle.chains.proofs.RowsKept.{rows_placed, rows_taken}

module _ (ms : List Meeting) (z : Shape) (xs gs ss : List ℕ) (i : ℕ) (b : Holds ms z xs gs ss) (h : i < length ms) where
  given : (c : ℕ) → round_of (set xs i c) i ≡ c
  given c = get_or-set_same xs i c none (omega (arith, b.each))

  elsewhere : (c j : ℕ) → (j ≡ i → ⊥) → round_of (set xs i c) j ≡ round_of xs j
  elsewhere c j other = get_or-set_other xs i j c none other

  round_kept : (c : ℕ) → ((c ≡ none → ⊥) → WithinRows z c) → (j : ℕ) → j < length ms → (round_of (set xs i c) j ≡ none → ⊥) → WithinRows z (round_of (set xs i c) j)
  round_kept c ok j hj =
      ⊎_elim
      (λ same. let is : round_of (set xs i c) j ≡ c = ap (round_of (set xs i c)) same ∙ given c in rw is ok)
      (λ other. rw (elsewhere c j other) (b.round j hj))
      (cases_eq j i)

  pub board_placed : (c : ℕ) (gs' ss' : List ℕ) → round_of xs i ≡ none → c < z.group_width → c < z.station_width → Vacant ms xs Groups (party_of ms Groups i) c → Vacant ms xs Stations (party_of ms Stations i) c → gs' ≡ set gs (party_of ms Groups i * z.group_width + c) i → ss' ≡ set ss (party_of ms Stations i * z.station_width + c) i → Holds ms z (set xs i c) gs' ss'
  board_placed c gs' ss' out gw sw gv sv ge se = record {
    few = b.few;
    each = length-set xs i c ∙ b.each;
    round = round_kept c (λ _. (gw, sw));
    groups = rows_placed (length ms) (party_of ms Groups) (round_of xs) (round_of (set xs i c)) i (elsewhere c) _ _ gs gs' c b.groups h out (given c) gw gv ge;
    stations = rows_placed (length ms) (party_of ms Stations) (round_of xs) (round_of (set xs i c)) i (elsewhere c) _ _ ss ss' c b.stations h out (given c) sw sv se;
  }

  pub board_taken : (c : ℕ) (gs' ss' : List ℕ) → round_of xs i ≡ c → c < z.group_width → c < z.station_width → gs' ≡ set gs (party_of ms Groups i * z.group_width + c) none → ss' ≡ set ss (party_of ms Stations i * z.station_width + c) none → Holds ms z (set xs i none) gs' ss'
  board_taken c gs' ss' here gw sw ge se = record {
    few = b.few;
    each = length-set xs i none ∙ b.each;
    round = round_kept none (λ is_some. absurd (is_some refl));
    groups = rows_taken (length ms) (party_of ms Groups) (round_of xs) (round_of (set xs i none)) i (elsewhere none) _ _ gs gs' c b.groups h here (given none) gw ge;
    stations = rows_taken (length ms) (party_of ms Stations) (round_of xs) (round_of (set xs i none)) i (elsewhere none) _ _ ss ss' c b.stations h here (given none) sw se;
  }

  -- a round that a meeting has lies within the rows
  pub within_widths : (c : ℕ) → round_of xs i ≡ c → (c ≡ none → ⊥) → WithinRows z c
  within_widths c e placed = rw (← e) (b.round i h (λ out. placed (sym e ∙ out)))

-- a party that is free in a round is free there when one of its meetings is taken out
pub vacant_taken : (ms : List Meeting) (xs : List ℕ) (i c : ℕ) (s : Side) (p : ℕ) → i < length xs → (c ≡ none → ⊥) → Vacant ms xs s p c → Vacant ms (set xs i none) s p c
vacant_taken ms xs i c s p h some vacant j hj e =
    ⊎_elim
    (λ same. absurd (some (sym e ∙ ap (round_of (set xs i none)) same ∙ get_or-set_same xs i none none h)))
    (λ other. vacant j hj (sym (get_or-set_other xs i j none none other) ∙ e))
    (cases_eq j i)

-- nothing is written
pub becomes_same : (d : Board) (xs : List ℕ) → d.rounds.now ≡ xs → Becomes d d xs
becomes_same d xs e = record { rounds = e; meetings = refl; shape = refl; group_rest = (refl, refl); station_rest = (refl, refl); same_rounds = refl; same_groups = refl; same_stations = refl }

-- the same rounds, said otherwise
pub becomes_also : (d e : Board) (xs ys : List ℕ) → Becomes d e xs → xs ≡ ys → Becomes d e ys
becomes_also d e xs ys one is = rw (← is) one

-- one after the other
pub becomes_then : (d e f : Board) (xs ys zs : List ℕ) → Becomes d e xs → Becomes e f ys → ys ≡ zs → Becomes d f zs
becomes_then d e f xs ys zs one two is =
    let group_rest : Beyond d.shape.groups d.shape.group_width e.group_rows.now f.group_rows.now = rw (← one.shape) two.group_rest in
    let station_rest : Beyond d.shape.stations d.shape.station_width e.station_rows.now f.station_rows.now = rw (← one.shape) two.station_rest in
    record {
      rounds = two.rounds ∙ is;
      meetings = two.meetings ∙ one.meetings;
      shape = two.shape ∙ one.shape;
      group_rest = (group_rest.0 ∙ one.group_rest.0, group_rest.1 ∙ one.group_rest.1);
      station_rest = (station_rest.0 ∙ one.station_rest.0, station_rest.1 ∙ one.station_rest.1);
      same_rounds = one.same_rounds ∙ two.same_rounds;
      same_groups = one.same_groups ∙ two.same_groups;
      same_stations = one.same_stations ∙ two.same_stations;
    }

-- a meeting that was taken out can be placed where it is free
pub free_taken : (ms ms' : List Meeting) (z : Shape) (xs xs' : List ℕ) (i c : ℕ) → i < length xs → (c ≡ none → ⊥) → FreeFor ms z xs i c → ms' ≡ ms → xs' ≡ set xs i none → (s : Side) → Vacant ms' xs' s (party_of ms' s i) c
free_taken ms ms' z xs xs' i c h some free same out s =
    ⊎_elim
    (λ is_none. absurd (some is_none))
    (λ ok. rw (same, out) (vacant_taken ms xs i c s (party_of ms s i) h some (ok.1 s)))
    free

-- a round that is given and is not none lies within the rows
pub given_within : (z : Shape) (o : Option Round) (c : Round) → o ≡ Some c → WithinOrNone z o → WithinRows z c.0
given_within z o c e ok = subst (λ x. WithinOrNone z x) e ok

-- nothing below the width of rows is none
pub given_cases : (z : Shape) (o : Option Round) → WithinOrNone z o → (entry_of o ≡ none) ⊎ WithinRows z (entry_of o)
given_cases z None ok = inl refl
given_cases z (Some c) ok = inr ok

-- one that was taken out to be given a round is free in it
pub give_free : (d e : Board) (i : ℕ) (o : Option Round) (c : Round) → i < length (meetings_on d) → o ≡ Some c → WithinOrNone d.shape o → FreeFor (meetings_on d) d.shape (rounds_on d) i (entry_of o) → Becomes d e (set (rounds_on d) i none) → (s : Side) → Vacant (meetings_on e) (rounds_on e) s (party_of (meetings_on e) s i) c.0
give_free d e i o c h is within free out =
    let here : i < length (rounds_on d) = omega (arith, d.held.each) in
    let some : c.0 ≡ none → ⊥ = λ f. omega (arith, (given_within d.shape o c is within).0, d.held.groups.narrow) in
    free_taken (meetings_on d) (meetings_on e) d.shape (rounds_on d) (rounds_on e) i c.0 here some (rw (← ap entry_of is) free) out.meetings out.rounds

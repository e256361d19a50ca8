-- Rows of changes that can be made: what they come to, and that their bytes are read as they were written. Definitions and
-- statements; assumes nothing.
use Rattle.std.specs.Prelude.{◌≡◌, ℕ, ◌+◌, ◌<◌, true, false, List, [], ◌∷◌, ◌++◌, drop, length}
use Rattle.meetings.specs.Lists.{Proper}
use Rattle.meetings.specs.Refusals.{accepted, refused}
use Rattle.meetings.specs.RoundTrips.{AllBytes}
use Rattle.changes.specs.declared.change.Change.{Change}
use Rattle.changes.specs.Bytes.{bytes_of_changes, next_at, read_row, written_row}
use Rattle.changes.specs.Numbered.{Numbered, can, changed, rounds_for, tested}

-- each change can be made when its turn comes
abbrev pub CanAll : Numbered → List Change → Type 0
CanAll v [] = Unit {0}
CanAll v (c ∷ cs) = (can v c ≡ true) × CanAll (changed v c) cs

-- the meetings in the end
abbrev pub changed_all : Numbered → List Change → Numbered
changed_all v [] = v
changed_all v (c ∷ cs) = changed_all (changed v c) cs

-- the number of rounds after each
abbrev pub rounds_after : Numbered → List Change → List ℕ
rounds_after v [] = []
rounds_after v (c ∷ cs) = rounds_for (changed v c) ∷ rounds_after (changed v c) cs

-- what can be made is tested as that
abbrev pub TestedAsMade : Type 0
TestedAsMade =
    (v : Numbered) (cs : List Change) (i : ℕ) (rs : List ℕ) → CanAll v cs →
    tested v cs i rs ≡ accepted (changed_all v cs, rs ++ rounds_after v cs)

-- nothing else is accepted
abbrev pub OnlyWhatCan : Type 0
OnlyWhatCan =
    (v : Numbered) (cs : List Change) (i : ℕ) (rs : List ℕ) (p : Numbered × List ℕ) → tested v cs i rs ≡ accepted p →
    CanAll v cs

-- the change at this place cannot be made, and all before it can
pub record FirstThatCannot (v : Numbered) (cs : List Change) (p : ℕ) : Type 0 where
  pub came : List Change
  pub one : Change
  pub rest : List Change
  pub row : cs ≡ came ++ one ∷ rest
  pub place : length came ≡ p
  pub before : CanAll v came
  pub cannot : can (changed_all v came) one ≡ false

-- A ROW IS REFUSED, by number 6, for the first change that cannot be made; the places are counted from i on
abbrev pub RefusedAsFirst : Type 0
RefusedAsFirst =
    (v : Numbered) (cs : List Change) (i : ℕ) (rs : List ℕ) (number place : ℕ) → tested v cs i rs ≡ refused number place →
    (number ≡ 6) × ((p : ℕ) × (place ≡ i + p) × FirstThatCannot v cs p)

-- these bytes begin with changes that can be made, and what comes then is refused where it stands
pub record FirstRefused (v : Numbered) (bs : List ℕ) (number place : ℕ) : Type 0 where
  pub came : List Change
  pub before : CanAll v came
  pub bytes : bs ≡ bytes_of_changes came ++ drop (length (bytes_of_changes came)) bs
  pub here : length (bytes_of_changes came) < length bs
  pub next : next_at (changed_all v came) bs (length (bytes_of_changes came)) (length came) ≡ refused number place

-- BYTES ARE REFUSED for the first of them that say no change that can be made
abbrev pub ReadAsFirst : Type 0
ReadAsFirst =
    (v : Numbered) (bs : List ℕ) (number place : ℕ) → AllBytes bs → read_row v bs ≡ refused number place →
    FirstRefused v bs number place

-- bytes that are accepted say what can be made, and are what it is written as
abbrev pub ReadThenWritten : Type 0
ReadThenWritten =
    (v : Numbered) (bs : List ℕ) (cs : List Change) → AllBytes bs → read_row v bs ≡ accepted cs →
    CanAll v cs × (bytes_of_changes cs ≡ bs)

-- what can be made is accepted as it was written
abbrev pub WrittenThenRead : Type 0
WrittenThenRead = (v : Numbered) (cs : List Change) → CanAll v cs → read_row v (bytes_of_changes cs) ≡ accepted cs

-- a row that can be made from a proper list is written by its bytes
abbrev pub WrittenAsBytes : Type 0
WrittenAsBytes =
    (v : Numbered) (cs : List Change) → Proper v.list → CanAll v cs → written_row cs ≡ accepted (bytes_of_changes cs)

-- bytes that a row is written by, and that are read as it
pub record SaysRow (v : Numbered) (cs : List Change) (bs : List ℕ) : Type 0 where
  pub bytes : bs ≡ bytes_of_changes cs
  pub back : read_row v bs ≡ accepted cs

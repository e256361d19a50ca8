-- Reading and writing undo each other. Statements; assumes nothing.
use Rattle.std.specs.Prelude.{◌≡◌, ℕ, ◌<◌, List, slice_index}
use Rattle.meetings.specs.Bytes.{read_list, bytes_of}
use Rattle.meetings.specs.Lists.{Contents, Proper}
use Rattle.meetings.specs.Refusals.{accepted}

-- each is below 256
abbrev pub AllBytes : List ℕ → Type 0
AllBytes bs = (i : ℕ) → slice_index bs i < 256

-- what is accepted is proper, and is written as it stood
abbrev pub ReadThenWritten : Type 0
ReadThenWritten = (bs : List ℕ) (d : Contents) → AllBytes bs → read_list bs ≡ accepted d → Proper d × (bytes_of d ≡ bs)

-- what is proper is accepted as it was written
abbrev pub WrittenThenRead : Type 0
WrittenThenRead = (d : Contents) → Proper d → read_list (bytes_of d) ≡ accepted d

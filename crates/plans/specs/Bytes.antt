-- The bytes of a plan: what they say, or why they are refused, and how a plan is written. Assumes nothing.
use Rattle.std.specs.Prelude.{◌≡◌, ℕ, zero, suc, ◌+◌, ◌*◌, ◌/◌, ◌%◌, cond, List, [], ◌∷◌, length, nat_lt, slice_index}
use Rattle.meetings.specs.Refusals.{Outcome, accepted, refused}
use Rattle.meetings.specs.RoundTrips.{AllBytes}
use Rattle.plans.specs.Given.{Given}

-- the number that stands at this place in two bytes, the low one first
abbrev pub number_at : List ℕ → ℕ → ℕ
number_at bs at = slice_index bs at + 256 * slice_index bs (at + 1)

-- so many numbers, one after the other
abbrev pub numbers_at : List ℕ → ℕ → ℕ → List ℕ
numbers_at bs zero at = []
numbers_at bs (suc left) at = number_at bs at ∷ numbers_at bs left (at + 2)

-- how long the bytes of a plan of so many meetings are
abbrev pub long_for : ℕ → ℕ
long_for many = 2 + 2 * many

-- THE RULE FOR BYTES: they are as long as so many meetings ask for
abbrev pub read_plan : ℕ → List ℕ → Outcome Given
read_plan many bs =
    cond (nat_lt (length bs) (long_for many)) (refused 1 (length bs))
    (cond (nat_lt (long_for many) (length bs)) (refused 1 (long_for many))
    (accepted (record { rounds = number_at bs 0; at = numbers_at bs many 2 })))

abbrev pub bytes_of_numbers : List ℕ → List ℕ
bytes_of_numbers [] = []
bytes_of_numbers (x ∷ xs) = x % 256 ∷ x / 256 ∷ bytes_of_numbers xs

-- how a plan is written
abbrev pub bytes_of_plan : Given → List ℕ
bytes_of_plan p = bytes_of_numbers (p.rounds ∷ p.at)

-- bytes that are accepted are as the plan that they say is written, and that has a round for each meeting
abbrev pub ReadThenWritten : Type 0
ReadThenWritten =
    (many : ℕ) (bs : List ℕ) (p : Given) → AllBytes bs → read_plan many bs ≡ accepted p →
    (bytes_of_plan p ≡ bs) × (length p.at ≡ many)

-- what a plan is written as is accepted, and says that plan
abbrev pub WrittenThenRead : Type 0
WrittenThenRead = (p : Given) → read_plan (length p.at) (bytes_of_plan p) ≡ accepted p

-- Reading and writing a plan undo each other: each number is written by the two bytes that it is read from. Assumes nothing.
use Rattle.std.proofs.Common.{◌≡◌, ℕ, zero, suc, ◌+◌, ◌*◌, ◌/◌, ◌%◌, ◌<◌, false, cond, ltb, List, [], ◌∷◌, length, get_or, drop, sym, refl, ap, ◌∙◌, arith}
use Rattle.std.proofs.lemmas.Bool.{cond-false, le-ltb, ltb-false}
use Rattle.std.proofs.lemmas.List.{drop-drop, drop_all, get_or-drop}
use Rattle.meetings.proofs.Accepted.{two_bytes}
use Rattle.meetings.specs.Refusals.{accepted, refused}
use Rattle.meetings.specs.RoundTrips.{AllBytes}
use Rattle.meetings.proofs.Outcomes.{accepted_same, unless_refused}
use Rattle.plans.specs.Bytes.{ReadThenWritten, WrittenThenRead, bytes_of_numbers, bytes_of_plan, long_for, number_at, numbers_at, read_plan}
use Rattle.plans.specs.Given.{Given}

low : (x y : ℕ) → x < 256 → (x + 256 * y) % 256 ≡ x
low x y h = omega arith

high : (x y : ℕ) → x < 256 → (x + 256 * y) / 256 ≡ y
high x y h = omega arith

both : (x : ℕ) → x % 256 + 256 * (x / 256) ≡ x
both x = omega arith

pub long_numbers : (bs : List ℕ) (many at : ℕ) → length (numbers_at bs many at) ≡ many
long_numbers bs zero at = refl
long_numbers bs (suc many) at = ap suc (long_numbers bs many (at + 2))

module _ (bs : List ℕ) (byte : AllBytes bs) where
  -- numbers up to the end are written by the bytes that they were read from
  numbers_back : (many at : ℕ) → at + 2 * many ≡ length bs → bytes_of_numbers (numbers_at bs many at) ≡ drop at bs
  numbers_back zero at e = sym (drop_all at bs (omega arith))
  numbers_back (suc many) at e =
      ap (λ x. x ∷ number_at bs at / 256 ∷ bytes_of_numbers (numbers_at bs many (at + 2))) (low (get_or bs at 0) (get_or bs (at + 1) 0) (byte at))
      ∙ ap (λ y. get_or bs at 0 ∷ y ∷ bytes_of_numbers (numbers_at bs many (at + 2))) (high (get_or bs at 0) (get_or bs (at + 1) 0) (byte at))
      ∙ ap (λ l. get_or bs at 0 ∷ get_or bs (at + 1) 0 ∷ l) (numbers_back many (at + 2) (omega arith))
      ∙ sym (two_bytes bs at (omega arith))

-- what is accepted: the bytes are as long as they should be
pub read_accepted : (many : ℕ) (bs : List ℕ) (p : Given) → read_plan many bs ≡ accepted p → (length bs ≡ long_for many) × (p ≡ record { rounds = number_at bs 0; at = numbers_at bs many 2 })
read_accepted many bs p e =
    let whole : Given = record { rounds = number_at bs 0; at = numbers_at bs many 2 } in
    let first = unless_refused (ltb (length bs) (long_for many)) 1 (length bs) (cond (ltb (long_for many) (length bs)) (refused 1 (long_for many)) (accepted whole)) p e in
    let second = unless_refused (ltb (long_for many) (length bs)) 1 (long_for many) (accepted whole) p first.1 in
    (omega (arith, ltb-false _ _ first.0, ltb-false _ _ second.0), sym (accepted_same _ _ second.1))

pub read_then_written : ReadThenWritten
read_then_written many bs p byte e =
    let read = read_accepted many bs p e in
    rw read.1 (numbers_back bs byte (suc many) 0 (omega (arith, read.0)), long_numbers bs many 2)

-- what is written, from any place on, is read as it was
module _ (bs : List ℕ) where
  written_at : (at i : ℕ) (l : List ℕ) → drop at bs ≡ l → get_or bs (at + i) 0 ≡ get_or l i 0
  written_at at i l e = sym (get_or-drop at bs i 0) ∙ ap (λ l. get_or l i 0) e

  numbers_written : (xs : List ℕ) (at : ℕ) → drop at bs ≡ bytes_of_numbers xs → numbers_at bs (length xs) at ≡ xs
  numbers_written [] at e = refl
  numbers_written (x ∷ xs) at e =
      let first : get_or bs at 0 ≡ x % 256 = ap (λ p. get_or bs p 0) (let here : at ≡ at + 0 = omega arith in here) ∙ written_at at 0 (bytes_of_numbers (x ∷ xs)) e in
      let second : get_or bs (at + 1) 0 ≡ x / 256 = written_at at 1 (bytes_of_numbers (x ∷ xs)) e in
      let rest : drop (at + 2) bs ≡ bytes_of_numbers xs = sym (drop-drop 2 at bs) ∙ ap (drop 2) e in
      let number : number_at bs at ≡ x = omega (arith, first, second) in
      ap (λ y. y ∷ numbers_at bs (length xs) (at + 2)) number ∙ ap (λ l. x ∷ l) (numbers_written xs (at + 2) rest)

pub long_written : (xs : List ℕ) → length (bytes_of_numbers xs) ≡ 2 * length xs
long_written [] = refl
long_written (x ∷ xs) = omega (arith, long_written xs)

not_below : (x y : ℕ) → x ≡ y → ltb x y ≡ false
not_below x y e = le-ltb x y (omega arith)

pub written_then_read : WrittenThenRead
written_then_read p =
    let bs = bytes_of_plan p in
    let long : length bs ≡ long_for (length p.at) = omega (arith, long_written (p.rounds ∷ p.at)) in
    let read = numbers_written bs (p.rounds ∷ p.at) 0 refl in
    cond-false (ltb (length bs) (long_for (length p.at))) _ _ (not_below _ _ long)
    ∙ cond-false (ltb (long_for (length p.at)) (length bs)) _ _ (not_below _ _ (sym long))
    ∙ ap (λ (l : List ℕ). accepted (record { rounds = get_or l 0 0; at = drop 1 l })) read

-- of what is read, and of what is written
pub plan_back : (bs : List ℕ) → AllBytes bs → (many r : ℕ) (xs : List ℕ) → length bs ≡ long_for many → r ≡ number_at bs 0 → xs ≡ numbers_at bs many 2 → bytes_of_numbers (r ∷ xs) ≡ bs
plan_back bs byte many r xs long first rest =
    ap (λ x. bytes_of_numbers (x ∷ xs)) first ∙ ap (λ l. bytes_of_numbers (number_at bs 0 ∷ l)) rest ∙ numbers_back bs byte (suc many) 0 (omega (arith, long))

pub said_by : (p : Given) (bs : List ℕ) → bs ≡ bytes_of_plan p → read_plan (length p.at) bs ≡ accepted p
said_by p bs is = ap (read_plan (length p.at)) is ∙ written_then_read p

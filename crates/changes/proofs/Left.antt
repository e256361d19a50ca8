-- The marked elements of a list are those at the marked places, in their order; so what is counted among them is counted over
-- the marked places. Assumes nothing.
use Rattle.std.proofs.Common.{◌≡◌, ℕ, zero, suc, ◌+◌, ◌<◌, ◌≤◌, Bool, true, false, ◌&&◌, eqb, List, [], ◌∷◌, length, get_or, count_by, sym, refl, ap, ◌∙◌, arith}
use Rattle.std.proofs.lemmas.List.Sums.{sum_by-cons}
use Rattle.meetings.specs.declared.numbers.Meeting.{Meeting}
use Rattle.meetings.specs.declared.numbers.Side.{Side}
use Rattle.meetings.specs.Lists.{Exist, Proper, nobody, party}
use Rattle.fewest.specs.Counting.{one_if, count}
use Rattle.fewest.specs.Plans.{none}
use Rattle.fewest.specs.Rounds.{meetings_of}
use Rattle.fewest.proofs.Busiest.{busiest_is}
use Rattle.chains.specs.Partial.{party_of}
use Rattle.balance.proofs.LentEnough.{fewest_below}
use Rattle.changes.specs.Numbered.{Numbered, left, rounds_for, those}

-- the first number counted first
pub count_front : (p : ℕ → Bool) (n : ℕ) → count p (suc n) ≡ one_if (p 0) + count (λ i. p (suc i)) n
count_front p zero = refl
count_front p (suc n) = let ih = count_front p n in omega arith

-- where the i-th marked place is
abbrev pub place : List Bool → ℕ → ℕ
place [] i = i
place (false ∷ bs) i = suc (place bs i)
place (true ∷ bs) zero = 0
place (true ∷ bs) (suc i) = suc (place bs i)

module _ {A : Type 0} where
  -- what is counted among the marked elements
  pub those_counted : (q : A → Bool) (bs : List Bool) (xs : List A) (d : A) → length bs ≡ length xs → count_by q (those bs xs) ≡ count (λ i. get_or bs i false && q (get_or xs i d)) (length xs)
  those_counted q [] [] d e = refl
  those_counted q [] (x ∷ xs) d e = absurd (omega arith)
  those_counted q (b ∷ bs) [] d e = absurd (omega arith)
  those_counted q (b ∷ bs) (x ∷ xs) d e =
      one b ∙ ap (λ n. one_if (b && q x) + n) (those_counted q bs xs d (omega arith)) ∙ sym (count_front (λ i. get_or (b ∷ bs) i false && q (get_or (x ∷ xs) i d)) (length xs))
    where
      one : (b : Bool) → count_by q (those (b ∷ bs) (x ∷ xs)) ≡ one_if (b && q x) + count_by q (those bs xs)
      one true = sum_by-cons (λ y. one_if (q y)) x (those bs xs)
      one false = omega arith

  -- how many there are
  pub those_many : (bs : List Bool) (xs : List A) → length bs ≡ length xs → length (those bs xs) ≡ count (λ i. get_or bs i false) (length xs)
  those_many [] [] e = refl
  those_many [] (x ∷ xs) e = absurd (omega arith)
  those_many (b ∷ bs) [] e = absurd (omega arith)
  those_many (b ∷ bs) (x ∷ xs) e =
      one b ∙ ap (λ n. one_if b + n) (those_many bs xs (omega arith)) ∙ sym (count_front (λ i. get_or (b ∷ bs) i false) (length xs))
    where
      one : (b : Bool) → length (those (b ∷ bs) (x ∷ xs)) ≡ one_if b + length (those bs xs)
      one true = omega arith
      one false = omega arith

  -- no more than there are elements
  pub those_fewer : (bs : List Bool) (xs : List A) → length (those bs xs) ≤ length xs
  those_fewer [] xs = omega arith
  those_fewer (b ∷ bs) [] = omega arith
  those_fewer (true ∷ bs) (x ∷ xs) = omega (arith, those_fewer bs xs)
  those_fewer (false ∷ bs) (x ∷ xs) = omega (arith, those_fewer bs xs)

  -- the place of the i-th of them is there, and marked, and has it
  pub record Placed (bs : List Bool) (xs : List A) (d : A) (i : ℕ) : Type 0 where
    pub here : place bs i < length xs
    pub marked : get_or bs (place bs i) false ≡ true
    pub is : get_or (those bs xs) i d ≡ get_or xs (place bs i) d

  pub those_at : (bs : List Bool) (xs : List A) (d : A) (i : ℕ) → i < length (those bs xs) → Placed bs xs d i
  those_at [] xs d i h = absurd (omega arith)
  those_at (b ∷ bs) [] d i h = absurd (omega arith)
  those_at (false ∷ bs) (x ∷ xs) d i h =
      let at = those_at bs xs d i h in
      record { here = omega (arith, at.here); marked = at.marked; is = at.is }
  those_at (true ∷ bs) (x ∷ xs) d zero h = record { here = omega arith; marked = refl; is = refl }
  those_at (true ∷ bs) (x ∷ xs) d (suc i) h =
      let at = those_at bs xs d i (omega arith) in
      record { here = omega (arith, at.here); marked = at.marked; is = at.is }

-- places rise, so no two are the same
pub place_once : (bs : List Bool) (i j : ℕ) → place bs i ≡ place bs j → i ≡ j
place_once [] i j e = e
place_once (false ∷ bs) i j e = place_once bs i j (omega arith)
place_once (true ∷ bs) zero zero e = refl
place_once (true ∷ bs) zero (suc j) e = absurd (omega arith)
place_once (true ∷ bs) (suc i) zero e = absurd (omega arith)
place_once (true ∷ bs) (suc i) (suc j) e = ap suc (place_once bs i j (omega arith))

-- the meetings of a party
pub those_of : (s : Side) (p : ℕ) (bs : List Bool) (ms : List Meeting) → length bs ≡ length ms → meetings_of s p (those bs ms) ≡ count (λ i. get_or bs i false && eqb (party_of ms s i) p) (length ms)
those_of s p bs ms e = those_counted (λ m. eqb (party s m) p) bs ms nobody e

-- their groups and stations exist
pub those_exist : (n k : ℕ) (bs : List Bool) (ms : List Meeting) → Exist n k ms → Exist n k (those bs ms)
those_exist n k bs ms exist s i h =
    let at = those_at bs ms nobody i h in
    rw at.is (exist s (place bs i) at.here)

module _ (v : Numbered) (long : length v.there ≡ length v.list.meetings) (proper : Proper v.list) where
  -- the list of those that there are is proper
  pub left_proper : Proper (left v)
  left_proper = record {
    groups_within = proper.groups_within;
    stations_within = proper.stations_within;
    rooms_within = proper.rooms_within;
    few = omega (arith, proper.few, those_fewer v.there v.list.meetings);
    exist = those_exist v.list.groups v.list.stations v.there v.list.meetings proper.exist;
  }

  -- there are no more rounds than meetings
  pub rounds_below : rounds_for v ≤ length v.list.meetings
  rounds_below = omega (arith, fewest_below (left v) left_proper, those_fewer v.there v.list.meetings)

  pub rounds_few : rounds_for v ≤ none
  rounds_few = omega (arith, rounds_below, proper.few)

  -- nobody has more meetings that there are than there are rounds
  pub spared : (i : ℕ) → i < length v.list.meetings → get_or v.there i false ≡ true → (s : Side) → count (λ j. get_or v.there j false && eqb (party_of v.list.meetings s j) (party_of v.list.meetings s i)) (length v.list.meetings) ≤ rounds_for v
  spared i h there s =
      let p = party_of v.list.meetings s i in
      let most = (busiest_is (left v)).0 s p (proper.exist s i h) in
      omega (arith, those_of s p v.there v.list.meetings long)

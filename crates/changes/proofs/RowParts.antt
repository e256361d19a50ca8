-- The first meetings of a row are those that have a number after its first change, and so are their rounds: what is still to come has
-- no round. Assumes nothing.
use Rattle.std.proofs.Common.{◌≡◌, ℕ, suc, ◌+◌, ◌-◌, ◌≤◌, List, [], ◌∷◌, ◌++◌, length, take, drop, replicate, sym, refl, ap, ◌∙◌, arith}
use Rattle.std.proofs.lemmas.List.{append-nil, append_assoc, drop-replicate, length-append, take-append-le, take_all}
use Rattle.std.proofs.Math.Seq.{drop-append-add}
use Rattle.meetings.specs.declared.numbers.Meeting.{Meeting}
use Rattle.meetings.specs.Lists.{Contents}
use Rattle.fewest.specs.Plans.{none}
use Rattle.changes.specs.declared.change.Change.{Change}
use Rattle.changes.specs.declared.change.Change.TheVariants.{Add, Drop, GetRoom, GiveRoomUp}
use Rattle.changes.specs.Making.{grown}
use Rattle.changes.specs.Numbered.{Numbered, changed, list_after}
use Rattle.changes.specs.Rows.{changed_all}

-- the front of a list with something behind it
front_is : {X : Type 0} (n : ℕ) (xs ys : List X) → length xs ≡ n → take n (xs ++ ys) ≡ xs
front_is n xs ys e = take-append-le n xs ys (omega arith) ∙ take_all n xs (omega arith)

-- what comes is behind the meetings from before
made_more : (v : Numbered) (cs : List Change) → (more : List Meeting) × ((changed_all v cs).list.meetings ≡ v.list.meetings ++ more)
made_more v [] = ([], sym (append-nil v.list.meetings))
made_more v (c ∷ cs) = let rest = made_more (changed v c) cs in let first = more_by v.list c in (first.0 ++ rest.0, rest.1 ∙ ap (λ l. l ++ rest.0) first.1 ∙ append_assoc v.list.meetings first.0 rest.0)
  where
    more_by : (d : Contents) (c : Change) → (more : List Meeting) × ((list_after d c).meetings ≡ d.meetings ++ more)
    more_by d (Add m) = (m ∷ [], refl)
    more_by d (Drop i) = ([], sym (append-nil d.meetings))
    more_by d GiveRoomUp = ([], sym (append-nil d.meetings))
    more_by d GetRoom = ([], sym (append-nil d.meetings))

-- so the first of all are these
pub first_meetings : (v : Numbered) (cs : List Change) (ms : List Meeting) (n : ℕ) → ms ≡ (changed_all v cs).list.meetings → n ≡ length v.list.meetings → take n ms ≡ v.list.meetings
first_meetings v cs ms n all many = let more = made_more v cs in ap (take n) (all ∙ more.1) ∙ front_is n v.list.meetings more.0 (sym many)

pub meetings_below : (v : Numbered) (cs : List Change) → length v.list.meetings ≤ length (changed_all v cs).list.meetings
meetings_below v cs = let more = made_more v cs in omega (arith, ap length more.1, length-append v.list.meetings more.0)

-- the rounds, with none for those that are to come: the first are those with an added meeting
pub first_rounds : (d : Contents) (xs : List ℕ) (c : Change) (ys : List ℕ) (m : ℕ) → length xs ≡ length d.meetings → ys ≡ xs ++ replicate (m - length xs) none → length (list_after d c).meetings ≤ m → take (length (list_after d c).meetings) ys ≡ grown xs c
first_rounds d xs (Add x) ys m each at le =
    let long = length-append d.meetings (x ∷ []) in
    let some : m - length xs ≡ 1 + (m - length xs - 1) = omega (arith, long, each) in
    ap (take (length (d.meetings ++ x ∷ []))) (at ∙ ap (λ k. xs ++ replicate k none) some ∙ ap (λ l. xs ++ l) (one_more (m - length xs - 1)) ∙ sym (append_assoc xs (none ∷ []) (replicate (m - length xs - 1) none)))
    ∙ front_is (length (d.meetings ++ x ∷ [])) (xs ++ none ∷ []) (replicate (m - length xs - 1) none) (omega (arith, length-append xs (none ∷ []), long))
  where
    one_more : (n : ℕ) → replicate (1 + n) none ≡ none ∷ replicate n none
    one_more n = let e : 1 + n ≡ suc n = omega arith in ap (λ k. replicate k none) e
first_rounds d xs (Drop i) ys m each at le = ap (take (length d.meetings)) at ∙ front_is (length d.meetings) xs (replicate (m - length xs) none) each
first_rounds d xs GiveRoomUp ys m each at le = ap (take (length d.meetings)) at ∙ front_is (length d.meetings) xs (replicate (m - length xs) none) each
first_rounds d xs GetRoom ys m each at le = ap (take (length d.meetings)) at ∙ front_is (length d.meetings) xs (replicate (m - length xs) none) each

-- and behind them there is none
pub rest_rounds : (xs ys : List ℕ) (m n : ℕ) → length xs ≤ n → ys ≡ xs ++ replicate (m - length xs) none → drop n ys ≡ replicate (m - n) none
rest_rounds xs ys m n le at = ap (drop n) at ∙ split (omega arith)
  where
    split : n ≡ length xs + (n - length xs) → drop n (xs ++ replicate (m - length xs) none) ≡ replicate (m - n) none
    split e = ap (λ k. drop k (xs ++ replicate (m - length xs) none)) e ∙ drop-append-add xs (replicate (m - length xs) none) (n - length xs) ∙ drop-replicate (n - length xs) (m - length xs) none ∙ ap (λ k. replicate k none) (let same : (m - length xs) - (n - length xs) ≡ m - n = omega arith in same)

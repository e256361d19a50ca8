-- The rule for a change: a plan is made again from the one before. Definitions over the meetings and their rounds alone; assumes
-- nothing.
use Rattle.std.specs.Prelude.{ℕ, zero, suc, ◌+◌, Bool, false, cond, ◌&&◌, List, [], ◌∷◌, ◌++◌, map, length, ◌==◌, nat_lt, slice_index_or, slice_set}
use Rattle.meetings.specs.declared.numbers.Meeting.{Meeting}
use Rattle.fewest.specs.Plans.{none}
use Rattle.chains.specs.Partial.{round_of}
use Rattle.placing.specs.Putting.{Placed, placed, put}
use Rattle.placing.specs.Steps.{Step, put_steps}
use Rattle.balance.specs.Evening.{even_out, even_steps}
use Rattle.changes.specs.declared.change.Change.{Change}
use Rattle.changes.specs.declared.change.Change.TheVariants.{Add, Drop, GetRoom, GiveRoomUp}
use Rattle.changes.specs.Numbered.{Numbered, changed, rounds_for}
use Rattle.changes.specs.Days.{Day, numbered}

-- the rounds with that of an added meeting, which has none yet
abbrev pub grown : List ℕ → Change → List ℕ
grown xs (Add m) = xs ++ none ∷ []
grown xs (Drop i) = xs
grown xs GiveRoomUp = xs
grown xs GetRoom = xs

-- and without that of a dropped one
abbrev pub dropped : List ℕ → Change → List ℕ
dropped xs (Add m) = xs
dropped xs (Drop i) = slice_set xs i.0 none
dropped xs GiveRoomUp = xs
dropped xs GetRoom = xs

-- an added meeting has no round yet, a dropped one has none any more
abbrev pub noted : List ℕ → Change → List ℕ
noted xs c = dropped (grown xs c) c

-- meetings whose round is no more, where there are r, go out
abbrev pub taken_out : ℕ → List ℕ → List ℕ
taken_out r xs = map (λ x. cond (nat_lt x r) x none) xs

-- of so many numbers from i on those that pass, by rising number
abbrev pub passing : (ℕ → Bool) → ℕ → ℕ → List ℕ
passing p zero i = []
passing p (suc more) i = cond (p i) (i ∷ passing p more (suc i)) (passing p more (suc i))

-- the meetings that there are and that have no round
abbrev pub waiting : List Bool → List ℕ → List ℕ
waiting there xs = passing (λ i. slice_index_or there i false && round_of xs i == none) (length xs) 0

-- these are put in, one by one
abbrev pub put_each : ℕ → List Meeting → List ℕ → Placed → Placed
put_each r ms [] p = p
put_each r ms (i ∷ is) p = put_each r ms is (placed (put r ms p.rounds i).rounds (p.looks + (put r ms p.rounds i).looks))

abbrev pub put_each_steps : ℕ → List Meeting → List ℕ → List ℕ → List Step
put_each_steps r ms [] xs = []
put_each_steps r ms (i ∷ is) xs = put_steps r ms xs i ++ put_each_steps r ms is (put r ms xs i).rounds

-- all that wait are put in
abbrev pub put_waiting : ℕ → Numbered → List ℕ → Placed
put_waiting r v xs = put_each r v.list.meetings (waiting v.there xs) (placed xs 0)

-- then the rounds are evened out
abbrev pub made_again : ℕ → Numbered → List ℕ → Placed
made_again r v xs = even_out r v.list.meetings (put_waiting r v xs)

-- the steps of both, where these wait
abbrev pub steps_putting : ℕ → List Meeting → List ℕ → List ℕ → List Step
steps_putting r ms is xs = put_each_steps r ms is xs ++ even_steps r ms (placed (put_each r ms is (placed xs 0)).rounds 0)

abbrev pub again_steps : ℕ → Numbered → List ℕ → List Step
again_steps r v xs = steps_putting r v.list.meetings (waiting v.there xs) xs

-- what a change leaves: the next day, how many looks it took, and what was done
pub record Made : Type 0 where
  pub day : Day
  pub looks : ℕ
  pub steps : List Step

-- what is left for the number of rounds r of the meetings v, when the rounds are xs before any is put in
abbrev pub made : ℕ → Numbered → List ℕ → Made
made r v xs = record {
  day = record { list = v.list; at = (made_again r v xs).rounds };
  looks = (made_again r v xs).looks;
  steps = again_steps r v xs;
}

-- the rounds before any is put in
abbrev pub start_of : Day → Change → List ℕ
start_of d c = taken_out (rounds_for (changed (numbered d) c)) (noted d.at c)

-- ONE CHANGE: the number of rounds is that of the new list; a dropped meeting leaves its round, and so do those whose round is no
-- more; those that wait are put in, by rising number; then the rounds are evened out
unfoldable pub after : Day → Change → Made
after d c = made (rounds_for (changed (numbered d) c)) (changed (numbered d) c) (start_of d c)

-- What putting in and evening out do, step by step: two rounds are exchanged on a part, or a meeting gets a round. Definitions;
-- assumes nothing.
use Rattle.std.specs.Prelude.{◌≡◌, ℕ, ◌%◌, ◌<◌, cond, List, length, [], ◌∷◌, ◌++◌, ◌==◌, ◌≢◌, nat_lt, slice_set}
use Rattle.meetings.specs.declared.numbers.Meeting.{Meeting}
use Rattle.meetings.specs.declared.numbers.Side.{Side}
use Rattle.meetings.specs.declared.numbers.Side.TheVariants.{Groups, Stations}
use Rattle.fewest.specs.Plans.{none}
use Rattle.chains.specs.Chains.{two}
use Rattle.chains.specs.Exchanges.{exchanged}
use Rattle.chains.specs.Partial.{Vacant, party_of, round_of}
use Rattle.chains.specs.Statements.{PartOf}
use Rattle.placing.specs.Putting.{common_free, own_free, chain_for}

-- a and b are exchanged on these meetings, or a meeting is put into round c
pub data Step : Type 0 where
  exchange : ℕ → ℕ → List ℕ → Step
  put_in : ℕ → ℕ → Step

-- what a step makes of the rounds
abbrev pub done : Step → List ℕ → List ℕ
done (exchange a b is) xs = exchanged a b is xs
done (put_in i c) xs = slice_set xs i c

-- the meetings that a step names
abbrev pub named : Step → List ℕ
named (exchange a b is) = is
named (put_in i c) = i ∷ []

abbrev pub all_named : List Step → List ℕ
all_named [] = []
all_named (t ∷ ts) = named t ++ all_named ts

-- what a step may be, where the meetings have the rounds xs: an exchange of two of r rounds on the part of a meeting, or a
-- meeting without a round gets one of the r rounds in which its group and its station are free
abbrev pub Allowed : ℕ → List Meeting → List ℕ → Step → Type 0
Allowed r ms xs (exchange a b is) = (a < r) × (b < r) × (a ≢ b) × (i : ℕ) × PartOf (two ms xs a b) i is
Allowed r ms xs (put_in i c) = (i < length ms) × (c < r) × (round_of xs i ≡ none) × ((s : Side) → Vacant ms xs s (party_of ms s i) c)

-- allowed steps lead from the rounds xs to the rounds ys
abbrev pub Leads : ℕ → List Meeting → List Step → List ℕ → List ℕ → Type 0
Leads r ms [] xs ys = xs ≡ ys
Leads r ms (t ∷ ts) xs ys = Allowed r ms xs t × Leads r ms ts (done t xs) ys

-- the chain on which two rounds are exchanged before meeting i is put in; none where its parties have a common free round
abbrev pub chained : ℕ → List Meeting → List ℕ → ℕ → List ℕ
chained r ms xs i = cond (nat_lt (common_free r ms xs i) r) [] (chain_for ms xs i (own_free r ms xs i Groups) (own_free r ms xs i Stations))

-- the one of two rounds that has one meeting more when they were exchanged on a chain of so many meetings, and one more was put
-- into a
abbrev pub fuller_of : ℕ → ℕ → ℕ → ℕ
fuller_of a b long = cond (long % 2 == 0) a b

-- THE STEPS OF PUTTING IN one meeting
abbrev pub put_steps : ℕ → List Meeting → List ℕ → ℕ → List Step
put_steps r ms xs i =
    cond
    (nat_lt (common_free r ms xs i) r)
    (put_in i (common_free r ms xs i) ∷ [])
    (exchange (own_free r ms xs i Groups) (own_free r ms xs i Stations) (chained r ms xs i)
    ∷ put_in i (own_free r ms xs i Groups)
    ∷ [])

-- The rule for evening out, and for a whole plan. Definitions over the meetings and their rounds alone; assumes nothing.
use Rattle.std.specs.Prelude.{ℕ, zero, suc, ◌+◌, cond, List, [], ◌∷◌}
use Rattle.meetings.specs.declared.numbers.Meeting.{Meeting}
use Rattle.chains.specs.Chains.{Two, two}
use Rattle.chains.specs.Exchanges.{exchanged}
use Rattle.placing.specs.Putting.{Placed, placed, put_all}
use Rattle.placing.specs.Steps.{Step, exchange}
use Rattle.balance.specs.Looking.{Looked, look, looks_of}
use Rattle.balance.specs.Sizes.{size, fullest, emptiest, uneven, far}

-- the fullest and the emptiest of r rounds
abbrev pub extremes : ℕ → List Meeting → List ℕ → Two
extremes r ms xs = two ms xs (fullest r (size xs)) (emptiest r (size xs))

-- two rounds are exchanged on the part that is taken
abbrev pub after_look : ℕ → ℕ → Looked → List ℕ → ℕ → Placed
after_look a b l xs looks = placed (exchanged a b l.taken xs) (looks + looks_of l)

-- ONE EXCHANGE: between the fullest and the emptiest round
abbrev pub one_exchange : ℕ → List Meeting → Placed → Placed
one_exchange r ms p =
    after_look (fullest r (size p.rounds)) (emptiest r (size p.rounds)) (look (extremes r ms p.rounds)) p.rounds p.looks

-- exchanges while the rounds are uneven, so many at most
abbrev pub exchanges : ℕ → List Meeting → ℕ → Placed → Placed
exchanges r ms zero p = p
exchanges r ms (suc left) p = cond (uneven r (size p.rounds)) (exchanges r ms left (one_exchange r ms p)) p

-- how many exchanges these are
abbrev pub number_of_exchanges : ℕ → List Meeting → ℕ → Placed → ℕ
number_of_exchanges r ms zero p = 0
number_of_exchanges r ms (suc left) p = cond (uneven r (size p.rounds)) (suc (number_of_exchanges r ms left (one_exchange r ms p))) 0

-- the steps of so many exchanges at most: each on the part that looking finds in the fullest and the emptiest round
abbrev pub exchange_steps : ℕ → List Meeting → ℕ → Placed → List Step
exchange_steps r ms zero p = []
exchange_steps r ms (suc left) p =
    cond
    (uneven r (size p.rounds))
    (exchange (fullest r (size p.rounds)) (emptiest r (size p.rounds)) (look (extremes r ms p.rounds)).taken
    ∷ exchange_steps r ms left (one_exchange r ms p))
    []

-- EVENING OUT: exchanges while the rounds are uneven; there are no more than the rounds are far from even
abbrev pub even_out : ℕ → List Meeting → Placed → Placed
even_out r ms p = exchanges r ms (far r (size p.rounds)) p

-- the steps of evening out
abbrev pub even_steps : ℕ → List Meeting → Placed → List Step
even_steps r ms p = exchange_steps r ms (far r (size p.rounds)) p

-- A WHOLE PLAN: all meetings are put in, and then the rounds are evened out
unfoldable pub plan_all : ℕ → List Meeting → Placed
plan_all r ms = even_out r ms (put_all r ms)

-- Looking for a part with one more meeting in the fuller of two rounds. Definitions; assumes nothing.
use Rattle.std.specs.Prelude.{ℕ, zero, suc, Bool, cond, not, ◌&&◌, List, [], ◌++◌, length, ◌==◌}
use Rattle.chains.specs.Chains.{Two, in_two, holds, part}
use Rattle.chains.specs.Statements.{in_part}

-- just one more of these meetings is in a than in b
abbrev pub one_more : Two → List ℕ → Bool
one_more t is = in_part t t.a is == suc (in_part t t.b is)

-- the meetings of the parts that were passed over, one part after the other, and the part that was taken
pub record Looked : Type 0 where
  pub passed : List ℕ
  pub taken : List ℕ

abbrev pub looked : List ℕ → List ℕ → Looked
looked is js = record { passed = is; taken = js }

-- LOOKING, from meeting i on at so many, with the parts passed over so far: a meeting that is in neither round, or in a part
-- passed over, is left alone; else its part is looked at, which is taken if it has one more, and passed over if not
abbrev pub look_from : Two → ℕ → ℕ → List ℕ → Looked
look_from t zero i is = looked is []
look_from t (suc left) i is =
    cond
    (in_two t i && not (holds is i))
    (cond (one_more t (part t (holds is) i)) (looked is (part t (holds is) i)) (look_from t left (suc i) (is ++ part t (holds is) i)))
    (look_from t left (suc i) is)

-- the parts of two rounds are looked at in the order of their lowest meeting
abbrev pub look : Two → Looked
look t = look_from t t.many 0 []

-- one look for each meeting of a part looked at
abbrev pub looks_of : Looked → ℕ
looks_of l = length (l.passed ++ l.taken)

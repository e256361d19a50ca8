-- A meeting more or fewer changes the number of its group and of its station by one, and nobody else's: so a tally stays that of
-- the meetings. Assumes nothing.
use Rattle.std.proofs.Common.{◌≡◌, ℕ, ◌+◌, ◌-◌, ◌<◌, ◌≤◌, eqb, List, [], ◌∷◌, ◌++◌, length, get_or, set, sym, refl, ap, ◌∙◌, ⊎_elim, arith}
use Rattle.std.proofs.lemmas.Bool.{cases_eq, eq-eqb, ne_eqb}
use Rattle.std.proofs.lemmas.List.{get_or-set_other, get_or-set_same, length-set}
use Rattle.std.proofs.lemmas.List.FromFn.{fill_by_all}
use Rattle.std.proofs.lemmas.List.Sums.{count_by-le-length, sum_by_push}
use Rattle.meetings.specs.declared.numbers.Meeting.{Meeting}
use Rattle.meetings.specs.declared.numbers.Side.{Side}
use Rattle.meetings.specs.declared.numbers.Side.TheVariants.{Groups, Stations}
use Rattle.meetings.specs.Lists.{Contents, parties, party}
use Rattle.fewest.specs.Counting.{one_if}
use Rattle.fewest.specs.Rounds.{meetings_of, numbers}
use Rattle.fewest.specs.Tallies.{Counts, one_fewer, one_more}
use Rattle.fewest.specs.declared.tally.Tally.{Tally}
use Rattle.fewest.proofs.Numbers.{number_at, numbers_long}

-- e has the meetings of d and m, among the same groups and stations
pub record OneApart (d e : Contents) (m : Meeting) : Type 0 where
  pub groups : e.groups ≡ d.groups
  pub stations : e.stations ≡ d.stations
  pub exist : (s : Side) → party s m < parties s d.groups d.stations
  pub each : (s : Side) (p : ℕ) → meetings_of s p e.meetings ≡ meetings_of s p d.meetings + one_if (eqb (party s m) p)

module _ (d e : Contents) (m : Meeting) (apart : OneApart d e m) (s : Side) where
  same_many : parties s e.groups e.stations ≡ parties s d.groups d.stations
  same_many = ap (λ n. parties s n e.stations) apart.groups ∙ ap (parties s d.groups) apart.stations

  -- one number of some that are as many is another, and then they are those of a list
  one_other : (xs : List ℕ) (x : ℕ) (f : Contents) → length xs ≡ parties s f.groups f.stations → party s m < length xs → x ≡ meetings_of s (party s m) f.meetings → ((p : ℕ) → p < length xs → (p ≡ party s m → ⊥) → get_or xs p 0 ≡ meetings_of s p f.meetings) → set xs (party s m) x ≡ numbers s f
  one_other xs x f long here this others =
      fill_by_all (λ p. meetings_of s p f.meetings) (set xs (party s m) x) (parties s f.groups f.stations) 0 (length-set xs (party s m) x ∙ long)
      (λ p h. ⊎_elim
      (λ same. rw same (get_or-set_same xs (party s m) x 0 here ∙ this))
      (λ other. get_or-set_other xs (party s m) p x 0 other ∙ others p (omega arith) other)
      (cases_eq p (party s m)))

  one_here : one_if (eqb (party s m) (party s m)) ≡ 1
  one_here = ap one_if (eq-eqb _ _ refl)

  none_there : (p : ℕ) → (p ≡ party s m → ⊥) → one_if (eqb (party s m) p) ≡ 0
  none_there p other = ap one_if (ne_eqb _ _ (λ e. other (sym e)))

  pub more_numbers : one_more (numbers s d) (party s m) ≡ numbers s e
  more_numbers =
      one_other (numbers s d) (get_or (numbers s d) (party s m) 0 + 1) e (numbers_long s d ∙ sym same_many) (omega (arith, numbers_long s d, apart.exist s))
      (omega (arith, number_at s d (party s m) (apart.exist s), apart.each s (party s m), one_here))
      (λ p h other. omega (arith, number_at s d p (omega (arith, numbers_long s d)), apart.each s p, none_there p other))

  pub fewer_numbers : one_fewer (numbers s e) (party s m) ≡ numbers s d
  fewer_numbers =
      one_other (numbers s e) (get_or (numbers s e) (party s m) 0 - 1) d (numbers_long s e ∙ same_many) (omega (arith, numbers_long s e, apart.exist s, same_many))
      (omega (arith, number_at s e (party s m) (omega (arith, apart.exist s, same_many)), apart.each s (party s m), one_here))
      (λ p h other. omega (arith, number_at s e p (omega (arith, numbers_long s e)), apart.each s p, none_there p other))

-- so is a tally of which that one entry has changed
module _ (d e : Contents) (t t' : Tally) (m : Meeting) (apart : OneApart d e m) where
  pub counts_more : Counts d t → t'.groups.items ≡ one_more t.groups.items m.group.0 → t'.stations.items ≡ one_more t.stations.items m.station.0 → Counts e t'
  counts_more c groups stations = record {
    of_groups = groups ∙ ap (λ xs. one_more xs m.group.0) c.of_groups ∙ more_numbers d e m apart Groups;
    of_stations = stations ∙ ap (λ xs. one_more xs m.station.0) c.of_stations ∙ more_numbers d e m apart Stations;
  }

  pub counts_fewer : Counts e t → t'.groups.items ≡ one_fewer t.groups.items m.group.0 → t'.stations.items ≡ one_fewer t.stations.items m.station.0 → Counts d t'
  counts_fewer c groups stations = record {
    of_groups = groups ∙ ap (λ xs. one_fewer xs m.group.0) c.of_groups ∙ fewer_numbers d e m apart Groups;
    of_stations = stations ∙ ap (λ xs. one_fewer xs m.station.0) c.of_stations ∙ fewer_numbers d e m apart Stations;
  }

-- a party that exists has an entry, and no more meetings than there are
pub record Entry (d : Contents) (s : Side) (xs : List ℕ) (p : ℕ) : Type 0 where
  pub here : p < length xs
  pub is : get_or xs p 0 ≡ meetings_of s p d.meetings
  pub within : get_or xs p 0 ≤ length d.meetings

pub entry : (d : Contents) (s : Side) (xs : List ℕ) (p : ℕ) → xs ≡ numbers s d → p < parties s d.groups d.stations → Entry d s xs p
entry d s xs p e h =
    let is = ap (λ l. get_or l p 0) e ∙ number_at s d p h in
    record {
      here = omega (arith, ap length e, numbers_long s d);
      is = is;
      within = omega (arith, is, count_by-le-length (λ m. eqb (party s m) p) d.meetings);
    }

-- a meeting that is counted: its parties have some
pub entry_some : (d e : Contents) (m : Meeting) (s : Side) (xs : List ℕ) → OneApart d e m → xs ≡ numbers s e → 1 ≤ get_or xs (party s m) 0
entry_some d e m s xs apart is =
    let here = entry e s xs (party s m) is (omega (arith, apart.exist s, same_many d e m apart s)) in
    omega (arith, here.is, apart.each s (party s m), one_here d e m apart s)

-- a list with a meeting at its end
pub one_pushed : (d : Contents) (m : Meeting) → ((s : Side) → party s m < parties s d.groups d.stations) → OneApart d (record { groups = d.groups; stations = d.stations; rooms = d.rooms; meetings = d.meetings ++ m ∷ [] }) m
one_pushed d m exist = record {
  groups = refl;
  stations = refl;
  exist = exist;
  each = λ s p. sum_by_push (λ n. one_if (eqb (party s n) p)) d.meetings m;
}

-- A shape that was accepted fits the slices: n rows of a width that is no more than their length divided by n. Assumes nothing.
use Rattle.std.proofs.Common.{◌≡◌, ℕ, ◌*◌, ◌/◌, ◌≤◌, ltb, length, sym, ◌∙◌, mul_comm, mul-le-mul_left, div-add-mod', arith}
use Rattle.std.proofs.lemmas.Bool.{cond-false, le-ltb, ltb-false}
use Rattle.meetings.specs.Lists.{Contents}
use Rattle.meetings.specs.Refusals.{accepted}
use Rattle.meetings.proofs.Outcomes.{unless_refused}
use Rattle.chains.specs.declared.shapes.Shape.{Shape}
use Rattle.chains.specs.Shapes.{width, shape_of, lent_shape}

pub rows_fit : (n long : ℕ) → n * width n long ≤ long
rows_fit n long =
    let whole = div-add-mod' long n in
    let most : n * width n long ≤ n * (long / n) = mul-le-mul_left n (omega arith) in
    omega (arith, mul_comm n (long / n))

-- what an accepted shape is, and that all slices are long enough
pub record Fits (d : Contents) (r long_rounds long_groups long_stations : ℕ) (z : Shape) : Type 0 where
  pub is : z ≡ shape_of d long_groups long_stations
  pub rounds : length d.meetings ≤ long_rounds
  pub groups : r ≤ width d.groups long_groups
  pub stations : r ≤ width d.stations long_stations

pub accepted_fits : (d : Contents) (r lr lg ls : ℕ) (z : Shape) → accepted z ≡ lent_shape d r lr lg ls → Fits d r lr lg ls z
accepted_fits d r lr lg ls z e =
    let one = unless_refused (ltb lr (length d.meetings)) 5 0 _ z (sym e) in
    let two = unless_refused (ltb (width d.groups lg) r) 5 1 _ z one.1 in
    let three = unless_refused (ltb (width d.stations ls) r) 5 2 _ z two.1 in
    record {
      is = let same = three.1 in cc;
      rounds = ltb-false _ _ one.0;
      groups = ltb-false _ _ two.0;
      stations = ltb-false _ _ three.0;
    }

-- slices that are long enough are accepted
pub fitting_accepted : (d : Contents) (r lr lg ls : ℕ) → length d.meetings ≤ lr → r ≤ width d.groups lg → r ≤ width d.stations ls → lent_shape d r lr lg ls ≡ accepted (shape_of d lg ls)
fitting_accepted d r lr lg ls rounds groups stations =
    cond-false (ltb lr (length d.meetings)) _ _ (le-ltb _ _ rounds)
    ∙ cond-false (ltb (width d.groups lg) r) _ _ (le-ltb _ _ groups)
    ∙ cond-false (ltb (width d.stations ls) r) _ _ (le-ltb _ _ stations)

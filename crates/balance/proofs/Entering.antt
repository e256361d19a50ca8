-- A proper list and slices that were accepted are all that planning asks for. Assumes nothing.
use Rattle.std.proofs.Common.{◌≡◌, ℕ, ◌-◌, ◌≤◌, List, length, take, ◌∙◌, arith}
use Rattle.std.proofs.lemmas.List.{length-take-le}
use Rattle.meetings.specs.declared.list.MeetingList.{MeetingList}
use Rattle.meetings.specs.declared.numbers.Meeting.{Meeting}
use Rattle.meetings.specs.Held.{contents}
use Rattle.meetings.specs.Refusals.{accepted}
use Rattle.meetings.proofs.Holds.{proper}
use Rattle.fewest.specs.Rounds.{busiest, fewest}
use Rattle.chains.specs.declared.shapes.Shape.{Shape}
use Rattle.chains.specs.Shapes.{lent_shape}
use Rattle.chains.proofs.Fitting.{accepted_fits, rows_fit}
use Rattle.balance.specs.Lent.{LentFor}
use Rattle.placing.proofs.PutAll.{none_busier}

pub enters : (l : MeetingList) (ms : List Meeting) (z : Shape) (r : ℕ) (xs gs ss : List ℕ) → ms ≡ (contents l).meetings → r ≡ fewest (contents l) → accepted z ≡ lent_shape (contents l) r (length xs) (length gs) (length ss) → LentFor ms z r (take (length ms - 0) xs) gs ss
enters l ms z r xs gs ss same is ok =
    let d = contents l in
    let fits = accepted_fits d r (length xs) (length gs) (length ss) z ok in
    let enough : busiest d ≤ r = omega arith in
    rw (same, fits.is) (record {
      sized = record {
        few = omega (arith, (proper l).few);
        each = length-take-le (length d.meetings - 0) xs (omega (arith, fits.rounds)) ∙ omega arith;
        exist = (proper l).exist;
        group_narrow = omega arith;
        station_narrow = omega arith;
        group_room = rows_fit d.groups (length gs);
        station_room = rows_fit d.stations (length ss);
      };
      within = (fits.groups, fits.stations);
      none_busier = none_busier d r (proper l).exist enough;
    })

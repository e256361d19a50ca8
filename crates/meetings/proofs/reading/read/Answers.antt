-- What was read is proper, since the rule accepts nothing else.
use Rattle.std.proofs.Common.{vec_items, sym}
use Rattle.meetings.proofs.Accepted.{parts_read}
use Rattle.meetings.proofs.Outcomes.{accepted_from_ok}
use Rattle.meetings.proofs.reading.read.Goals as goal

pub invariant_of-result : goal.invariant_of-result
invariant_of-result c =
    let proper = (parts_read (λ i. (c.type_inv.bytes i).fits) c.in-len5-up.len_at_least (sym c.in_ok-groups.ensures) (sym c.in_ok-stations.ensures) (sym c.in_ok-rooms.ensures) (sym c.in_ok-many.ensures) (accepted_from_ok vec_items _ c.in_ok-meetings.ensures.answer)).0 in
    record {
      groups_within = proper.groups_within;
      stations_within = proper.stations_within;
      rooms_within = proper.rooms_within;
      few = proper.few;
      exist = proper.exist;
    }

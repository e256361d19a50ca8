-- A register is kept: at first it is that of a whole list, and what a change leaves of it says again what there is. Assumes nothing.
use Rattle.std.proofs.Common.{◌≡◌, ◌+◌, ◌-◌, ◌^◌, ◌<◌, ◌≤◌, true, [], ◌∷◌, length, get_or, sym, ap, ◌∙◌, subst, arith}
use Rattle.std.proofs.lemmas.List.{get_or_default, length-append, length-replicate}
use Rattle.meetings.specs.declared.list.MeetingList.{MeetingList}
use Rattle.meetings.specs.declared.numbers.Meeting.{Meeting}
use Rattle.meetings.specs.declared.numbers.MeetingId.{MeetingId}
use Rattle.meetings.specs.declared.numbers.Side.{Side}
use Rattle.meetings.specs.declared.numbers.Side.TheVariants.{Groups, Stations}
use Rattle.meetings.specs.Held.{contents}
use Rattle.meetings.specs.Lists.{Contents, Proper, most_meetings, nobody, parties, party}
use Rattle.meetings.proofs.Holds.{proper}
use Rattle.fewest.specs.Tallies.{Counts, one_fewer, one_more}
use Rattle.fewest.proofs.OneCounted.{Entry, OneApart, counts_fewer, counts_more, entry, entry_some}
use Rattle.changes.specs.declared.change.Change.TheVariants.{Add, Drop}
use Rattle.changes.specs.declared.register.Register.{Register}
use Rattle.changes.specs.Numbered.{Numbered, can, changed, left, whole}
use Rattle.changes.specs.Registered.{Agrees, ByChange, registered}
use Rattle.changes.proofs.FirstDay.{left_whole}
use Rattle.changes.proofs.Left.{left_proper}
use Rattle.changes.proofs.LeftChanged.{added_apart, can_add, drop_here, dropped_apart, dropped_many, left_added, long_changed}
use Rattle.changes.proofs.ProperAfter.{proper_after}

-- a register that says what is proper
kept_as : (v : Numbered) (o : Register) → registered o ≡ v → Proper v.list → length v.there ≡ length v.list.meetings → Counts (left v) o.tally → o.many ≡ length (left v).meetings → Agrees o
kept_as v o is proper each counts many = record {
  proper = subst (λ (w : Numbered). Proper w.list) (sym is) proper;
  each = subst (λ (w : Numbered). length w.there ≡ length w.list.meetings) (sym is) each;
  tally = subst (λ (w : Numbered). Counts (left w) o.tally) (sym is) counts;
  many = many ∙ ap (λ (w : Numbered). length (left w).meetings) (sym is);
}

-- the register of a whole list
pub kept_whole : (l : MeetingList) (n : Register) → registered n ≡ whole (contents l) → Counts (contents l) n.tally → n.many ≡ length (contents l).meetings → Agrees n
kept_whole l n is counts many =
    kept_as (whole (contents l)) n is (proper l) (length-replicate _ _)
    (subst (λ d. Counts d n.tally) (sym (left_whole (contents l))) counts)
    (many ∙ ap (λ (d : Contents). length d.meetings) (sym (left_whole (contents l))))

module _ (n : Register) (kept : Agrees n) where
  -- the number of meetings that there are is within what the code counts with
  few : length (left (registered n)).meetings ≤ most_meetings
  few = (left_proper (registered n) kept.each kept.proper).few

  module _ (m : Meeting) (may : can (registered n) (Add m) ≡ true) where
    exist : (s : Side) → party s m < parties s n.groups n.stations
    exist = (can_add (registered n) m may).exist

    group_entry : Entry (left (registered n)) Groups n.tally.groups.items m.group.0
    group_entry = entry (left (registered n)) Groups n.tally.groups.items m.group.0 kept.tally.of_groups (exist Groups)

    station_entry : Entry (left (registered n)) Stations n.tally.stations.items m.station.0
    station_entry = entry (left (registered n)) Stations n.tally.stations.items m.station.0 kept.tally.of_stations (exist Stations)

    pub group_counted : m.group.0 < length n.tally.groups.items
    group_counted = group_entry.here

    pub station_counted : m.station.0 < length n.tally.stations.items
    station_counted = station_entry.here

    pub group_fits : get_or n.tally.groups.items m.group.0 0 < 65535
    group_fits = omega (arith, group_entry.within, few)

    pub station_fits : get_or n.tally.stations.items m.station.0 0 < 65535
    station_fits = omega (arith, station_entry.within, few)

    pub many_fits : n.many + 1 < 2 ^ 16
    many_fits = omega (arith, kept.many, few)

    pub added : (o : Register) → registered o ≡ changed (registered n) (Add m) → o.tally.groups.items ≡ one_more n.tally.groups.items m.group.0 → o.tally.stations.items ≡ one_more n.tally.stations.items m.station.0 → o.many ≡ n.many + 1 → ByChange n o (Add m)
    added o is groups stations many =
        let v = registered n in
        let apart = added_apart v kept.each m may in
        record {
          is = is;
          kept = kept_as (changed v (Add m)) o is (proper_after v (Add m) kept.proper may) (long_changed v kept.each (Add m))
              (counts_more (left v) (left (changed v (Add m))) n.tally o.tally m apart kept.tally groups stations)
              (many ∙ ap (λ x. x + 1) kept.many ∙ sym (length-append (left v).meetings (m ∷ [])) ∙ sym (ap length (left_added v kept.each m)));
        }

  -- a meeting that is there, read at its place
  module _ (i : MeetingId) (may : can (registered n) (Drop i) ≡ true) (m : Meeting) (is : m ≡ get_or (registered n).list.meetings i.0 m) where
    apart : OneApart (left (changed (registered n) (Drop i))) (left (registered n)) m
    apart =
        subst (OneApart (left (changed (registered n) (Drop i))) (left (registered n)))
        (get_or_default (registered n).list.meetings i.0 nobody m (drop_here (registered n) kept.each i may) ∙ sym is)
        (dropped_apart (registered n) kept.each i kept.proper.exist may)

    gone_exist : (s : Side) → party s m < parties s n.groups n.stations
    gone_exist = apart.exist

    pub gone_group_counted : m.group.0 < length n.tally.groups.items
    gone_group_counted = (entry (left (registered n)) Groups n.tally.groups.items m.group.0 kept.tally.of_groups (gone_exist Groups)).here

    pub gone_station_counted : m.station.0 < length n.tally.stations.items
    gone_station_counted = (entry (left (registered n)) Stations n.tally.stations.items m.station.0 kept.tally.of_stations (gone_exist Stations)).here

    pub group_some : 1 ≤ get_or n.tally.groups.items m.group.0 0
    group_some = entry_some (left (changed (registered n) (Drop i))) (left (registered n)) m Groups n.tally.groups.items apart kept.tally.of_groups

    pub station_some : 1 ≤ get_or n.tally.stations.items m.station.0 0
    station_some = entry_some (left (changed (registered n) (Drop i))) (left (registered n)) m Stations n.tally.stations.items apart kept.tally.of_stations

    pub dropped : (o : Register) → registered o ≡ changed (registered n) (Drop i) → o.tally.groups.items ≡ one_fewer n.tally.groups.items m.group.0 → o.tally.stations.items ≡ one_fewer n.tally.stations.items m.station.0 → o.many ≡ n.many - 1 → ByChange n o (Drop i)
    dropped o same groups stations many =
        let v = registered n in
        record {
          is = same;
          kept = kept_as (changed v (Drop i)) o same (proper_after v (Drop i) kept.proper may) (long_changed v kept.each (Drop i))
              (counts_fewer (left (changed v (Drop i))) (left v) n.tally o.tally m apart kept.tally groups stations)
              (omega (arith, many, kept.many, dropped_many v kept.each i may));
        }

  pub many_some : (i : MeetingId) → can (registered n) (Drop i) ≡ true → 1 ≤ n.many
  many_some i may = omega (arith, kept.many, dropped_many (registered n) kept.each i may)

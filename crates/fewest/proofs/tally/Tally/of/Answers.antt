-- After the pass the two hold the numbers of their sides.
use Rattle.std.proofs.Common.{rules}
use Rattle.meetings.specs.Held.{contents}
use Rattle.meetings.specs.declared.numbers.Side.TheVariants.{Groups, Stations}
use Rattle.fewest.proofs.Tallying.{tally_held}
use Rattle.fewest.proofs.tally.Tally.of.Goals as goal

pub returns : goal.returns
returns c = record {
  of_groups = search (rules, tally_held Groups (contents c.args.list.now));
  of_stations = search (rules, tally_held Stations (contents c.args.list.now));
}

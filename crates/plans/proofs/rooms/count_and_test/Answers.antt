-- The sizes are those of the rounds.
use Rattle.std.proofs.Common.{length, ◌∙◌}
use Rattle.plans.proofs.Turns.{sizes_tested}
use Rattle.plans.proofs.rooms.count_and_test.Goals as goal

pub returns : goal.returns
returns c =
    c.none_above.ensures ∙ sizes_tested c.args.rooms (length c.args.sizes.now) c.args.of_meetings.now c.count_rounds.new.sizes c.count_rounds.ensures

-- A meeting without a round is dropped from the register, and one with a round stays.
use Rattle.std.proofs.Common.{rules, ap, ◌∙◌}
use Rattle.meetings.specs.Held.{contents}
use Rattle.changes.specs.Numbered.{rounds_for}
use Rattle.changes.specs.Registered.{registered}
use Rattle.plans.proofs.Dropping.{all_dropped, may_drop, none_yet, one_dropped, one_kept}
use Rattle.plans.proofs.kept.rounds_of_kept.Goals as goal
use Rattle.plans.proofs.kept.rounds_of_kept.Goals.{then-is_dropped, else-is_dropped}

pub loop-i-init : goal.loop-i-init
loop-i-init c = (search rules, c.in_ok-register.ensures.is ∙ none_yet (contents c.args.list.now) c.args.of_meetings.now c.requires)

pub drop_meeting-requires-clause-can : goal.drop_meeting-requires-clause-can
drop_meeting-requires-clause-can c =
    may_drop (contents c.args.list.now) c.args.of_meetings.now c.loop-i.i c.loop-i-test.true (registered c.loop-i.register) c.loop-i.invariant.1

pub loop-i-preserved : goal.loop-i-preserved
loop-i-preserved c =
    elim c.if-is_dropped.branch [
      | then-is_dropped w ↦ (search rules, one_dropped (contents c.args.list.now) c.args.of_meetings.now c.loop-i.i c.loop-i-test.true (registered c.loop-i.register) c.loop-i.invariant.1 _ (search rules) (search rules))
      | else-is_dropped w ↦ (search rules, ap registered w.register-is ∙ one_kept (contents c.args.list.now) c.args.of_meetings.now c.loop-i.i c.loop-i-test.true (registered c.loop-i.register) c.loop-i.invariant.1 (search rules))
    ]

pub returns : goal.returns
returns c =
    c.rounds.ensures ∙ ap rounds_for (c.loop-i.invariant.1 ∙ all_dropped (contents c.args.list.now) c.args.of_meetings.now c.loop-i.i (search rules))

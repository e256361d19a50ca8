-- The party of the meeting is marked in the meeting's round.
use Rattle.std.proofs.Common.{◌+◌, ◌*◌, true, get_or, set, ap, ◌∙◌, arith}
use Rattle.std.proofs.lemmas.List.{get_or_default}
use Rattle.fewest.specs.Plans.{none}
use Rattle.chains.specs.Partial.{party_of}
use Rattle.plans.proofs.Marking.{marks_more}
use Rattle.plans.proofs.alone.met_before.Goals as goal

pub returns-clause-marks : goal.returns-clause-marks
returns-clause-marks c =
    let ms = c.args.meetings.now in
    let xs = c.args.of_meetings.now in
    let bs = c.args.marks.now in
    marks_more ms xs c.args.side c.args.at c.args.rounds bs c.requires.marks c.see.new.marks c.requires.here c.requires.below
    (c.see.ensures.now
    ∙ ap (λ p. set bs (p * c.args.rounds + get_or xs c.args.at 0) true) c.party.ensures
    ∙ ap (λ x. set bs (party_of ms c.args.side c.args.at * c.args.rounds + x) true) (get_or_default xs c.args.at 0 none (omega (arith, c.requires.here, c.requires.each))))

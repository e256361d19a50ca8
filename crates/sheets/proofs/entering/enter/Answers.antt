-- A meeting with a round adds one entry.
use Rattle.std.proofs.Common.{Some, ◌≢◌, ◌+◌, ◌*◌, eqb, get_or, set, ap, ◌∙◌, rules, arith}
use Rattle.std.proofs.lemmas.Bool.{both_ways, eq-eqb}
use Rattle.std.proofs.lemmas.List.{get_or_default}
use Rattle.meetings.specs.Lists.{nobody, party}
use Rattle.fewest.specs.Plans.{none}
use Rattle.chains.specs.Partial.{party_of, round_of}
use Rattle.sheets.proofs.EnteredTurns.{entered_more}
use Rattle.sheets.proofs.entering.enter.Goals as goal

pub returns-then-not-is_dropped-clause-entered : goal.returns-then-not-is_dropped-clause-entered
returns-then-not-is_dropped-clause-entered c =
    let ms = c.args.meetings.now in
    let xs = c.args.of_meetings.now in
    let es = c.args.rows.now in
    let s = c.args.side in
    let read = get_or_default xs c.args.at 0 none (omega (arith, c.requires.here, c.requires.each)) in
    let has : round_of xs c.args.at ≢ none = λ out. both_ways (eqb (get_or xs c.args.at 0) none) (search rules) (eq-eqb _ _ (read ∙ out)) in
    entered_more ms xs s c.args.at c.args.rounds es c.requires.entered c.write_entry.new.rows c.requires.here (c.requires.below has)
    (c.write_entry.ensures
    ∙ ap (λ p. set es (p * c.args.rounds + get_or xs c.args.at 0) (Some c.party-then-not-is_dropped.result)) c.party.ensures
    ∙ ap (λ x. set es (party_of ms s c.args.at * c.args.rounds + x) (Some c.party-then-not-is_dropped.result)) read
    ∙ ap (λ v. set es (party_of ms s c.args.at * c.args.rounds + get_or xs c.args.at none) (Some v)) (c.party-then-not-is_dropped.ensures ∙ ap (λ t. party t (get_or ms c.args.at nobody)) c.other.ensures))

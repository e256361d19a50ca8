-- What is found first is the lowest.
use Rattle.std.proofs.Common.{rules, ℕ, Bool, ◌&&◌, eqb, get_or}
use Rattle.fewest.specs.Plans.{none}
use Rattle.chains.specs.Lowest.{lowest}
use Rattle.chains.specs.Partial.{Unless}
use Rattle.placing.proofs.Found.{found_lowest}
use Rattle.placing.proofs.free.lowest_common_free.Goals as goal

pub returns : goal.returns
returns c =
    let both : ℕ × ℕ → Bool = λ e. eqb e.0 none && eqb e.1 none in
    let low : Unless c.args.rounds (λ x. x) c.first_common_free.result (lowest (λ x. both (get_or c.args.one.now x 0, get_or c.args.other.now x 0)) c.args.rounds) = rw c.first_common_free.ensures (found_lowest both c.args.one.now c.args.other.now c.args.rounds c.requires.one c.requires.other) in
    search rules

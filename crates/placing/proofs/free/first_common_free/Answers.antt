-- The rows are cut first, and not their pairs.
use Rattle.std.proofs.Common.{◌&&◌, ◌==◌, position, take, ap, ◌∙◌}
use Rattle.std.specs.List.{zip}
use Rattle.fewest.specs.Plans.{none}
use Rattle.placing.proofs.Found.{cut_alike}
use Rattle.placing.proofs.free.first_common_free.Goals as goal

pub returns : goal.returns
returns c =
    let one = c.args.one.now in
    let other = c.args.other.now in
    c.first_free_pair.ensures
    ∙ ap (position (λ e. (e.0 == none) && (e.1 == none))) (ap (λ n. zip (take n one) (take n other)) c.from-many.ensures ∙ cut_alike c.args.rounds one other)

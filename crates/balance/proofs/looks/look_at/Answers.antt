-- What is looked at is the part, which is behind all that was found before.
use Rattle.std.proofs.Common.{length, drop, sym, ap, ◌∙◌}
use Rattle.std.proofs.lemmas.List.{drop_at}
use Rattle.chains.specs.Boards.{two_on}
use Rattle.chains.specs.Chains.{holds}
use Rattle.chains.specs.Finding.{found_in}
use Rattle.chains.proofs.Members.{front_held}
use Rattle.chains.proofs.Runs.{part_below}
use Rattle.balance.proofs.looks.look_at.Goals as goal

pub has_one_more-requires-clause-exist : goal.has_one_more-requires-clause-exist
has_one_more-requires-clause-exist c i h =
    let t = two_on c.args.board.now c.args.rounds in
    let start = length c.list-start.result.now in
    let rest = ap (drop start) (c.list.ensures ∙ c.find_part.ensures.list) ∙ drop_at (found_in c.args.found.now) _ start (sym (ap length c.list-start.ensures)) in
    part_below t (holds (found_in c.args.found.now)) c.args.meeting.0 c.requires.in_two.here i (sym (ap (λ l. holds l i) rest) ∙ front_held _ (drop start c.list.result.now) i h)

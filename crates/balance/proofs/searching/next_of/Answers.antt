-- The first of the rounds from there on is the next.
use Rattle.std.proofs.Common.{rules, ℕ, ◌≢◌, ◌+◌, ◌<◌, ◌≤◌, MatchOption, length, slice_index}
use Rattle.balance.specs.Searching.{IsNext}
use Rattle.balance.proofs.SearchedOn.{next_found}
use Rattle.balance.proofs.searching.next_of.Goals as goal

pub returns : goal.returns
returns c =
    let ns = c.args.sizes.now in
    let from = c.args.round.0 in
    let first : MatchOption c.first_of.result ((i : ℕ) → from ≤ i → i < length ns → slice_index ns i ≢ c.args.size) (λ k. IsNext ns c.args.size from (record { 0 = from + k })) = next_found ns c.args.size from c.requires.within c.first_of.result c.first_of.ensures in
    search rules

use Rattle.std.proofs.Common.{rules, ℕ, length, slice_index}
use Rattle.chains.specs.Partial.{Unless}
use Rattle.balance.specs.Sizes.{emptiest}
use Rattle.balance.proofs.ExtremesFound.{least_first}
use Rattle.balance.proofs.sizes.emptiest.Goals as goal

pub returns : goal.returns
returns c =
    let first : Unless (length c.args.sizes.now) (λ (n : ℕ). n) c.first_of.result (emptiest (length c.args.sizes.now) (slice_index c.args.sizes.now)) = rw c.first_of.ensures (least_first c.args.sizes.now c.least_of.result c.least_of.ensures.least) in
    search rules

use Rattle.std.proofs.Common.{rules, ℕ, length, slice_index}
use Rattle.chains.specs.Partial.{Unless}
use Rattle.balance.specs.Sizes.{fullest}
use Rattle.balance.proofs.ExtremesFound.{largest_first}
use Rattle.balance.proofs.sizes.fullest.Goals as goal

pub returns : goal.returns
returns c =
    let first : Unless (length c.args.sizes.now) (λ (n : ℕ). n) c.first_of.result (fullest (length c.args.sizes.now) (slice_index c.args.sizes.now)) = rw (c.first_of.ensures, c.largest_of.ensures) (largest_first c.args.sizes.now) in
    search rules

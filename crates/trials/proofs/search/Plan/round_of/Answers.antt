use Rattle.std.proofs.Common.{◌≤◌, ◌^◌, arith}
use Rattle.std.proofs.Math.Nat.{one-le-pow}
use Rattle.trials.proofs.search.Plan.round_of.Goals as goal

-- a power of a number of 1 at least
pub nonzero_div-result : goal.nonzero_div-result
nonzero_div-result c =
    let p : 1 ≤ c.max-base.result ^ c.unwrap_or-place.result = one-le-pow _ _ (omega arith) in omega arith

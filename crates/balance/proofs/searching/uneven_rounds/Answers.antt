-- Where there is a fullest round there is an emptiest, and both are rounds.
use Rattle.std.proofs.Common.{length, slice_index}
use Rattle.balance.proofs.ExtremesFound.{fullest_there, emptiest_there, emptiest_not_none}
use Rattle.balance.proofs.searching.uneven_rounds.Goals as goal

pub returns-in_err-b-clause-rounds : goal.returns-in_err-b-clause-rounds
returns-in_err-b-clause-rounds c = absurd (emptiest_not_none (length c.args.sizes.now) (slice_index c.args.sizes.now) c.in_ok-a.a.0 c.in_ok-a.ensures c.in_err-b.ensures)

pub bounds-sizes-a : goal.bounds-sizes-a
bounds-sizes-a c = fullest_there (length c.args.sizes.now) (slice_index c.args.sizes.now) c.in_ok-a.a.0 c.in_ok-a.ensures

pub bounds-sizes-b : goal.bounds-sizes-b
bounds-sizes-b c = emptiest_there (length c.args.sizes.now) (slice_index c.args.sizes.now) c.in_ok-a.a.0 c.in_ok-a.ensures c.in_ok-b.b.0 c.in_ok-b.ensures.0

-- The next round of a size that no other beats is the fullest.
use Rattle.std.proofs.Common.{rules, sym, arith}
use Rattle.balance.proofs.SearchedOn.{next_fullest}
use Rattle.balance.proofs.searching.fullest_from.Goals as goal

pub returns-in-Some : goal.returns-in-Some
returns-in-Some c =
    let next = c.in-Some.ensures in
    let is = next_fullest c.args.sizes.now c.args.reached c.in-Some.round _ _ c.requires.searched (search rules) (search rules) next in
    (sym is, λ none. omega (arith, is, next.below))

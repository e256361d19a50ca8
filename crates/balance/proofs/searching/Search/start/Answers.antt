use Rattle.std.proofs.Common.{rules}
use Rattle.balance.proofs.SearchedOn.{search_starts}
use Rattle.balance.proofs.searching.Search.start.Goals as goal

pub returns : goal.returns
returns c = search (rules, search_starts)

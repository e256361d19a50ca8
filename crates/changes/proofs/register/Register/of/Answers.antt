-- It is the register of a whole list.
use Rattle.std.proofs.Common.{rules}
use Rattle.changes.proofs.Keeping.{kept_whole}
use Rattle.changes.proofs.register.Register.of.Goals as goal

pub returns-clause-kept : goal.returns-clause-kept
returns-clause-kept c = kept_whole c.args.list.now _ (search rules) (search rules) (search rules)

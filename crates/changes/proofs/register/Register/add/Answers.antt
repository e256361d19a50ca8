-- The tally is that of the meetings and one more.
use Rattle.std.proofs.Common.{refl, rules}
use Rattle.changes.proofs.Keeping.{added}
use Rattle.changes.proofs.register.Register.add.Goals as goal

pub returns : goal.returns
returns c =
    added c.args.self.now c.requires.kept c.args.meeting c.requires.can _ (search rules) (search rules) (search rules) refl

-- The tally is that of the meetings that are left.
use Rattle.std.proofs.Common.{refl, rules}
use Rattle.changes.proofs.Keeping.{dropped}
use Rattle.changes.proofs.register.Register.drop_meeting.Goals as goal

pub returns : goal.returns
returns c =
    dropped c.args.self.now c.requires.kept c.args.id c.requires.can c.index-meeting.result.now c.index-meeting.ensures _ (search rules) (search rules) (search rules) refl

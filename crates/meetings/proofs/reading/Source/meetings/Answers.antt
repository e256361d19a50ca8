-- The rule refuses the whole for the meeting that is refused.
use Rattle.std.proofs.Common.{rules}
use Rattle.meetings.proofs.Turns.{refused_one}
use Rattle.meetings.proofs.reading.Source.meetings.Goals as goal

pub returns-in_err-meeting : goal.returns-in_err-meeting
returns-in_err-meeting c = search (rules, refused_one)

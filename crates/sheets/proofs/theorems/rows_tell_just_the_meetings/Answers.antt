-- The theorem is cited.
use Rattle.sheets.proofs.Meeting.{rows_tell_meetings}
use Rattle.sheets.proofs.theorems.rows_tell_just_the_meetings.Goals as goal

pub returns : goal.returns
returns c = rows_tell_meetings

-- What is told is what the rule says: slices that are long enough for 120 parties and 4,000 rounds are refused for no list and no
-- row. And the plan that is written is accepted. Assumes nothing.
use Rattle.std.proofs.Common.{◌≡◌, ℕ, ◌*◌, ◌≤◌, List, [], Vec, Global, Ok, Err, Result, IfOk, vec_items, sym, ap, ◌∙◌, mul-le-mul_right, arith}
use Rattle.meetings.specs.declared.list.MeetingList.{MeetingList}
use Rattle.meetings.specs.declared.refusal.Refusal.{Refusal}
use Rattle.meetings.specs.Bytes.{bytes_of, read_list}
use Rattle.meetings.specs.Held.{contents}
use Rattle.meetings.specs.Lists.{most, most_meetings}
use Rattle.meetings.specs.Refusals.{Answers, IfMemory, accepted, then}
use Rattle.meetings.specs.RoundTrips.{AllBytes}
use Rattle.meetings.proofs.Accepted.{read_then_written}
use Rattle.meetings.proofs.Holds.{proper}
use Rattle.meetings.proofs.Outcomes.{accepted_from_ok, accepted_same}
use Rattle.meetings.proofs.Written.{written_then_read}
use Rattle.changes.specs.declared.change.Change.{Change}
use Rattle.changes.specs.declared.changed.Changed.{Changed}
use Rattle.changes.specs.Days.{first_day}
use Rattle.changes.specs.Numbered.{whole}
use Rattle.changes.specs.Rows.{CanAll}
use Rattle.changes.specs.Told.{OfRow, answer_of, told}
use Rattle.changes.proofs.LentEnough.{lent_enough}
use Rattle.changes.proofs.RowAccepted.{tested_as_made}
use Rattle.changes.proofs.RowAccepted as row
use Rattle.plans.specs.Bytes.{bytes_of_plan}
use Rattle.plans.specs.Checking.{checked_bytes, fine}
use Rattle.plans.proofs.OnlyMemory.{only_memory}
use Rattle.plans.proofs.MadeWritten.{standing_written}
use Rattle.day.specs.declared.making.Made.{Made}
use Rattle.day.specs.Reports.{AcceptedFor, last_of, plan_last}
use Rattle.day.proofs.Last.{stands_last}

module _ (l : MeetingList) (cs : List Change) (can : CanAll (whole (contents l)) cs) (lr lg ls : ℕ) (er : most_meetings ≤ lr) (eg : most * most_meetings ≤ lg) (es : most * most_meetings ≤ ls) where
  wide : (n long : ℕ) → n ≤ most → most * most_meetings ≤ long → n * most_meetings ≤ long
  wide n long few enough = omega (arith, mul-le-mul_right most_meetings few)

  answered : answer_of (contents l) cs lr lg ls ≡ accepted (told (first_day (contents l)) cs)
  answered =
      lent_enough (contents l) cs lr lg ls (proper l) er (wide (contents l).groups lg (proper l).groups_within.1 eg) (wide (contents l).stations ls (proper l).stations_within.1 es)
      ∙ ap (λ o. then o (λ t. accepted (told (first_day (contents l)) cs))) (tested_as_made (whole (contents l)) cs 0 [] can)

  pub told_exactly : (o : Result (Vec Changed Global) Refusal) → Answers vec_items o (answer_of (contents l) cs lr lg ls) → IfMemory o (λ ts. vec_items ts ≡ told (first_day (contents l)) cs)
  told_exactly (Ok ts) answer = accepted_same _ _ (sym (accepted_from_ok vec_items ts answer) ∙ answered)
  told_exactly (Err e) answer = only_memory vec_items e _ _ answered answer

-- the plan of a row is accepted
pub made_accepted : (day changes : List ℕ) → AllBytes day → AllBytes changes → (o : Result Made Refusal) → IfOk o (λ m. OfRow day changes (λ d cs. vec_items m.plan ≡ bytes_of_plan (plan_last d cs))) → IfOk o (λ m. OfRow day changes (λ d cs. AcceptedFor (last_of d cs).list (vec_items m.plan)))
made_accepted day changes byte byte' (Ok m) written =
    λ d cs is_list is_row bytes says. ap (checked_bytes bytes) (written d cs is_list is_row)
    ∙ standing_written bytes (last_of d cs) (stands_last d cs (read_then_written day d byte is_list).0 (row.read_then_written (whole d) changes cs byte' is_row).0) says
made_accepted day changes byte byte' (Err e) written = tt

-- and it is so for the list that is made beside it
pub list_accepted : (day changes : List ℕ) → AllBytes day → AllBytes changes → (o : Result Made Refusal) → IfOk o (λ m. OfRow day changes (λ d cs. vec_items m.plan ≡ bytes_of_plan (plan_last d cs))) → IfOk o (λ m. OfRow day changes (λ d cs. vec_items m.list ≡ bytes_of (last_of d cs).list)) → IfOk o (λ m. OfRow day changes (λ d cs. checked_bytes (vec_items m.list) (vec_items m.plan) ≡ fine))
list_accepted day changes byte byte' (Ok m) plan list =
    λ d cs is_list is_row.
    let stands = stands_last d cs (read_then_written day d byte is_list).0 (row.read_then_written (whole d) changes cs byte' is_row).0 in
    made_accepted day changes byte byte' (Ok m) plan d cs is_list is_row (vec_items m.list)
    (ap read_list (list d cs is_list is_row) ∙ written_then_read (last_of d cs).list stands.proper)
list_accepted day changes byte byte' (Err e) plan list = tt

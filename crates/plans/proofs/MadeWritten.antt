-- The bytes of a plan made here are accepted, for all bytes that say its list. Assumes nothing.
use Rattle.std.proofs.Common.{◌≡◌, List, ℕ, length, ap, subst, ◌∙◌}
use Rattle.meetings.specs.Bytes.{read_list}
use Rattle.meetings.specs.Lists.{Contents, Proper}
use Rattle.meetings.specs.Refusals.{accepted, then}
use Rattle.fewest.specs.Rounds.{fewest}
use Rattle.balance.specs.Lent.{plan_of}
use Rattle.changes.specs.Days.{Day, Stands, first_day, rounds_of}
use Rattle.changes.proofs.FirstDay.{first_rounds, first_stands}
use Rattle.plans.specs.Bytes.{bytes_of_plan, read_plan}
use Rattle.plans.specs.Checking.{checked, checked_bytes, fine}
use Rattle.plans.proofs.BytesRead.{written_then_read}
use Rattle.plans.proofs.Made.{accepts_standing}

-- the plan of a day that stands
pub standing_written : (day : List ℕ) (e : Day) → Stands e → read_list day ≡ accepted e.list → checked_bytes day (bytes_of_plan (record { rounds = rounds_of e; at = e.at })) ≡ fine
standing_written day e stands is =
    let plan = bytes_of_plan (record { rounds = rounds_of e; at = e.at }) in
    let read : read_plan (length e.list.meetings) plan ≡ accepted (record { rounds = rounds_of e; at = e.at }) =
    subst (λ many. read_plan many plan ≡ accepted (record { rounds = rounds_of e; at = e.at })) stands.partial.each (written_then_read (record { rounds = rounds_of e; at = e.at })) in
    ap (λ o. then o (λ d. then (read_plan (length d.meetings) plan) (λ p. checked d p.rounds p.at))) is
    ∙ ap (λ o. then o (λ p. checked e.list p.rounds p.at)) read
    ∙ accepts_standing e stands

-- and that of a list
pub planned_written : (day : List ℕ) (d : Contents) → Proper d → read_list day ≡ accepted d → checked_bytes day (bytes_of_plan (record { rounds = fewest d; at = (plan_of d).rounds })) ≡ fine
planned_written day d proper is =
    subst (λ r. checked_bytes day (bytes_of_plan (record { rounds = r; at = (plan_of d).rounds })) ≡ fine) (first_rounds d proper) (standing_written day (first_day d) (first_stands d proper) is)

-- The bytes are those of the list that the row comes to.
use Rattle.std.proofs.Common.{◌≡◌, ◌/◌, ◌%◌, [], ◌∷◌, ◌++◌, drop, ap, ◌∙◌, rules}
use Rattle.meetings.specs.Bytes.{bytes_of}
use Rattle.meetings.specs.Held.{contents}
use Rattle.meetings.proofs.Holds.{proper}
use Rattle.day.specs.Lists.{all_added}
use Rattle.day.proofs.Listed.{added_in_bytes, list_said}
use Rattle.day.proofs.listing.list_told.Goals as goal

pub add_added-requires : goal.add_added-requires
add_added-requires c = added_in_bytes (contents c.args.list.now) c.args.changes.now (proper c.args.list.now) c.requires

pub returns : goal.returns
returns c =
    let d = contents c.args.list.now in
    let head : c.extend_from_slice.new.self.items ≡ d.groups ∷ d.stations ∷ c.rooms_left.result ∷ c.numbers.result % 256 ∷ c.numbers.result / 256 ∷ [] = search rules in
    let before : c.deref.result.now ≡ bytes_of d = search rules in
    list_said d c.args.changes.now (proper c.args.list.now) c.requires c.numbers.result c.rooms_left.result _ c.numbers.ensures.all c.rooms_left.ensures
    (c.in_ok-add_added.ensures
    ∙ ap (λ l. l ++ all_added c.args.changes.now)
    (c.in_ok-add_meetings.ensures
    ∙ ap (λ l. l ++ drop 5 c.deref.result.now) head
    ∙ ap (λ l. (d.groups ∷ d.stations ∷ c.rooms_left.result ∷ c.numbers.result % 256 ∷ c.numbers.result / 256 ∷ []) ++ drop 5 l) before))

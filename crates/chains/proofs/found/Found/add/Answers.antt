-- There is room for one more, and its mark is set.
use Rattle.std.proofs.Common.{true, set, ap, ◌∙◌, arith}
use Rattle.std.proofs.lemmas.List.{with_items_is}
use Rattle.chains.proofs.Marks.{room_left, marked_more}
use Rattle.chains.proofs.found.Found.add.Goals as goal

pub push_reserved-requires : goal.push_reserved-requires
push_reserved-requires c =
    let v = c.args.self.now in
    omega (arith, room_left _ _ _ c.args.meeting.0 v.marked c.requires.within c.requires.new, v.list.ok.0)

pub invariant_of-self : goal.invariant_of-self
invariant_of-self c =
    let v = c.args.self.now in
    let marks = with_items_is v.marks c.mark.new.marks (c.mark.auto.marks ∙ c.deref_mut.ensures.len) ∙ c.mark.ensures ∙ ap (λ l. set l c.args.meeting.0 true) c.deref_mut.ensures.value in
    record { marked = rw (marks, c.push_reserved.ensures.items, c.push_reserved.ensures.capacity) (marked_more _ _ _ c.args.meeting.0 v.marked c.requires.within c.requires.new) }

-- The marks are cleared, and the list is empty.
use Rattle.std.proofs.Common.{false, length, replicate, ap, ◌∙◌, arith}
use Rattle.std.proofs.lemmas.List.{with_items_is}
use Rattle.chains.proofs.Marks.{marked_none}
use Rattle.chains.proofs.found.Found.clear.Goals as goal

pub invariant_of-self : goal.invariant_of-self
invariant_of-self c =
    let v = c.args.self.now in
    let marks = with_items_is v.marks c.clear_marks.new.marks (c.clear_marks.auto.marks ∙ c.deref_mut.ensures.len) ∙ c.clear_marks.ensures ∙ ap (λ l. replicate (length l) false) c.deref_mut.ensures.value in
    record { marked = marked_none _ _ _ _ marks c.clear.ensures.items (omega (arith, v.marked.room, c.clear.ensures.capacity)) }

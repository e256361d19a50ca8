-- The change is noted, whoever is in a round that is no more goes, the plan is made again, and who was moved is counted.
use Rattle.std.proofs.Common.{◌≡◌, ℕ, ◌≤◌, length, count_by, refl, sym, ap, ◌∙◌, subst, arith}
use Rattle.std.specs.Vec.{with_items}
use Rattle.std.proofs.lemmas.List.{with_items_is}
use Rattle.chains.specs.Boards.{meetings_on, rounds_on}
use Rattle.chains.specs.Finding.{found_in}
use Rattle.chains.specs.Partial.{Partial, round_of}
use Rattle.placing.proofs.AllTurns.{still_unused}
use Rattle.balance.specs.Sizes.{sizes_of}
use Rattle.changes.specs.Days.{moved}
use Rattle.changes.specs.OnBoard.{AreOut, CanPut, CopiedFor}
use Rattle.changes.proofs.CanMake.{can_note, can_put, newcomer_out, plan_now}
use Rattle.changes.proofs.OneMade.{made_told, noted_for_next, rest_is, room_also, touched_each, touched_here}
use Rattle.changes.proofs.making.make.Goals as goal

pub note-requires-clause-can : goal.note-requires-clause-can
note-requires-clause-can c =
    let b = c.requires.before in
    can_note b.0 c.args.turn.change c.args.board.now c.args.turn.from c.args.turn.to b.1 _ (omega (arith, c.requires.from, c.deref_mut.ensures.len))

pub take_out_rest-requires-clause-plan : goal.take_out_rest-requires-clause-plan
take_out_rest-requires-clause-plan c =
    let b = c.requires.before in
    let noted = c.note.ensures.noted in
    subst (λ ms. Partial c.args.turn.from ms (rounds_on c.note.new.board)) (sym noted.board.meetings) (subst (Partial c.args.turn.from (meetings_on c.args.board.now)) (sym noted.board.rounds) (plan_now b.0 c.args.turn.change c.args.board.now c.args.turn.from c.args.turn.to b.1))

pub take_out_rest-requires-clause-out : goal.take_out_rest-requires-clause-out
take_out_rest-requires-clause-out c =
    let b = c.requires.before in
    let noted = c.note.ensures.noted in
    subst (AreOut c.note.new.board) (sym noted.waiting) (newcomer_out b.0 c.args.turn.change c.args.board.now c.args.turn.from c.args.turn.to b.1 c.note.new.board noted.board)

pub make_again-looks-requires-clause-can : goal.make_again-looks-requires-clause-can
make_again-looks-requires-clause-can c =
    let b = c.requires.before in
    subst (CanPut c.take_out_rest.new.board c.args.turn.to) (sym c.deref.ensures.value) (can_put b.0 c.args.turn.change c.args.board.now c.args.turn.from c.args.turn.to b.1 c.note.new.board c.note.ensures.noted.board c.take_out_rest.new.board _ _ _ (rest_is _ _ _ _ _ _ _ _ _ _ c.note.ensures.noted.waiting refl c.take_out_rest.ensures.taken))

pub moved_on-requires-clause-here : goal.moved_on-requires-clause-here
moved_on-requires-clause-here c =
    let b = c.requires.before in
    touched_here b.0 c.args.turn.change c.args.board.now c.note.new.board c.take_out_rest.new.board c.make_again-looks.new.board c.args.turn.from c.args.turn.to b.1 _ _ _ _ _ _ _ _ c.note.ensures.noted (rest_is _ _ _ _ _ _ _ _ _ _ refl c.deref.ensures.value c.take_out_rest.ensures.taken) _ _ _ c.make_again-looks.ensures.rule c.make_again-looks.ensures.touched c.requires.beside.room.touched.empty

pub moved_on-requires-clause-once : goal.moved_on-requires-clause-once
moved_on-requires-clause-once c =
    let b = c.requires.before in
    touched_each b.0 c.args.turn.change c.args.board.now c.note.new.board c.take_out_rest.new.board c.make_again-looks.new.board c.args.turn.from c.args.turn.to b.1 _ _ _ _ _ _ _ _ c.note.ensures.noted (rest_is _ _ _ _ _ _ _ _ _ _ refl c.deref.ensures.value c.take_out_rest.ensures.taken) _ _ _ c.make_again-looks.ensures.rule c.make_again-looks.ensures.touched c.requires.beside.room.touched.empty

pub returns-clause-made : goal.returns-clause-made
returns-clause-made c = λ d b.
    let before : (i : ℕ) → round_of c.deref_mut-2.result.now i ≡ round_of (rounds_on c.args.board.now) i = λ i. ap (λ l. round_of l i) c.deref_mut-2.ensures.value ∙ c.requires.beside.before i in
    let long : length (meetings_on c.args.board.now) ≤ length c.deref_mut-2.result.now = omega (arith, c.requires.long, c.deref_mut-2.ensures.len, c.args.kept.now.before.ok.0) in
    let noted : c.deref_mut-5.result.now ≡ c.note.new.before = c.deref_mut-5.ensures.value ∙ with_items_is c.args.kept.now.before c.note.new.before (c.note.auto.before ∙ c.deref_mut-2.ensures.len) in
    made_told d c.args.turn.change c.args.board.now c.note.new.board c.take_out_rest.new.board c.make_again-looks.new.board c.args.turn.from c.args.turn.to b _ _ _ _ _ _ _ _ c.note.ensures.noted (rest_is _ _ _ _ _ _ _ _ _ _ refl c.deref.ensures.value c.take_out_rest.ensures.taken) _ _ _ c.make_again-looks.ensures.rule c.make_again-looks.ensures.touched c.requires.beside.room.touched.empty before long _ (c.moved_on.ensures.moved ∙ ap (λ bs. count_by (λ i. moved (round_of bs i) (round_of (rounds_on c.make_again-looks.new.board) i)) (found_in c.make_again-looks.new.touched)) noted)

pub returns-clause-beside : goal.returns-clause-beside
returns-clause-beside c =
    let b = c.requires.before in
    let k = c.args.kept.now in
    let before : (i : ℕ) → round_of c.deref_mut-2.result.now i ≡ round_of (rounds_on c.args.board.now) i = λ i. ap (λ l. round_of l i) c.deref_mut-2.ensures.value ∙ c.requires.beside.before i in
    let long : length (meetings_on c.args.board.now) ≤ length c.deref_mut-2.result.now = omega (arith, c.requires.long, c.deref_mut-2.ensures.len, k.before.ok.0) in
    let noted : c.deref_mut-5.result.now ≡ c.note.new.before = c.deref_mut-5.ensures.value ∙ with_items_is k.before c.note.new.before (c.note.auto.before ∙ c.deref_mut-2.ensures.len) in
    let sizes = with_items_is (with_items (with_items k.sizes c.note.new.sizes) c.take_out_rest.new.sizes) c.make_again-looks.new.sizes (c.make_again-looks.auto.sizes ∙ c.deref_mut-4.ensures.len) in
    let rounds = with_items_is (with_items k.before c.note.new.before) c.moved_on.new.before (c.moved_on.auto.before ∙ c.deref_mut-5.ensures.len) in
    record {
      room = record {
        rounds = ap length sizes ∙ c.make_again-looks.auto.sizes ∙ c.deref_mut-4.ensures.len ∙ k.sizes.ok.0;
        meetings = ap length rounds ∙ c.moved_on.auto.before ∙ c.deref_mut-5.ensures.len ∙ k.before.ok.0;
        waiting = omega (arith, c.requires.beside.room.waiting, c.note.ensures.room, c.take_out_rest.ensures.room);
        ordered = room_also _ _ _ _ (c.make_again-looks.ensures.rule.board.shape ∙ c.take_out_rest.ensures.taken.board.shape ∙ c.note.ensures.noted.board.shape) c.make_again-looks.ensures.room c.requires.beside.room.ordered;
        found = still_unused _ _ _ c.requires.beside.room.found c.make_again-looks.ensures.forgotten;
        touched = record { empty = c.moved_on.ensures.forgotten.list; enough = omega (arith, c.moved_on.ensures.forgotten.among, c.make_again-looks.ensures.touched.among, c.requires.beside.room.touched.enough) };
      };
      sizes = sizes ∙ c.make_again-looks.ensures.counted ∙ ap (λ n. sizes_of n (rounds_on c.make_again-looks.new.board)) (c.deref_mut-4.ensures.len ∙ k.sizes.ok.0);
      before = λ i. ap (λ l. round_of l i) rounds ∙ noted_for_next b.0 c.args.turn.change c.args.board.now c.note.new.board c.take_out_rest.new.board c.make_again-looks.new.board c.args.turn.from c.args.turn.to b.1 _ _ _ _ _ _ _ _ c.note.ensures.noted (rest_is _ _ _ _ _ _ _ _ _ _ refl c.deref.ensures.value c.take_out_rest.ensures.taken) _ _ _ c.make_again-looks.ensures.rule c.make_again-looks.ensures.touched c.requires.beside.room.touched.empty before long c.moved_on.new.before (subst (λ bs. CopiedFor bs c.moved_on.new.before (rounds_on c.make_again-looks.new.board) (found_in c.make_again-looks.new.touched)) noted c.moved_on.ensures.noted) i;
    }

-- Each turn gives one member its other round, if it is in the first.
use Rattle.std.proofs.Common.{◌<◌, false, get_or, length, sym, refl, ◌∙◌, arith}
use Rattle.std.proofs.lemmas.Bool.{both_ways}
use Rattle.chains.specs.Boards.{meetings_on, rounds_on}
use Rattle.chains.specs.Given.{entry_of}
use Rattle.chains.proofs.BoardKept.{becomes_same, becomes_then, becomes_also, given_cases}
use Rattle.chains.proofs.Shifts.{member_here, shifted_start, turn_free, turn_gives, turn_leaves}
use Rattle.chains.proofs.board.Board.shift.Goals as goal
use Rattle.chains.proofs.board.Board.shift.Goals.{then-is_in, else-is_in}

pub loop-member-init : goal.loop-member-init
loop-member-init c = becomes_same _ _ (shifted_start (entry_of c.args.from) (entry_of c.args.to) c.args.members.now c.args.self.now.rounds.now)

pub is_in-requires : goal.is_in-requires
is_in-requires c =
    let is = c.args.members.now in
    let t = c.loop-member.member-index in
    let so_far = c.loop-member.invariant in
    record { here = rw so_far.meetings (member_here _ _ _ _ _ _ c.requires.movable c.loop-member-test.true); within = rw so_far.shape c.requires.from }

pub give-requires : goal.give-requires
give-requires c =
    let is = c.args.members.now in
    let t = c.loop-member.member-index in
    let d = c.args.self.now in
    let so_far = c.loop-member.invariant in
    record {
      here = rw so_far.meetings (member_here _ _ _ _ _ _ c.requires.movable c.loop-member-test.true);
      within = rw so_far.shape c.requires.to;
      free = rw (so_far.meetings, so_far.shape) (turn_free (entry_of c.args.from) (entry_of c.args.to) t is (rounds_on d) _ c.loop-member-test.true so_far.rounds (meetings_on d) d.shape d.held.each c.requires.movable (given_cases d.shape c.args.to c.requires.to) (c.if-is_in.ensures.0 refl));
    }

pub loop-member-preserved : goal.loop-member-preserved
loop-member-preserved c =
    let is = c.args.members.now in
    let t = c.loop-member.member-index in
    let d = c.args.self.now in
    let u = entry_of c.args.from in
    let v = entry_of c.args.to in
    let so_far = c.loop-member.invariant in
    let here : get_or is t 0 < length (rounds_on d) = omega (arith, member_here _ _ _ _ _ _ c.requires.movable c.loop-member-test.true, d.held.each) in
    elim c.if-is_in.branch [
      | then-is_in w ↦ rw w.self-is (becomes_then _ _ _ _ _ _ so_far w.give.ensures (turn_gives u v t is (rounds_on d) _ c.loop-member-test.true so_far.rounds here (w.if-is_in.ensures.0 refl)))
      | else-is_in w ↦ rw w.self-is (becomes_also _ _ _ _ so_far (sym so_far.rounds ∙ turn_leaves u v t is (rounds_on d) _ c.loop-member-test.true so_far.rounds (λ e. both_ways false refl (w.if-is_in.ensures.1 e))))
    ]

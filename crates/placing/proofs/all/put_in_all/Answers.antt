-- Each turn puts in one meeting.
use Rattle.std.proofs.Common.{◌<◌, length, arith, rules}
use Rattle.chains.specs.Boards.{meetings_on, rounds_on}
use Rattle.chains.proofs.RowsRead.{side_rows}
use Rattle.placing.proofs.AllTurns.{putting_more, ready_also, still_unused}
use Rattle.placing.proofs.PutAll.{placed_all_as, puts_all, ready_at}
use Rattle.placing.proofs.all.put_in_all.Goals as goal

pub put_in-looks-requires : goal.put_in-looks-requires
put_in-looks-requires c =
    let d = c.args.board.now in
    let e = c.loop-meeting.board in
    let i = c.loop-meeting.meeting in
    let at = c.loop-meeting.invariant in
    let here : i < length (meetings_on d) = omega (arith, c.loop-meeting-test.true, d.held.few) in
    let ready = ready_at d.shape.groups d.shape.stations c.args.rounds (meetings_on d) i _ (λ s. (side_rows d s).parties) d.held.few (omega (arith, c.requires.within.0, d.held.groups.narrow)) here c.requires.none_busier at.before in
    record {
      ready = ready_also d.shape e.shape c.args.rounds (meetings_on d) (meetings_on e) (rounds_on e) i at.board.shape at.board.meetings ready;
      within = rw at.board.shape c.requires.within;
      unused = rw at.board.meetings (still_unused c.args.found.now _ _ c.requires.unused at.forgotten);
    }

pub loop-meeting-preserved : goal.loop-meeting-preserved
loop-meeting-preserved c =
    let d = c.args.board.now in
    let here : c.loop-meeting.meeting < length (meetings_on d) = omega (arith, c.loop-meeting-test.true, d.held.few) in
    putting_more c.args.rounds _ _ _ _ _ _ c.loop-meeting.invariant here _ _ _ _ _ c.put_in-looks.ensures.rule c.put_in-looks.ensures.chain c.clear.ensures c.put_in-looks.ensures.placed c.put_in-looks.ensures.few

pub returns-clause-placed : goal.returns-clause-placed
returns-clause-placed c =
    let d = c.args.board.now in
    let r = c.args.rounds in
    placed_all_as d.shape.groups d.shape.stations r (meetings_on d) _ _ _ (search rules) (search rules) (puts_all d.shape.groups d.shape.stations r (meetings_on d) (λ s. (side_rows d s).parties) d.held.few (omega (arith, c.requires.within.0, d.held.groups.narrow)) c.requires.none_busier)

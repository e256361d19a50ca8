-- A meeting's numbers fit a byte, since the list is proper.
use Rattle.std.proofs.Common.{◌≡◌, vec_items, arith}
use Rattle.std.proofs.lemmas.Grind.{common_steps}
use Rattle.meetings.specs.declared.numbers.Side.TheVariants.{Groups, Stations}
use Rattle.meetings.specs.Bytes.{bytes_of}
use Rattle.meetings.specs.Held.{contents}
use Rattle.meetings.proofs.Holds.{party_fits, written_back}
use Rattle.meetings.proofs.writing.write.Goals as goal

pub overflow_cast-meeting : goal.overflow_cast-meeting
overflow_cast-meeting c = record {
  fits = party_fits c.args.list.now _ c.meetings-meetings.ensures Groups _ c.loop-meeting-test.true;
}

pub overflow_cast-meeting-in-loop-meeting : goal.overflow_cast-meeting-in-loop-meeting
overflow_cast-meeting-in-loop-meeting c = record {
  fits = party_fits c.args.list.now _ c.meetings-meetings.ensures Stations _ c.loop-meeting-test.true;
}

pub returns-clause-back : goal.returns-clause-back
returns-clause-back c =
    let written : vec_items c.loop-meeting.bytes ≡ bytes_of (contents c.args.list.now) = grind (arith, common_steps) in
    written_back c.args.list.now _ written

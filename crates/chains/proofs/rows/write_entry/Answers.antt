-- An entry that is written in the part is written in the whole slice.
use borrow.Rule.Slice.PartMut.{put_mid, mid_of, mid_len, set_mid_at}
use Rattle.std.proofs.Common.{◌+◌, ◌-◌, ◌*◌, ◌<◌, length, ap, ◌∙◌, arith}
use Rattle.chains.proofs.rows.write_entry.Goals as goal

pub returns : goal.returns
returns c =
    let start = c.args.party * c.args.width in
    let long = start + c.args.width - start in
    let within : c.args.round < length (mid_of start long c.args.rows.now) = omega (arith, mid_len start (start + c.args.width) c.args.rows.now c.requires.room) in
    ap (put_mid start long c.args.rows.now) c.write_in_row.ensures ∙ set_mid_at start long c.args.round c.args.rows.now c.args.entry within

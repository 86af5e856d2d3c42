-- `reply::put_rows` meets its contract. The loop's invariant: the lines of the first rows are put, and there is room
-- for the others.
use Rattle.std.proofs.Common.{arith}
use Rattle.basics.specs.Lists.{at}
use Rattle.reply.specs.Lines.{row_lines}
use Rattle.basics.proofs.Puts.{put_none}
use Rattle.reply.proofs.Putting.{put_row_more, row_length}
use Rattle.reply.proofs.put_rows.Goals as goal

pub loop-row-init : goal.loop-row-init
unfolding row_lines
loop-row-init c = (put_none _ _, omega (arith, c.requires.fits))

pub loop-row-preserved : goal.loop-row-preserved
loop-row-preserved c =
    let l = c.loop-row in
    let a = c.args.labels.now in
    let p = c.requires.each in
    let e = c.put_row-at.ensures in (
      put_row_more a l.row l.invariant.0 c.loop-row-test.true e,
      omega (arith, l.invariant.1, e.ends, row_length l.row (at a l.row) (omega (arith, p.few)) (p.small l.row c.loop-row-test.true)),
    )

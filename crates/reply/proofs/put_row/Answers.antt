-- `reply::put_row` meets its contract: number, blank, number and newline are put one after the other.
use Rattle.std.proofs.Common.{ap}
use Rattle.reply.specs.Lines.{decimal, row_line}
use Rattle.basics.proofs.Puts.{put_then, put_text}
use Rattle.reply.proofs.put_row.Goals as goal

pub returns : goal.returns
unfolding row_line
returns c =
    let label = put_text (ap decimal c.from.ensures) c.put_number-end.ensures in
    put_then (put_then (put_then c.put_number-between.ensures c.put_byte-second.ensures) label) c.put_byte.ensures

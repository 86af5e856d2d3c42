-- `reply::put_word` meets its contract: word, blank, number and newline are put one after the other.
use Rattle.reply.specs.Lines.{word_line}
use Rattle.basics.proofs.Puts.{put_then}
use Rattle.reply.proofs.put_word.Goals as goal

pub returns : goal.returns
unfolding word_line
returns c = put_then (put_then (put_then c.put-between.ensures c.put_byte-second.ensures) c.put_number-end.ensures) c.put_byte.ensures

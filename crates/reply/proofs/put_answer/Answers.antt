-- `reply::put_answer` meets its contract: the line of a refusal, or the line of the count and then those of the rows.
use Rattle.std.proofs.Common.{refl, sym, arith, Err}
use Rattle.refusals.specs.Refusals.{answered}
use Rattle.refusals.proofs.Refusals.{number_within}
use Rattle.reply.specs.Lines.{heard_word, printed}
use Rattle.table.specs.Planned.{answering}
use Rattle.basics.proofs.Puts.{put_text, put_then, put_length}
use Rattle.reply.proofs.Putting.{word_length}
use Rattle.reply.proofs.Replying.{printed_refused}
use Rattle.reply.proofs.put_answer.Goals as goal

pub returns-in-Err : goal.returns-in-Err
returns-in-Err c =
    let r = c.in-Err.refusal in
    let refused = printed_refused (answering (answered (Err r) 0) c.args.labels.now) (λ z. absurd (omega (arith, z, (number_within r).0))) in
    rw c.in-Err.is (put_text (sym refused) c.put_refused.ensures)

pub put_rows-requires : goal.put_rows-requires
put_rows-requires c =
    let p = rw c.in-Ok.is at c.requires in
    let e = c.put_word-at.ensures in
    record {
      each = p.labels refl;
      fits = omega (arith, (p.labels refl).few, p.fits, e.ends, put_length e, word_length heard_word c.in-Ok.count (p.count refl));
    }

pub returns-in-Ok : goal.returns-in-Ok
unfolding printed
returns-in-Ok c = rw c.in-Ok.is (put_then c.put_word-at.ensures c.put_rows.ensures)

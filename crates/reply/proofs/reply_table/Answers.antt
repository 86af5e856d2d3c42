-- `reply::reply_table` meets its contract: the lines of the planner's answer have room.
use Rattle.std.proofs.Common.{sym, ap, subst, length}
use Rattle.table.specs.Tables.{lent}
use Rattle.table.specs.Planned.{planned}
use Rattle.table.proofs.Calls.{call_answer, call_space}
use Rattle.reply.specs.Lines.{printed}
use Rattle.reply.specs.Room.{Answerable}
use Rattle.basics.proofs.Puts.{put_text}
use Rattle.reply.proofs.Replying.{planned_answerable, answer_replied}
use Rattle.reply.proofs.reply_table.Goals as goal

pub put_answer-requires : goal.put_answer-requires
put_answer-requires c =
    let g = c.args in
    let t = lent g.table in
    let e = c.plan-answer.ensures in
    subst (λ x. Answerable x g.out.now) (sym (call_answer t g.labels.now g.space.now e.planned))
    (planned_answerable t g.labels.now (length g.space.now) g.out.now c.requires.fits)

pub returns : goal.returns
returns c =
    let g = c.args in
    let t = lent g.table in
    let e = c.plan-answer.ensures in
    answer_replied (planned t g.labels.now (length g.space.now)) g.space.now
    (planned_answerable t g.labels.now (length g.space.now) g.out.now c.requires.fits)
    (put_text (ap printed (call_answer t g.labels.now g.space.now e.planned)) c.put_answer.ensures)
    (call_space t g.labels.now g.space.now e.planned)

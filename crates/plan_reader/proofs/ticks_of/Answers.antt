-- `plan_reader::ticks_of` meets its contract: the head of the tape has R, if there is one.
use Rattle.std.proofs.Common.{sym, ap}
use borrow.Enum.Refused.{opened}
use Rattle.plan_tape.specs.Stated.{ticks_at}
use Rattle.plan_reader.specs.Items.{item_of}
use Rattle.plan_reader.proofs.Items.{all_left, not_head}
use Rattle.plan_reader.proofs.Begun.{head_taken, no_head}
use Rattle.plan_reader.proofs.ticks_of.Goals as goal

pub returns-in_default : goal.returns-in_default
unfolding ticks_at
returns-in_default c = rw (no_head c.args.tape.now (λ head e. not_head (opened c.in_default.in_default-own.keys2) head (cc (ap item_of (all_left c.new-reader.ensures)))))

pub returns-in_default-2 : goal.returns-in_default-2
unfolding ticks_at
returns-in_default-2 c = rw (no_head c.args.tape.now (λ head e. cc (ap item_of (all_left c.new-reader.ensures))))

pub returns : goal.returns
returns c = sym (head_taken c.args.tape.now c.in-Some-Head.head (cc (ap item_of (all_left c.new-reader.ensures)))).ticks_is

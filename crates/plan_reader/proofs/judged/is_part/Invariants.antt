-- `plan_reader::judged::is_part` meets its contract: what is left to ask is asked of the LISTENs that are left.
use Rattle.std.proofs.Common.{◌≡◌, length}
use Rattle.plan_reader.specs.Judged.{listens_left, is_part}
use Rattle.plan_reader.proofs.judged.is_part.Given as goal

abbrev pub invariant-loop-listen : goal.invariant-loop-listen
invariant-loop-listen l = is_part l.head.kind l.head.ticks (listens_left l.fn.listens) ≡ is_part l.head.kind l.head.ticks (listens_left l.listens)

abbrev pub decreases-loop-listen : goal.decreases-loop-listen
decreases-loop-listen l = length (listens_left l.listens)

-- `plan_reader::judged::take_listens` meets its contract: the bytes after the LISTENs are those after the LISTENs
-- that are left.
use Rattle.std.proofs.Common.{◌≡◌, length}
use Rattle.plan_tape.specs.Stated.{listens_in, after_listens}
use Rattle.plan_reader.specs.Items.{left}
use Rattle.plan_reader.proofs.judged.take_listens.Given as goal

abbrev pub invariant-loop : goal.invariant-loop
invariant-loop l = after_listens (left l.initial.reader) ≡ after_listens (left l.reader)

abbrev pub decreases-loop : goal.decreases-loop
decreases-loop l = length (listens_in (left l.reader))

-- `take_row`: the labels are taken that lead from the cells before y.
use Rattle.line_labels.proofs.Marking.{marked_more}
use Rattle.line_labels.proofs.Turn.take_row.Goals as goal

pub loop-y-preserved : goal.loop-y-preserved
loop-y-preserved c = marked_more c.loop-y.invariant c.take_all-now.ensures.more c.take_all-now.ensures.taken

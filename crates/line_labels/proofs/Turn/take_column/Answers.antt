-- `take_column`: the labels are taken that lead from the cells before x.
use Rattle.line_labels.proofs.Marking.{marked_more}
use Rattle.line_labels.proofs.Turn.take_column.Goals as goal

pub loop-x-preserved : goal.loop-x-preserved
loop-x-preserved c = marked_more c.loop-x.invariant c.take_all-now.ensures.more c.take_all-now.ensures.taken

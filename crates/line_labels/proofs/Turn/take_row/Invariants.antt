-- `take_row`: the labels are taken that lead from the cells before y.
use Rattle.line_labels.specs.Marks.{RowMarked}
use Rattle.line_labels.proofs.Turn.take_row.Given as goal

abbrev pub invariant-loop-y : goal.invariant-loop-y
invariant-loop-y l = RowMarked l.self l.y l.initial.space l.initial.now l.space l.now

-- `take_column`: the labels are taken that lead from the cells before x.
use Rattle.line_labels.specs.Marks.{ColumnMarked}
use Rattle.line_labels.proofs.Turn.take_column.Given as goal

abbrev pub invariant-loop-x : goal.invariant-loop-x
invariant-loop-x l = ColumnMarked l.self l.x l.initial.space l.initial.now l.space l.now

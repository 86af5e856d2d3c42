-- `take_turn`: what is taken from the cells (row, y) stays so.
use Rattle.line_labels.proofs.Marking.{more_none, marked_later}
use Rattle.line_labels.proofs.Turn.take_turn.Goals as goal

pub returns-clause-row : goal.returns-clause-row
returns-clause-row c = marked_later (more_none _ _) c.take_row-with_row.ensures c.take_column.ensures.more

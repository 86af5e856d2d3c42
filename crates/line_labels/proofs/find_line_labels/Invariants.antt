-- `find_line_labels`: the rows before row `row` have had their turns.
use Rattle.line.specs.Filled.{Filled}
use Rattle.line_labels.specs.Added.{NotLeftOut}
use Rattle.line_labels.proofs.Progress.{Progress}
use Rattle.line_labels.proofs.find_line_labels.Given as goal

abbrev pub invariant-loop-row : goal.invariant-loop-row
invariant-loop-row l =
    record {
      must : NotLeftOut l.perms 0 l.must;
      progress : (filled : Filled l.perms l.fn.space) → Progress l.perms l.order l.fn.space filled l.row l.stage l.space;
    }

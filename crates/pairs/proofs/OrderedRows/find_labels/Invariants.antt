-- `find_labels` meets its contract: over the pairs from (m, m) downwards, the labels of the assignments that reach the
-- cap are found.
use Rattle.pairs.specs.Pairs.{gathered}
use Rattle.pairs.proofs.Trials.{FirstFrom, SecondFrom}
use Rattle.pairs.proofs.Finding.{Finding}
use Rattle.pairs.proofs.OrderedRows.find_labels.Given as goal

abbrev pub invariant-loop-w1 : goal.invariant-loop-w1
invariant-loop-w1 l =
    let perms = gathered l.self.order.now l.perms in
    Finding l.self.positions.now l.self.ends.now l.self.order.now l.perms l.self.m l.cap (FirstFrom l.self.positions.now l.self.ends.now perms l.self.m l.w1)
    l.fn.space l.space l.reached

abbrev pub invariant-loop-w2 : goal.invariant-loop-w2
invariant-loop-w2 l =
    let perms = gathered l.self.order.now l.perms in
    Finding l.self.positions.now l.self.ends.now l.self.order.now l.perms l.self.m l.cap (SecondFrom l.self.positions.now l.self.ends.now perms l.self.m l.w1 l.w2)
    l.fn.space l.space l.reached

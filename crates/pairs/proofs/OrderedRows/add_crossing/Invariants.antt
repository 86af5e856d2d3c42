-- `add_crossing` meets its contract: the labels of the crossing rows that it passed are added.
use Rattle.pairs.specs.Finding.{Added}
use Rattle.pairs.proofs.OrderedRows.add_crossing.Given as goal

abbrev pub invariant-loop-k : goal.invariant-loop-k
invariant-loop-k l = Added l.self.order.now l.left l.k l.fn.space l.space

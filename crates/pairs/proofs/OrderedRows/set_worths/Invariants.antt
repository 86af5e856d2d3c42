-- `set_worths` meets its contract: the bytes of the rows below w are written.
use Rattle.pairs.specs.Pairs.{gathered}
use Rattle.pairs.proofs.Trials.{Worths}
use Rattle.pairs.proofs.OrderedRows.set_worths.Given as goal

abbrev pub invariant-loop-w : goal.invariant-loop-w
invariant-loop-w l = Worths l.self.positions.now l.self.ends.now (gathered l.self.order.now l.perms) l.self.m l.w l.fn.space l.space

-- `worth` meets its contract: no labels hear more of the rows below k than the schedule.
use Rattle.pairs.specs.Pairs.{gathered}
use Rattle.pairs.proofs.Worths.{Scheduled}
use Rattle.pairs.proofs.OrderedRows.worth.Given as goal

abbrev pub invariant-loop-k : goal.invariant-loop-k
invariant-loop-k l =
    Scheduled l.self.positions.now l.self.ends.now (gathered l.self.order.now l.perms) l.self.m l.label l.w l.k l.schedule.count l.schedule.end

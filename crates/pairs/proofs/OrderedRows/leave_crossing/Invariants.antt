-- `leave_crossing`: what the pair leaves of the permissions before k is written, none of it 0.
use Rattle.pairs.specs.Pairs.{gathered, LeftAll}
use Rattle.pairs.proofs.OrderedRows.leave_crossing.Given as goal

abbrev pub invariant-loop-k : goal.invariant-loop-k
invariant-loop-k l =
    LeftAll l.self.positions.now l.self.ends.now (gathered l.self.order.now l.perms) l.self.m l.pair.w1 l.pair.w2 l.k l.left

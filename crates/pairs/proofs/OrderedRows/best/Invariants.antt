-- `best` meets its contract: the loops have tried or passed over the pairs from (m, m) downwards.
use Rattle.pairs.specs.Pairs.{gathered}
use Rattle.pairs.proofs.Trials.{Tried, FirstFrom, SecondFrom}
use Rattle.pairs.proofs.OrderedRows.best.Given as goal

abbrev pub invariant-loop-w1 : goal.invariant-loop-w1
invariant-loop-w1 l =
    let perms = gathered l.self.order.now l.perms in
    Tried l.self.positions.now l.self.ends.now perms l.self.m (FirstFrom l.self.positions.now l.self.ends.now perms l.self.m l.w1) l.fn.space l.space l.best

abbrev pub invariant-loop-w2 : goal.invariant-loop-w2
invariant-loop-w2 l =
    let perms = gathered l.self.order.now l.perms in
    Tried l.self.positions.now l.self.ends.now perms l.self.m (SecondFrom l.self.positions.now l.self.ends.now perms l.self.m l.w1 l.w2) l.fn.space l.space l.best

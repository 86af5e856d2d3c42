-- `set_worths` meets its contract: the bytes of the rows below w are written.
use native.Mathlib.Omega.{arith}
use Rattle.pairs.proofs.Trials.{worths_more}
use Rattle.pairs.proofs.OrderedRows.set_worths.Goals as goal

pub loop-w-preserved : goal.loop-w-preserved
loop-w-preserved c = worths_more c.loop-w.invariant (omega arith) (omega arith) c.worth.ensures.worth c.worth.ensures.small

pub returns-clause-worths : goal.returns-clause-worths
returns-clause-worths c w h = c.loop-w.invariant.worth w (omega arith)

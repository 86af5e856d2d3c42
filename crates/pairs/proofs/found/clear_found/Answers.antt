-- `clear_found` meets its contract: no label is found for the rows that it passed.
use native.Mathlib.Omega.{arith}
use Rattle.pairs.proofs.Adding.{none_more}
use Rattle.pairs.proofs.found.clear_found.Goals as goal

pub loop-r-preserved : goal.loop-r-preserved
loop-r-preserved c = none_more _ (omega arith) (omega arith) c.loop-r.invariant

-- `add_crossing` meets its contract: the labels of the crossing rows that it passed are added.
use native.Mathlib.Omega.{arith}
use Rattle.pairs.proofs.Adding.{added_more}
use Rattle.pairs.proofs.OrderedRows.add_crossing.Goals as goal

pub loop-k-preserved : goal.loop-k-preserved
loop-k-preserved c = added_more _ (c.requires.row _ (omega arith)) (omega arith) c.loop-k.invariant _ _ c.from-place.ensures c.joined.ensures

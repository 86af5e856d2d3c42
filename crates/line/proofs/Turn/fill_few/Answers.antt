-- `fill_few`: the cells before b are made.
use native.Mathlib.Omega.{arith}
use Rattle.line.proofs.Turns.{side_more}
use Rattle.line.proofs.Turn.fill_few.Goals as goal

pub loop-b-preserved : goal.loop-b-preserved
loop-b-preserved c = let l = c.loop-b in side_more l.b l.invariant (omega arith) (omega arith) (omega arith) (omega arith) (omega arith) c.fill_cell.ensures

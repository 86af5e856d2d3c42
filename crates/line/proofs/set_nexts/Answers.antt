-- `set_nexts`: the next rows of the rows before j are written.
use native.Mathlib.Omega.{arith}
use Rattle.line.proofs.Nexts.{nexts_more, nexts_done}
use Rattle.line.proofs.set_nexts.Goals as goal

pub loop-j-preserved : goal.loop-j-preserved
loop-j-preserved c =
    let row = c.next_row.ensures in
    nexts_more _ c.requires.line c.loop-j.invariant (omega arith) (omega arith) row.later row.bound row.over

pub returns-clause-next_rows : goal.returns-clause-next_rows
returns-clause-next_rows c = nexts_done c.loop-j.invariant (omega arith) (omega arith)

-- `prepare` meets its contract: the rows that do not cross the cut lie on a line.
use native.Mathlib.Omega.{arith}
use Rattle.tracks.proofs.Arranged.{arranged_line}
use Rattle.tracks.proofs.prepare.Goals as goal

pub set_nexts-requires-clause-line : goal.set_nexts-requires-clause-line
set_nexts-requires-clause-line c = arranged_line c.requires.arcs c.arrange-m.ensures _ _ (omega arith) (omega arith)

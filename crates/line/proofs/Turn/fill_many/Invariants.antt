-- `fill_many`: the cells before b are made.
use Rattle.line.specs.Turns.{SideMade}
use Rattle.line.proofs.Turn.fill_many.Given as goal

abbrev pub invariant-loop-b : goal.invariant-loop-b
invariant-loop-b l = SideMade l.receiver l.self.perm l.self.j l.self.next l.last l.b l.initial.space l.space

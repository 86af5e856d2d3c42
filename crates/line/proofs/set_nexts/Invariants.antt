-- `set_nexts`: the next rows of the rows before j are written.
use Rattle.line.proofs.Nexts.{NextsMade}
use Rattle.line.proofs.set_nexts.Given as goal

abbrev pub invariant-loop-j : goal.invariant-loop-j
invariant-loop-j l = NextsMade l.starts l.ends l.j l.initial.space l.space

-- `set_highs`: the bytes of the rows before j are written.
use Rattle.line.proofs.Highs.{BothMade}
use Rattle.line.proofs.set_highs.Given as goal

abbrev pub invariant-loop-j : goal.invariant-loop-j
invariant-loop-j l = BothMade l.perms l.j l.high_1 l.high_2 l.initial.space l.space

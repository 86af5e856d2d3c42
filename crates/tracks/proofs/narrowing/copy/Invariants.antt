-- `copy`: the bytes passed are those of the list that is copied.
use Rattle.basics.specs.Lists.{at}
use Rattle.basics.proofs.Filling.{Filled}
use Rattle.tracks.proofs.narrowing.copy.Given as goal

abbrev pub invariant-loop-i : goal.invariant-loop-i
invariant-loop-i l = Filled (at l.from) l.i l.fn.to l.to

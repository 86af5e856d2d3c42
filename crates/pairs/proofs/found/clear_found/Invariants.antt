-- `clear_found` meets its contract: no label is found for the rows that it passed.
use Rattle.pairs.specs.Finding.{NoneFound}
use Rattle.pairs.proofs.found.clear_found.Given as goal

abbrev pub invariant-loop-r : goal.invariant-loop-r
invariant-loop-r l = NoneFound l.r l.fn.space l.space

-- `line_best`: the cells where both receivers are free from row j or a later one on are made.
use mathlib.Core.Path.{◌≡◌}
use lib.ListN.{drop}
use Rattle.line.specs.Cells.{line_bytes}
use Rattle.line.proofs.BestFrom.{Must}
use Rattle.line.proofs.Stages.{FilledFrom}
use Rattle.line.proofs.line_best.Given as goal

abbrev pub invariant-loop-j : goal.invariant-loop-j
invariant-loop-j l = record { must : Must l.perms l.j l.must; filled : FilledFrom l.perms l.space l.j; rest : drop line_bytes l.space ≡ drop line_bytes l.fn.space }

-- `table::plan::is_apart_before` meets its contract: the rows passed are apart from row i.
use Rattle.std.proofs.Common.{◌≡◌, true}
use Rattle.basics.specs.Tests.{every}
use Rattle.table.specs.Tables.{lent, apart_at}
use Rattle.table.proofs.plan.is_apart_before.Given as goal

abbrev pub invariant-loop-j : goal.invariant-loop-j
invariant-loop-j l = every l.j (apart_at (lent l.table) l.labels l.i) ≡ true

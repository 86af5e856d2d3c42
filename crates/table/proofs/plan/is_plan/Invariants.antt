-- `table::plan::is_plan` meets its contract: the rows passed fit.
use Rattle.std.proofs.Common.{◌≡◌, true, length}
use Rattle.basics.specs.Tests.{every}
use Rattle.table.specs.Tables.{lent, rows, is_even, is_fit}
use Rattle.table.proofs.plan.is_plan.Given as goal

abbrev pub invariant-loop-i : goal.invariant-loop-i
invariant-loop-i l = (is_even (lent l.table) ≡ true) × (length l.labels ≡ rows (lent l.table)) × (every l.i (is_fit (lent l.table) l.labels) ≡ true)

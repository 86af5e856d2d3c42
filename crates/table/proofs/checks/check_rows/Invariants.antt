-- `table::checks::check_rows` meets its contract: the rows from i on are still to be looked at.
use Rattle.std.proofs.Common.{◌≡◌, true}
use Rattle.table.specs.Tables.{lent, is_even}
use Rattle.table.proofs.Looking.{Ahead}
use Rattle.table.proofs.checks.check_rows.Given as goal

abbrev pub invariant-loop-i : goal.invariant-loop-i
invariant-loop-i l = (is_even (lent l.table) ≡ true) × Ahead (lent l.table) l.i

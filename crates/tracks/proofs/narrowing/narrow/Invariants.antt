-- `narrow` meets its contract: the rows that the loop passed have one label each, and the permissions are kept beside.
use Prim.Native.Nat.{◌≤◌}
use mathlib.Core.Path.{◌≡◌}
use lib.ListN.{drop}
use Rattle.basics.specs.Limits.{max_rows}
use Rattle.line.specs.Cells.{next_from}
use Rattle.tracks.specs.Narrowing.{Ordered, Narrowed, Kept}
use Rattle.tracks.proofs.narrowing.narrow.Given as goal

abbrev pub invariant-loop-i : goal.invariant-loop-i
invariant-loop-i l =
    record {
      narrowed : Narrowed (Ordered l.rows.positions.now l.rows.ends.now l.rows.order.now) l.cap l.fn.perms l.perms l.i;
      kept : Kept l.perms l.space;
      frame : drop next_from l.space ≡ drop next_from l.fn.space;
      ahead_few : l.ahead ≤ max_rows;
    }

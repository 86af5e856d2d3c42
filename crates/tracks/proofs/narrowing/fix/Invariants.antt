-- `fix` meets its contract: the rows that the loop passed are left their first labels.
use Prim.Native.Nat.{◌≤◌}
use mathlib.Core.Path.{◌≡◌}
use Rattle.tracks.specs.Narrowing.{Fixed}
use Rattle.tracks.proofs.narrowing.fix.Given as goal

abbrev pub invariant-loop-r : goal.invariant-loop-r
invariant-loop-r l = record { fixed : Fixed l.fn.perms l.perms l.i l.r; some : l.r ≡ l.i → 1 ≤ l.left }

-- `next_row`: the rows between j and `next` start before `end`.
use Prim.Native.Nat.{ℕ, ◌-◌, ◌≤◌, ◌<◌}
use lib.ListN.{length}
use Rattle.basics.specs.Lists.{at}
use Rattle.line.proofs.next_row.Given as goal

abbrev pub invariant-loop-next : goal.invariant-loop-next
invariant-loop-next l = record { after : l.j < l.next; within : l.next ≤ length l.starts; early : (k : ℕ) → l.j < k → k < l.next → at l.starts k < l.end }

abbrev pub decreases-loop-next : goal.decreases-loop-next
decreases-loop-next l = length l.starts - l.next

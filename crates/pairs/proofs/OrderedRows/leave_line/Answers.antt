-- `leave_line`: what the pair leaves of the permissions before k is written, none of it 0.
use mathlib.Core.Path.{◌≡◌}
use native.Mathlib.Omega.{arith}
use lib.ListN.{length}
use Rattle.pairs.proofs.Leaves.{left_line, left_all_more, leaving_zero, leaving_all}
use Rattle.pairs.proofs.OrderedRows.leave_line.Goals as goal

pub returns-then-kept-eq0 : goal.returns-then-kept-eq0
returns-then-kept-eq0 c =
    let s = c.args.self in
    leaving_zero _ _ _ _ _ _ c.loop-k.k (omega arith) (left_line s.positions.now s.ends.now _ _ _ s.order.now c.args.perms.now (omega arith) c.from.ensures (omega arith) c.restricted-kept.ensures c.is_beside-one.ensures c.is_beside-two.ensures) c.if-kept-eq0.true

pub loop-k-preserved : goal.loop-k-preserved
loop-k-preserved c =
    let s = c.args.self in
    left_all_more _ _ _ _ _ _ c.loop-k.k _ (omega arith) (left_line s.positions.now s.ends.now _ _ _ s.order.now c.args.perms.now (omega arith) c.from.ensures (omega arith) c.restricted-kept.ensures c.is_beside-one.ensures c.is_beside-two.ensures)
    c.if-kept-eq0.false c.loop-k.invariant

pub returns : goal.returns
returns c =
    let all : c.loop-k.k ≡ length c.args.self.positions.now = omega arith in
    leaving_all _ _ _ _ _ _ (rw all at c.loop-k.invariant)

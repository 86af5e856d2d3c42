-- `best_plan::set_arcs` meets its contract: the row more is written after the rows of the table.
use Rattle.std.proofs.Common.{arith}
use Rattle.table.specs.Tables.{lent, rows}
use Rattle.table.specs.Changes.{with_row}
use Rattle.best_plan.specs.Rows.{ValidWith, ArcRoom}
use Rattle.best_plan.proofs.Rows.{arcs_with}
use Rattle.best_plan.proofs.set_arcs.Goals as goal

pub returns-in-Some : goal.returns-in-Some
returns-in-Some c =
    let t = lent c.args.table in
    let row = c.in-Some.row in
    let valid : ValidWith t row = rw c.in-Some.is at c.requires.valid in
    let room : ArcRoom (rows (with_row t row)) c.args.starts.now c.args.lengths.now c.args.perms.now = rw c.in-Some.is at c.requires.room in
    let l = c.loop-i.invariant in
    let e = c.set_arc-in-Some.ensures in
    rw c.in-Some.is
    (arcs_with t valid.valid row
    (record { start = λ i h. l.starts.done i (omega arith); ticks = λ i h. l.lengths.done i (omega arith); perm = λ i h. l.perms.done i (omega arith) })
    (record { start = omega (arith, room.start, l.starts.each); ticks = omega (arith, room.ticks, l.lengths.each); perm = omega (arith, room.perm, l.perms.each) })
    c.len-n.ensures e.starts_after e.lengths_after e.perms_after)

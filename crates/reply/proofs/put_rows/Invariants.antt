-- `reply::put_rows` meets its contract. The loop's invariant: the lines of the first rows are put, and there is room
-- for the others.
use Rattle.std.proofs.Common.{◌+◌, ◌-◌, ◌*◌, ◌≤◌, length, take}
use Rattle.basics.specs.Lists.{Put}
use Rattle.reply.specs.Lines.{row_lines}
use Rattle.reply.proofs.put_rows.Given as goal

abbrev pub invariant-loop-row : goal.invariant-loop-row
invariant-loop-row l =
    Put l.initial.out l.place (row_lines 0 (take l.row l.labels)) l.out l.at × (l.at + 6 * (length l.labels - l.row) ≤ length l.initial.out)

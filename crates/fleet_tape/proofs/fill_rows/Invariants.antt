-- `fleet_tape::fill_rows` meets its contract. The loop's invariant: the rows before this one are written.
use Rattle.std.proofs.Common.{◌≡◌}
use Rattle.fleet_tape.proofs.Rows.{filled}
use Rattle.fleet_tape.proofs.fill_rows.Given as goal

abbrev pub invariant-loop-i : goal.invariant-loop-i
invariant-loop-i l =
    record {
      starts_so_far : l.starts ≡ filled (λ row. row.start) l.rows l.i l.initial.starts;
      ends_so_far : l.ends ≡ filled (λ row. row.end) l.rows l.i l.initial.ends;
      marks_so_far : l.marks ≡ filled (λ row. row.mark) l.rows l.i l.initial.marks;
    }

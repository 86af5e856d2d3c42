-- `best_plan::set_arcs` meets its contract: the arcs and permissions of the rows passed are written.
use Rattle.basics.proofs.Filling.{Filled}
use Rattle.best_plan.specs.Rows.{arc_of, permission_of}
use Rattle.table.specs.Tables.{lent, row_at}
use Rattle.best_plan.proofs.set_arcs.Given as goal

abbrev pub invariant-loop-i : goal.invariant-loop-i
invariant-loop-i l =
    let t = lent l.table in
    record {
      starts : Filled (λ k. (arc_of t.setting (row_at t k)).start) l.i l.initial.starts l.starts;
      lengths : Filled (λ k. (arc_of t.setting (row_at t k)).length) l.i l.initial.lengths l.lengths;
      perms : Filled (λ k. permission_of t.setting (row_at t k)) l.i l.initial.perms l.perms;
    }

-- `held_table::Held::add_row` meets its contract: the longer table is planned, and a refused row is taken out again.
use Rattle.std.proofs.Common.{◌+◌, ap, ◌∙◌, refl, arith}
use Rattle.std.specs.Prelude.{Err}
use Rattle.refusals.proofs.Refusals.{err_refuses}
use Rattle.window.specs.declared.Row.{Row}
use Rattle.table.specs.Changes.{with_row}
use Rattle.held_table.specs.Held.{held, held_table}
use Rattle.held_table.proofs.Planning.{rows_taken, rows_kept}
use Rattle.held_table.proofs.Adding.{put_back, new_rows}
use Rattle.held_table.proofs.Held.add_row.Goals as goal

pub returns-in-Ok-clause-planned : goal.returns-in-Ok-clause-planned
returns-in-Ok-clause-planned c =
    let h = held c.args.self.now c.args.labels.now in
    let s = c.set_row.ensures in
    let plan = c.in-Ok.ensures in
    let new = new_rows h c.requires c.args.row (s.starts_after, (s.ends_after, s.marks_after)) in
    rows_taken h (with_row (held_table h) c.args.row) c.args.space.now (h.numbers.rows + 1) (omega (arith, c.requires.below)) new c.plan_first.new.labels plan.space_after plan.labels_unchanged refl
    (c.plan_first.auto.labels ∙ c.requires.places.labels_64)

pub returns-in-Err-clause-planned : goal.returns-in-Err-clause-planned
returns-in-Err-clause-planned c =
    let h = held c.args.self.now c.args.labels.now in
    let s = c.set_row.ensures in
    let plan = c.in-Err.ensures in
    let back = c.set_row-in-Err.ensures in
    let free = c.row-free.ensures in
    let new = new_rows h c.requires c.args.row (s.starts_after, (s.ends_after, s.marks_after)) in
    rows_kept h (with_row (held_table h) c.args.row) c.args.space.now (h.numbers.rows + 1) (omega (arith, c.requires.below)) new c.plan_first.new.labels plan.space_after plan.labels_unchanged
    (err_refuses (Err c.in-Err.refusal) refl)
    (put_back _ h.numbers.rows _ _ s.starts_after back.starts_after (ap (λ (r : Row). r.start) free))
    (put_back _ h.numbers.rows _ _ s.ends_after back.ends_after (ap (λ (r : Row). r.end) free))
    (put_back _ h.numbers.rows _ _ s.marks_after back.marks_after (ap (λ (r : Row). r.mark) free))

-- `held_table::Held::withdraw_row` meets its contract: the shorter table is planned, and after a refusal the rows are
-- moved back.
use Rattle.std.proofs.Common.{◌-◌, ap, ◌∙◌, refl, arith}
use Rattle.std.specs.Prelude.{Err}
use Rattle.refusals.proofs.Refusals.{err_refuses}
use Rattle.window.specs.declared.Row.{Row}
use Rattle.table.specs.Changes.{without_row}
use Rattle.held_table.specs.Held.{held, held_table}
use Rattle.held_table.proofs.Planning.{rows_taken, rows_kept}
use Rattle.held_table.proofs.Withdrawing.{moved_back, rest_rows}
use Rattle.held_table.proofs.Held.withdraw_row.Goals as goal

pub returns-in-Ok-clause-planned : goal.returns-in-Ok-clause-planned
returns-in-Ok-clause-planned c =
    let h = held c.args.self.now c.args.labels.now in
    let up = c.move_up.ensures in
    let plan = c.in-Ok.ensures in
    let new = rest_rows h c.args.k c.requires (up.starts_after, (up.ends_after, up.marks_after)) in
    rows_taken h (without_row (held_table h) c.args.k) c.args.space.now (h.numbers.rows - 1) (omega (arith, c.requires.most)) new c.plan_first.new.labels plan.space_after plan.labels_unchanged refl
    (c.plan_first.auto.labels ∙ c.requires.places.labels_64)

pub returns-in-Err-clause-planned : goal.returns-in-Err-clause-planned
returns-in-Err-clause-planned c =
    let h = held c.args.self.now c.args.labels.now in
    let k = c.args.k in
    let n = h.numbers.rows in
    let up = c.move_up.ensures in
    let plan = c.in-Err.ensures in
    let down = c.move_down.ensures in
    let back = c.set_row.ensures in
    let row = c.row-row.ensures in
    let p = c.requires.places.rows_64 in
    let new = rest_rows h k c.requires (up.starts_after, (up.ends_after, up.marks_after)) in
    rows_kept h (without_row (held_table h) k) c.args.space.now (n - 1) (omega (arith, c.requires.most)) new c.plan_first.new.labels plan.space_after plan.labels_unchanged
    (err_refuses (Err c.in-Err.refusal) refl)
    (moved_back _ k n _ c.requires.below (omega (arith, c.requires.most, p.starts_64)) up.starts_after down.starts_after back.starts_after (ap (λ (r : Row). r.start) row))
    (moved_back _ k n _ c.requires.below (omega (arith, c.requires.most, p.ends_64)) up.ends_after down.ends_after back.ends_after (ap (λ (r : Row). r.end) row))
    (moved_back _ k n _ c.requires.below (omega (arith, c.requires.most, p.marks_64)) up.marks_after down.marks_after back.marks_after (ap (λ (r : Row). r.mark) row))

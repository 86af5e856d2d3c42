-- `best_plan::count_checked` meets its contract: the arcs and permissions that are counted for are those of the table
-- and of the row more.
use Rattle.std.proofs.Common.{◌+◌, ◌≤◌, ◌∙◌, sym, ap, arith, rules}
use Rattle.table.specs.Tables.{lent}
use Rattle.best_plan.specs.Rows.{circle_of, with_more}
use Rattle.best_plan.proofs.Given.{count_given}
use Rattle.best_plan.proofs.Rows.{arcs_of, core_lent, more_valid, rows_more, setting_more}
use Rattle.best_plan.proofs.count_checked.Goals as goal

pub best_count-best-requires : goal.best_count-best-requires
best_count-best-requires c =
    let t = lent c.args.table in
    let m = c.args.more in
    let arcs = arcs_of (with_more t m) (rows_more t m c.len.ensures c.is_some.ensures c.from.ensures) c.set_arcs.ensures (search rules) (search rules) (search rules) in
    core_lent _ (more_valid t m c.requires.valid) arcs (c.circle_of-circle.ensures ∙ sym (ap circle_of (setting_more t m))) c.requires.room

pub returns-clause-value : goal.returns-clause-value
returns-clause-value c =
    let t = lent c.args.table in
    let m = c.args.more in
    let valid = more_valid t m c.requires.valid in
    let n = rows_more t m c.len.ensures c.is_some.ensures c.from.ensures in
    let few : c.len.result + c.from.result ≤ 64 = omega (arith, n, valid.few) in
    let arcs = arcs_of (with_more t m) n c.set_arcs.ensures (search rules) (search rules) (search rules) in
    c.count_in.ensures ∙ count_given _ valid arcs (rw (c.circle_of-circle.ensures ∙ sym (ap circle_of (setting_more t m))) at c.best_count-best.ensures.most.0)

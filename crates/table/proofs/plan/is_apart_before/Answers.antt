-- `table::plan::is_apart_before` meets its contract: a row that is not apart fails the test of all.
use Rattle.std.proofs.Common.{◌∙◌, sym, ap₂}
use Rattle.basics.specs.Lists.{at}
use Rattle.basics.proofs.Tests.{every_fails}
use Rattle.table.specs.Tables.{is_apart}
use Rattle.table.proofs.plan.is_apart_before.Goals as goal

pub returns-then-not-is_apart : goal.returns-then-not-is_apart
returns-then-not-is_apart c =
    let g = c.args in
    let told = c.is_apart.ensures ∙ ap₂ (λ x y. is_apart g.table.setting x (at g.labels.now g.i) y (at g.labels.now c.loop-j.j)) c.row-row.ensures c.row.ensures in
    every_fails _ c.loop-j.j _ c.loop-j-test.true (sym told ∙ c.if-not-is_apart.true)

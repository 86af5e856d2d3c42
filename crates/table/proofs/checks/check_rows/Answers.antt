-- `table::checks::check_rows` meets its contract: the rows from i on are still to be looked at.
use Rattle.std.proofs.Common.{◌≡◌, ◌∙◌, sym, ap, arith}
use Rattle.refusals.proofs.Refusals.{err_refuses, ok_passes}
use Rattle.table.proofs.Looking.{even_lists, row_in, uneven, ahead_all, ahead_refused, ahead_more, ahead_done}
use Rattle.table.specs.Checks.{row_refusal}
use Rattle.refusals.specs.Refusals.{number_of}
use Rattle.table.proofs.checks.check_rows.Goals as goal

pub returns-then-not-is_even : goal.returns-then-not-is_even
returns-then-not-is_even c = uneven _ (sym c.is_even.ensures ∙ c.if-not-is_even.true)

pub loop-i-init : goal.loop-i-init
loop-i-init c =
    let told = sym c.is_even.ensures ∙ c.if-not-is_even.false in
    let even = even_lists _ _ _ told in
    (told, ahead_all _ even.0 even.1)

pub row-requires : goal.row-requires
row-requires c = row_in _ _ _ c.loop-i.i c.loop-i.invariant.0 (omega (arith, c.len-i-end.ensures, c.loop-i-test.true))

pub returns-then-is_err : goal.returns-then-is_err
returns-then-is_err c =
    let r = c.check_row-refusal in
    ahead_refused _ c.loop-i.i r.result (omega (arith, c.len-i-end.ensures, c.loop-i-test.true)) c.loop-i.invariant.1 (r.ensures ∙ ap (row_refusal _) c.row.ensures)
    (err_refuses r.result (sym c.is_err.ensures.value ∙ c.if-is_err.true))

pub loop-i-preserved : goal.loop-i-preserved
loop-i-preserved c =
    let r = c.check_row-refusal in
    let told = r.ensures ∙ ap (row_refusal _) c.row.ensures in
    let passed = ok_passes r.result (sym c.is_err.ensures.value ∙ c.if-is_err.false) in
    (c.loop-i.invariant.0, ahead_more _ c.loop-i.i (omega (arith, c.len-i-end.ensures, c.loop-i-test.true)) c.loop-i.invariant.1 (sym (ap number_of told) ∙ passed))

pub returns : goal.returns
returns c =
    let all : c.loop-i.i ≡ c.len.result = omega (arith, c.len-i-end.ensures, c.len.ensures, c.loop-i-test.false, c.loop-i.auto.i-end) in
    rw (← all) (ahead_done _ c.loop-i.i (omega (arith, c.len-i-end.ensures, c.loop-i-test.false)) c.loop-i.invariant.1)

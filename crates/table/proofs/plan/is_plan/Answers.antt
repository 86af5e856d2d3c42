-- `table::plan::is_plan` meets its contract: the rows passed fit.
use Rattle.std.proofs.Common.{◌≡◌, ◌∙◌, sym, ap, refl, arith, length}
use Rattle.basics.specs.Lists.{at}
use Rattle.basics.specs.Tests.{every}
use Rattle.basics.proofs.Tests.{every_more}
use Rattle.table.specs.Tables.{is_allowed}
use Rattle.table.proofs.Looking.{even_lists, row_in}
use Rattle.table.proofs.Plans.{plan_said}
use Rattle.table.proofs.Testing.{uneven_plan, not_even_labels, even_plan, not_allowed, not_apart, fit_row}
use Rattle.table.proofs.plan.is_plan.Goals as goal

pub returns-then-not-is_even : goal.returns-then-not-is_even
returns-then-not-is_even c =
    let said = plan_said _ _ _ (uneven_plan _ _ (sym c.is_even.ensures ∙ c.if-not-is_even.true)) in
    record { computed = said.0; meaning = said.1 }

pub returns-then-labels-len : goal.returns-then-labels-len
returns-then-labels-len c =
    let even = even_lists _ _ _ (sym c.is_even.ensures ∙ c.if-not-is_even.false) in
    let said = plan_said _ _ _ (not_even_labels _ _ even.0 even.1 (λ e. c.if-labels-len.true (e ∙ sym c.len.ensures))) in
    record { computed = said.0; meaning = said.1 }

pub loop-i-init : goal.loop-i-init
unfolding every
loop-i-init c = (sym c.is_even.ensures ∙ c.if-not-is_even.false, c.if-labels-len.false ∙ c.len.ensures, refl)

pub row-requires : goal.row-requires
row-requires c =
    let l = c.loop-i in
    row_in _ _ _ l.i l.invariant.0 (omega (arith, l.invariant.1, c.loop-i-test.true))

pub returns-then-not-is_allowed : goal.returns-then-not-is_allowed
returns-then-not-is_allowed c =
    let l = c.loop-i in
    let g = c.args in
    let even = even_lists _ _ _ l.invariant.0 in
    let told = c.is_allowed.ensures ∙ ap (λ x. is_allowed g.table.setting x (at g.labels.now l.i)) c.row.ensures in
    let said = plan_said _ _ _ (not_allowed _ _ even.0 even.1 l.invariant.1 l.i (omega (arith, l.invariant.1, c.loop-i-test.true)) c.is_allowed.result told c.if-not-is_allowed.true) in
    record { computed = said.0; meaning = said.1 }

pub is_apart_before-requires : goal.is_apart_before-requires
is_apart_before-requires c =
    let l = c.loop-i in
    record { row = row_in _ _ _ l.i l.invariant.0 (omega (arith, l.invariant.1, c.loop-i-test.true)); each_label = l.invariant.1 }

pub returns-then-not-is_apart_before : goal.returns-then-not-is_apart_before
returns-then-not-is_apart_before c =
    let l = c.loop-i in
    let r = c.is_apart_before in
    let even = even_lists _ _ _ l.invariant.0 in
    let said = plan_said _ _ _ (not_apart _ _ even.0 even.1 l.invariant.1 l.i (omega (arith, l.invariant.1, c.loop-i-test.true)) r.result r.ensures c.if-not-is_apart_before.true) in
    record { computed = said.0; meaning = said.1 }

pub loop-i-preserved : goal.loop-i-preserved
loop-i-preserved c =
    let l = c.loop-i in
    let g = c.args in
    let told = c.is_allowed.ensures ∙ ap (λ x. is_allowed g.table.setting x (at g.labels.now l.i)) c.row.ensures in
    let s = c.is_apart_before in
    (l.invariant.0, l.invariant.1, every_more _ l.i l.invariant.2 (fit_row _ _ l.i c.is_allowed.result s.result told c.if-not-is_allowed.false s.ensures c.if-not-is_apart_before.false))

pub returns : goal.returns
returns c =
    let l = c.loop-i in
    let even = even_lists _ _ _ l.invariant.0 in
    let all : l.i ≡ length c.args.labels.now = omega (arith, c.loop-i-test.false, l.auto.i-end) in
    let said = plan_said _ _ _ (sym (even_plan _ _ even.0 even.1 l.invariant.1 ∙ rw (← l.invariant.1, ← all) l.invariant.2)) in
    record { computed = said.0; meaning = said.1 }

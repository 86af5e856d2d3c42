-- `candidates::try_row` meets its contract: the row is checked as it is lent, and then counted for as one that must be
-- heard.
use Rattle.std.proofs.Common.{sym, ap, ◌∙◌}
use Rattle.std.specs.Prelude.{Option, Some, ok_or}
use Rattle.refusals.specs.declared.Refusal.TheVariants.{NoPlan}
use Rattle.table.specs.Tables.{lent}
use Rattle.table.specs.Planned.{best_plan}
use Rattle.table.specs.Changes.{with_row}
use Rattle.window.specs.declared.Row.{Row}
use Rattle.best_plan.specs.Rows.{count_of}
use Rattle.best_plan.proofs.Rows.{more_valid}
use Rattle.planner.proofs.Answering.{passed}
use Rattle.candidates.specs.Lent.{told}
use Rattle.candidates.proofs.Trying.{tried_refused, tried_counted, addable, told_few}
use Rattle.candidates.proofs.try_row.Goals as goal

pub returns-in_err-check_row-clause-value : goal.returns-in_err-check_row-clause-value
returns-in_err-check_row-clause-value c = tried_refused (lent c.args.table) c.args.row c.requires.passed.looked c.requires.below (sym c.in_err-check_row.was ∙ c.check_row.ensures) _ c.from_residual.ensures.1

pub count_checked-requires : goal.count_checked-requires
count_checked-requires c =
    let longer = addable (lent c.args.table) _ c.requires c.args.row (passed c.check_row.ensures c.in_ok-check_row.was) in
    record { valid = rw c.must_row.ensures longer; room = c.requires.passed.lent.room }

pub returns-clause-value : goal.returns-clause-value
returns-clause-value c =
    let t = lent c.args.table in
    let best = c.count_checked.ensures.value ∙ ap (λ (r : Row). count_of (best_plan (with_row t r))) c.must_row.ensures in
    ap told (c.ok_or.ensures.value ∙ ap (λ (o : Option _). ok_or o NoPlan) best)
    ∙ sym (tried_counted t c.args.row c.requires.passed.looked c.requires.below (passed c.check_row.ensures c.in_ok-check_row.was))

pub returns-clause-few : goal.returns-clause-few
returns-clause-few c =
    let longer = addable (lent c.args.table) _ c.requires c.args.row (passed c.check_row.ensures c.in_ok-check_row.was) in
    told_few _ (more_valid (lent c.args.table) (Some c.must_row.result) (rw c.must_row.ensures longer)) c.count_checked.ensures.value c.ok_or.ensures.value

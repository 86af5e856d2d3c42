-- `candidates::try_table` meets its contract: each way through the checks and the planning of the table is a way to
-- compute `table_visit`.
use Rattle.std.proofs.Common.{refl, sym, ap, ◌∙◌, arith}
use Rattle.table.specs.declared.Looked.{Looked}
use Rattle.refusals.specs.Refusals.{Accepted, NoPlan}
use Rattle.table.specs.Tables.{lent}
use Rattle.table.proofs.Checked.{table_passed, table_looked_rows}
use Rattle.best_plan.proofs.Clearing.{space_cleared}
use Rattle.candidates.specs.Tried.{offered}
use Rattle.candidates.proofs.Answering.{checks_passed, stopped, no_plan_given, all_given}
use Rattle.candidates.proofs.Visiting.{read_most}
use Rattle.candidates.proofs.try_table.Goals as goal

pub returns-then-is_err : goal.returns-then-is_err
returns-then-is_err c =
    stopped _ (offered c.args.candidates) _ _ _ c.requires.table_lent c.check_table-looked.ensures (sym c.is_err.ensures.value ∙ c.if-is_err.true)

pub count_checked-best-requires : goal.count_checked-best-requires
count_checked-best-requires c =
    let p = c.requires.table_lent in
    let passed = checks_passed (lent c.args.table) c.check_table-looked.ensures (sym c.is_err.ensures.value ∙ c.if-is_err.false) in
    record { valid = table_passed _ passed p.few; room = p.room }

pub returns-then-is_none : goal.returns-then-is_none
returns-then-is_none c =
    let best = c.count_checked-best in
    let space = space_cleared c.args.space.now best.new.space best.ensures.space_unchanged NoPlan refl c.clear_space.ensures in
    no_plan_given _ (offered c.args.candidates) _ _ _ c.requires.table_lent c.check_table-looked.ensures (sym c.is_err.ensures.value ∙ c.if-is_err.false) best.ensures.value c.is_none.ensures c.if-is_none.true space

pub answer_rows-read-requires-clause-table_passed : goal.answer_rows-read-requires-clause-table_passed
answer_rows-read-requires-clause-table_passed c =
    let p = c.requires.table_lent in
    let passed = checks_passed (lent c.args.table) c.check_table-looked.ensures (sym c.is_err.ensures.value ∙ c.if-is_err.false) in
    record { lent = record { few = p.few; each_end = p.each_end; each_mark = p.each_mark; room = omega (arith, p.room, c.count_checked-best.auto.space) }; looked = passed }

pub overflow_add-result : goal.overflow_add-result
overflow_add-result c =
    let t = lent c.args.table in
    let e = c.check_table-looked.ensures in
    let passed = checks_passed t e (sym c.is_err.ensures.value ∙ c.if-is_err.false) in
    omega (arith, c.requires.table_lent.few, c.requires.candidates_lent.few, ap (λ (x : Looked). x.rows) e, table_looked_rows t passed, c.answer_rows-read.ensures.value, read_most t (offered c.args.candidates))

pub returns : goal.returns
returns c =
    let best = c.count_checked-best in
    let read = c.answer_rows-read in
    let space = space_cleared c.args.space.now read.new.space (read.ensures.space_unchanged ∙ best.ensures.space_unchanged) Accepted refl c.clear_space-2.ensures in
    all_given _ (offered c.args.candidates) _ _ _ c.requires.table_lent c.check_table-looked.ensures (sym c.is_err.ensures.value ∙ c.if-is_err.false) best.ensures.value c.is_none.ensures c.if-is_none.false
    read.ensures.value read.ensures.numbers_after read.ensures.counts_after space

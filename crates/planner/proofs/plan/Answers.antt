-- `planner::plan` meets its contract: a refused call touches nothing, and the plan of a checked table is what
-- `plan_call` yields.
use Rattle.std.proofs.Common.{sym, ◌∙◌, arith}
use Rattle.table.specs.Tables.{lent}
use Rattle.planner.proofs.Answering.{passed, refused_said, room, ready, answer_said}
use Rattle.planner.proofs.plan.Goals as goal

pub returns-in_err-check_call : goal.returns-in_err-check_call
returns-in_err-check_call c =
    let said = refused_said (lent c.args.table) c.args.labels.now c.args.space.now _ c.from_residual.ensures.1 (sym c.in_err-check_call.was ∙ c.check_call.ensures) in
    record { planned = said.0; best = said.1 }

pub plan_checked-answer-requires : goal.plan_checked-answer-requires
plan_checked-answer-requires c = ready _ _ _ (passed c.check_call.ensures c.in_ok-check_call.was)

pub clear_space-requires : goal.clear_space-requires
clear_space-requires c =
    omega (arith, room (lent c.args.table) c.args.labels.now c.args.space.now (passed c.check_call.ensures c.in_ok-check_call.was), c.plan_checked-answer.auto.space)

pub returns : goal.returns
returns c =
    let p = c.plan_checked-answer in
    let said = answer_said (lent c.args.table) _ _ (passed c.check_call.ensures c.in_ok-check_call.was) _ _ p.new.space _ p.ensures.labels_after p.ensures.space_unchanged c.clear_space.ensures in
    record { planned = said.0; best = said.1 }

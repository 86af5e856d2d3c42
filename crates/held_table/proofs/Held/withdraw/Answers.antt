-- `held_table::Held::withdraw` meets its contract: the first checks, then the shorter table is planned.
use Rattle.std.proofs.Common.{sym, ◌∙◌, rules}
use Rattle.planner.proofs.Answering.{passed}
use Rattle.held_table.specs.Held.{held}
use Rattle.held_table.proofs.Laws.{withdraw_said}
use Rattle.held_table.proofs.Answering.{row_held, withdraw_refused, withdraw_planned}
use Rattle.held_table.proofs.Held.withdraw.Goals as goal

pub returns-in_err-check_withdraw : goal.returns-in_err-check_withdraw
returns-in_err-check_withdraw c =
    let h = held c.args.self.now c.args.labels.now in
    let said = withdraw_said h c.args.space.now c.args.k (withdraw_refused h c.args.space.now c.args.k (sym c.in_err-check_withdraw.was ∙ c.check_withdraw.ensures) _ c.from_residual.ensures.1) in
    record { same = search rules; withdrawn = said.0; changed = said.1 }

pub withdraw_row-requires : goal.withdraw_row-requires
withdraw_row-requires c = row_held _ _ _ (passed c.check_withdraw.ensures c.in_ok-check_withdraw.was)

pub returns : goal.returns
returns c =
    let h = held c.args.self.now c.args.labels.now in
    let said = withdraw_said h c.args.space.now c.args.k (withdraw_planned h c.args.space.now c.args.k (passed c.check_withdraw.ensures c.in_ok-check_withdraw.was) c.withdraw_row.ensures.planned) in
    record { same = c.withdraw_row.ensures.same; withdrawn = said.0; changed = said.1 }

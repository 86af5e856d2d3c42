-- `held_table::Held::add` meets its contract: the first checks, then the longer table is planned.
use Rattle.std.proofs.Common.{sym, ◌∙◌, rules}
use Rattle.planner.proofs.Answering.{passed}
use Rattle.held_table.specs.Held.{held}
use Rattle.held_table.proofs.Laws.{add_said}
use Rattle.held_table.proofs.Answering.{room_for, add_refused, add_planned}
use Rattle.held_table.proofs.Held.add.Goals as goal

pub returns-in_err-check_add : goal.returns-in_err-check_add
returns-in_err-check_add c =
    let h = held c.args.self.now c.args.labels.now in
    let said = add_said h c.args.space.now c.args.row (add_refused h c.args.space.now c.args.row (sym c.in_err-check_add.was ∙ c.check_add.ensures) _ c.from_residual.ensures.1) in
    record { same = search rules; added = said.0; changed = said.1 }

pub add_row-requires : goal.add_row-requires
add_row-requires c = room_for _ (passed c.check_add.ensures c.in_ok-check_add.was)

pub returns : goal.returns
returns c =
    let h = held c.args.self.now c.args.labels.now in
    let said = add_said h c.args.space.now c.args.row (add_planned h c.args.space.now c.args.row (passed c.check_add.ensures c.in_ok-check_add.was) c.add_row.ensures.planned) in
    record { same = c.add_row.ensures.same; added = said.0; changed = said.1 }

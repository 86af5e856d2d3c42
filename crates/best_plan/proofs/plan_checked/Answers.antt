-- `best_plan::plan_checked` meets its contract: the core answers for the arcs and permissions of the rows.
use Rattle.std.proofs.Common.{◌∙◌, sym, rules}
use Rattle.best_plan.proofs.Given.{none_given, one_given}
use Rattle.best_plan.proofs.Rows.{arcs_of, core_lent}
use Rattle.best_plan.proofs.plan_checked.Goals as goal

pub best_assignment-best-requires : goal.best_assignment-best-requires
best_assignment-best-requires c =
    let arcs = arcs_of _ c.len-n.ensures c.set_arcs.ensures (search rules) (search rules) (search rules) in
    core_lent _ c.requires.valid arcs c.circle_of-circle.ensures c.requires.room

pub returns-in_default-clause-labels_after : goal.returns-in_default-clause-labels_after
returns-in_default-clause-labels_after c =
    let arcs = arcs_of _ c.len-n.ensures c.set_arcs.ensures (search rules) (search rules) (search rules) in
    none_given _ c.requires.valid _ arcs (rw c.circle_of-circle.ensures at c.best_assignment-best.ensures.0) (sym c.count_in.ensures ∙ c.in_default.is)

pub returns-clause-labels_after : goal.returns-clause-labels_after
returns-clause-labels_after c =
    let arcs = arcs_of _ c.len-n.ensures c.set_arcs.ensures (search rules) (search rules) (search rules) in
    one_given _ c.requires.valid _ arcs (rw c.circle_of-circle.ensures at c.best_assignment-best.ensures.0) _ (sym c.count_in.ensures ∙ c.in-Some.is) _ c.set_labels.ensures

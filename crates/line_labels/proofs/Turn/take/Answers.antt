-- `take`: a label that leads to the cell is found, and the cell marked.
use mathlib.Core.Path.{◌∙◌, ap}
use native.Mathlib.Omega.{arith}
use Rattle.labels.specs.Permission.{join}
use Rattle.line_labels.proofs.Marking.{mark_more, mark_taken}
use Rattle.line_labels.proofs.Turn.take.Goals as goal

pub overflow_add-space : goal.overflow_add-space
overflow_add-space c = let l = c.leads.ensures.0 c.if-leads.true in omega (arith, l.value)

pub returns-then-leads-clause-more : goal.returns-then-leads-clause-more
returns-then-leads-clause-more c =
    mark_more c.requires.cells (c.leads.ensures.0 c.if-leads.true) (c.joined.ensures ∙ ap (λ q. join c.args.reached.labels q) c.only_label.ensures) (omega arith)

pub returns-then-leads-clause-taken : goal.returns-then-leads-clause-taken
returns-then-leads-clause-taken c =
    λ l. mark_taken c.args.reached c.requires.label c.requires.cells l (c.joined.ensures ∙ ap (λ q. join c.args.reached.labels q) c.only_label.ensures) (omega arith)

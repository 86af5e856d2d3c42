-- `plan_reader::PlanReader` gives the item that stands at its position, and goes on after it.
use Rattle.std.proofs.Common.{rules, refl, ap, ◌+◌, ◌∙◌, arith, length}
use Rattle.std.proofs.lemmas.List.{length-drop}
use Rattle.plan_reader.specs.Items.{after_item, item_bytes}
use Rattle.plan_reader.proofs.Items.{item_fits, item_stands, item_count}
use Rattle.plan_reader.proofs.PlanReaderIterator.next.Goals as goal

pub overflow_sub-self : goal.overflow_sub-self
overflow_sub-self c = item_fits c.left-left.result.now (search rules)

pub overflow_add-self : goal.overflow_add-self
overflow_add-self c = omega (arith, ap length c.left-left.ensures, length-drop c.args.self.now.at c.args.self.now.tape.now)

pub returns-clause-steps : goal.returns-clause-steps
returns-clause-steps c =
    let at = c.args.self.now.at in (
      search rules,
      item_stands c.left-left.result.now (search rules) c.args.self.now.tape.now at c.left-left.ensures ∙ ap after_item c.left-left.ensures,
      refl,
      ap (λ k. at + k) (item_count c.left-left.result.now (search rules) ∙ ap item_bytes (search rules)),
    )

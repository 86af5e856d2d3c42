-- `plan_reader::judged::is_receiver` meets its contract: the item tells whether the RECEIVER stands there.
use Rattle.std.proofs.Common.{ap, ◌∙◌, Some}
use Rattle.std.specs.Option.{option_eq}
use Rattle.plan_reader.specs.declared.Item.TheVariants as item
use Rattle.plan_reader.specs.contracts.ItemPartialEq.TheImpl as ItemEq
use Rattle.plan_reader.specs.Items.{left}
use Rattle.plan_reader.proofs.Begun.{is_receiver_item}
use Rattle.plan_reader.proofs.judged.is_receiver.Goals as goal

pub returns-clause-stands : goal.returns-clause-stands
returns-clause-stands c =
    c.eq.ensures
    ∙ ap (λ x. option_eq ItemEq.eq-value.it x (Some (item.Receiver c.args.number))) c.next.ensures.steps.0
    ∙ is_receiver_item (left c.args.reader.now) c.args.number

-- `plan_reader::judged::is_plan_tape` meets its contract: the items that it takes are those of the tape's parts, and
-- each test is a clause of `is_plan_tape`. What that means is `taken_iff`.
use Rattle.std.proofs.Common.{refl, sym, ap, ◌∙◌, arith}
use borrow.Enum.Refused.{opened}
use Rattle.tape.specs.Commands.{stop_last}
use Rattle.plan_reader.specs.Items.{item_of, after_item, left}
use Rattle.plan_reader.proofs.Items.{all_left, not_head}
use Rattle.plan_reader.proofs.Begun.{head_taken, no_head, part_taken, tested}
use Rattle.plan_reader.proofs.Taken.{taken_said}
use Rattle.plan_reader.proofs.judged.is_plan_tape.Goals as goal

pub returns-in_default : goal.returns-in_default
returns-in_default c =
    let s = c.args.tape.now in
    let start = all_left c.new-reader.ensures in
    let none = no_head s (λ head e. not_head (opened c.in_default.in_default-own.keys2) head (cc (ap item_of start))) in
    let said = taken_said s (λ i. omega (arith, c.type_inv.tape i)) (sym (tested s none refl refl refl refl refl refl refl refl refl refl)) in
    record { computed = said.0; meaning = said.1 }

pub returns-in_default-2 : goal.returns-in_default-2
returns-in_default-2 c =
    let s = c.args.tape.now in
    let start = all_left c.new-reader.ensures in
    let none = no_head s (λ head e. cc (c.next.ensures.steps.0 ∙ ap item_of start)) in
    let said = taken_said s (λ i. omega (arith, c.type_inv.tape i)) (sym (tested s none refl refl refl refl refl refl refl refl refl refl)) in
    record { computed = said.0; meaning = said.1 }

pub returns-then-not-is_receiver : goal.returns-then-not-is_receiver
returns-then-not-is_receiver c =
    let s = c.args.tape.now in
    let start = all_left c.new-reader.ensures in
    let h = head_taken s c.in-Some-Head.head (cc (ap item_of start)) in
    let one = sym (c.next.ensures.steps.1 ∙ ap after_item start ∙ h.rest_is) in
    let none = sym c.is_receiver.ensures.stands ∙ c.if-not-is_receiver.true in
    let said = taken_said s (λ i. omega (arith, c.type_inv.tape i)) (sym (tested s h.begun refl refl one none refl refl refl refl refl refl)) in
    record { computed = said.0; meaning = said.1 }

pub returns-then-not-is_receiver-2 : goal.returns-then-not-is_receiver-2
returns-then-not-is_receiver-2 c =
    let s = c.args.tape.now in
    let start = all_left c.new-reader.ensures in
    let h = head_taken s c.in-Some-Head.head (cc (ap item_of start)) in
    let one = sym (c.next.ensures.steps.1 ∙ ap after_item start ∙ h.rest_is) in
    let stands = sym c.is_receiver.ensures.stands ∙ c.if-not-is_receiver.false in
    let first = part_taken (left c.next.new.self) 1 stands c.is_receiver.ensures.rest c.take_listens-first.ensures.these c.take_listens-first.ensures.rest in
    let none = sym c.is_receiver-2.ensures.stands ∙ c.if-not-is_receiver-2.true in
    let said = taken_said s (λ i. omega (arith, c.type_inv.tape i)) (sym (tested s h.begun refl refl one stands refl first.1 none refl refl refl)) in
    record { computed = said.0; meaning = said.1 }

pub returns-then-not-is_stop : goal.returns-then-not-is_stop
returns-then-not-is_stop c =
    let s = c.args.tape.now in
    let start = all_left c.new-reader.ensures in
    let h = head_taken s c.in-Some-Head.head (cc (ap item_of start)) in
    let one = sym (c.next.ensures.steps.1 ∙ ap after_item start ∙ h.rest_is) in
    let stands = sym c.is_receiver.ensures.stands ∙ c.if-not-is_receiver.false in
    let first = part_taken (left c.next.new.self) 1 stands c.is_receiver.ensures.rest c.take_listens-first.ensures.these c.take_listens-first.ensures.rest in
    let stands-2 = sym c.is_receiver-2.ensures.stands ∙ c.if-not-is_receiver-2.false in
    let second = part_taken (left c.take_listens-first.new.reader) 2 stands-2 c.is_receiver-2.ensures.rest c.take_listens-second.ensures.these c.take_listens-second.ensures.rest in
    let none = sym (c.is_stop.ensures ∙ ap stop_last c.left.ensures) ∙ c.if-not-is_stop.true in
    let said = taken_said s (λ i. omega (arith, c.type_inv.tape i)) (sym (tested s h.begun refl refl one stands refl first.1 stands-2 refl second.1 none)) in
    record { computed = said.0; meaning = said.1 }

pub returns : goal.returns
returns c =
    let s = c.args.tape.now in
    let start = all_left c.new-reader.ensures in
    let h = head_taken s c.in-Some-Head.head (cc (ap item_of start)) in
    let one = sym (c.next.ensures.steps.1 ∙ ap after_item start ∙ h.rest_is) in
    let stands = sym c.is_receiver.ensures.stands ∙ c.if-not-is_receiver.false in
    let first = part_taken (left c.next.new.self) 1 stands c.is_receiver.ensures.rest c.take_listens-first.ensures.these c.take_listens-first.ensures.rest in
    let stands-2 = sym c.is_receiver-2.ensures.stands ∙ c.if-not-is_receiver-2.false in
    let second = part_taken (left c.take_listens-first.new.reader) 2 stands-2 c.is_receiver-2.ensures.rest c.take_listens-second.ensures.these c.take_listens-second.ensures.rest in
    let stop = sym (c.is_stop.ensures ∙ ap stop_last c.left.ensures) ∙ c.if-not-is_stop.false in
    let said = taken_said s (λ i. omega (arith, c.type_inv.tape i)) (c.are_parts.ensures ∙ sym (tested s h.begun h.kind_is h.ticks_is one stands first.0 first.1 stands-2 second.0 second.1 stop)) in
    record { computed = said.0; meaning = said.1 }

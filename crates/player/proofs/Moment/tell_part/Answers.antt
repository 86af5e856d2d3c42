-- `player::Moment::tell_part` meets its contract: the first item tells whether a receiver's LISTENs follow.
use Rattle.std.proofs.Common.{refl, sym, ap, ◌∙◌}
use borrow.Enum.Refused.{opened}
use Rattle.plan_tape.specs.Stated.{listens_in, after_listens}
use Rattle.plan_reader.specs.Items.{left}
use Rattle.plan_reader.proofs.Items.{not_receiver}
use Rattle.plan_reader.proofs.Begun.{receiver_begins, no_receiver, under}
use Rattle.player.specs.declared.Receiver.TheVariants.{Idle}
use Rattle.player.specs.Told.{telling}
use Rattle.player.proofs.Moment.tell_part.Goals as goal

pub returns-in_default : goal.returns-in_default
unfolding telling
returns-in_default c =
    let n = no_receiver (left c.args.reader.now) (λ number e. not_receiver (opened c.in_default.in_default-own.keys2) number (cc)) in
    record { told = rw n.0 refl; rest = sym n.1 }

pub returns-in_default-2 : goal.returns-in_default-2
unfolding telling
returns-in_default-2 c =
    let n = no_receiver (left c.args.reader.now) (λ number e. cc) in
    record { told = rw n.0 refl; rest = sym n.1 }

pub returns : goal.returns
returns c =
    let a = c.args.self in
    let s = left c.args.reader.now in
    let u = under s (receiver_begins s c.in-Some-Receiver.field-0-0 (cc)) in
    record {
      told = c.tell_listens-receiver.ensures.told ∙ ap (λ l. telling a.head.kind a.head.ticks a.tick Idle (listens_in l)) c.next.ensures.steps.1 ∙ ap (telling a.head.kind a.head.ticks a.tick Idle) (sym u.0);
      rest = c.tell_listens-receiver.ensures.rest ∙ ap after_listens c.next.ensures.steps.1 ∙ sym u.1;
    }

-- `player::Player::step` meets its contract: the head of the tape and one test tell whether the player moves.
use Rattle.std.proofs.Common.{ap, ◌∙◌}
use borrow.Enum.Refused.{opened}
use Rattle.plan_reader.specs.Items.{item_of, after_item}
use Rattle.plan_reader.proofs.Items.{all_left, not_head}
use Rattle.plan_reader.proofs.Begun.{head_taken, no_head}
use Rattle.player.proofs.Steps.{step_headless, step_rests, step_moves}
use Rattle.player.proofs.Player.step.Goals.{in_default-via-in-Some+in_default, in_default-via-in_default}
use Rattle.player.proofs.Player.step.Goals as goal

pub returns-in_default : goal.returns-in_default
returns-in_default c =
    let s = c.args.tape.now in
    let start = all_left c.new-reader.ensures in
    let first = c.next.ensures.steps.0 ∙ ap item_of start in
    let headless = no_head s (elim c.in_default.branch [
      | in_default-via-in-Some+in_default w ↦ λ head e. not_head (opened w.in_default.in-Receiver-own.keys2) head (cc first)
      | in_default-via-in_default w ↦ λ head e. cc first
    ]) in
    c.rest.ensures ∙ step_headless s c.args.self headless

pub returns-then-head-self : goal.returns-then-head-self
returns-then-head-self c =
    let s = c.args.tape.now in
    let start = all_left c.new-reader.ensures in
    let h = head_taken s c.in-Some-Head.head (cc (ap item_of start)) in
    c.rest-then-head-self.ensures ∙ step_rests s c.args.self h.ticks_is c.if-head-self.true

pub returns : goal.returns
returns c =
    let s = c.args.tape.now in
    let start = all_left c.new-reader.ensures in
    let h = head_taken s c.in-Some-Head.head (cc (ap item_of start)) in
    step_moves s c.args.self h.kind_is h.ticks_is (c.next.ensures.steps.1 ∙ ap after_item start ∙ h.rest_is) c.if-head-self.false c.tell_both.ensures c.next_tick.ensures

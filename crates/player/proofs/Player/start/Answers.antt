-- `player::Player::start` meets its contract: the two checks in their order, and what they give is as promised.
use Rattle.std.proofs.Common.{refl, sym, ◌∙◌, arith}
use borrow.Author.Tests.{lt-ltb, le-ltb}
use Rattle.refusals.specs.Refusals.{Accepted, Tape, FirstTick}
use Rattle.player.specs.Played.{player_at, finished_tick, start_refusal, starting, started}
use Rattle.player.proofs.Starting.{start_said}
use Rattle.player.proofs.Player.start.Goals as goal

pub returns-then-not-is_plan_tape : goal.returns-then-not-is_plan_tape
unfolding started start_refusal
returns-then-not-is_plan_tape c =
    let a = c.args in
    let said = start_said a.tape.now (λ i. omega (arith, c.type_inv.tape i)) a.first {out = starting Tape (player_at finished_tick)}
    (rw (sym c.is_plan_tape.ensures.computed ∙ c.if-not-is_plan_tape.true) refl) in
    record { started = said.0; starts = said.1 }

pub returns-then-ticks_of-first : goal.returns-then-ticks_of-first
unfolding started start_refusal
returns-then-ticks_of-first c =
    let a = c.args in
    let said = start_said a.tape.now (λ i. omega (arith, c.type_inv.tape i)) a.first {out = starting FirstTick (player_at finished_tick)}
    (rw (
      sym c.is_plan_tape.ensures.computed ∙ c.if-not-is_plan_tape.false,
      ← c.ticks_of.ensures,
      le-ltb _ _ c.if-ticks_of-first.true,
    ) refl) in
    record { started = said.0; starts = said.1 }

pub returns : goal.returns
unfolding started start_refusal
returns c =
    let a = c.args in
    let said = start_said a.tape.now (λ i. omega (arith, c.type_inv.tape i)) a.first {out = starting Accepted (player_at a.first)}
    (rw (
      sym c.is_plan_tape.ensures.computed ∙ c.if-not-is_plan_tape.false,
      ← c.ticks_of.ensures,
      lt-ltb _ _ c.if-ticks_of-first.false,
    ) refl) in
    record { started = said.0; starts = said.1 }

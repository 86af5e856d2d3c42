-- The right answer of a start is as promised: which tapes and first ticks are accepted, that an accepted player
-- follows its tape, and that the player beside a refusal is finished.
use Prim.Native.Nat.{ℕ, ◌≤◌, ◌<◌}
use mathlib.Core.Path.{◌≡◌, refl, sym, ap, ◌∙◌}
use mathlib.Core.Logic.{◌↔◌}
use mathlib.Core.Bool.{Bool, true, false, cond, ◌||◌, false≢true}
use mathlib.Core.List.{List}
use native.Mathlib.Omega.{arith}
use borrow.Author.Tests.{ltb-true, ltb-false}
use lib.Dec.{ltb}
use lib.ListN.{get_or}
use Rattle.refusals.specs.Refusals.{number_of, asked, passes, ◌then◌, Accepted, Tape, FirstTick, Outcome}
use Rattle.tape.specs.Commands.{ROUND, RUN, begins}
use Rattle.tape.specs.Words.{joined, Bytes}
use Rattle.tape.proofs.Joined.{joined_16}
use Rattle.plan_tape.specs.Stated.{ticks_at, stated}
use Rattle.plan_reader.specs.Judged.{is_plan_tape}
use Rattle.plan_reader.specs.Taken.{WriterMakes}
use Rattle.plan_reader.proofs.Parts.{plan_tape_iff}
use Rattle.plan_reader.proofs.Taken.{taken_iff}
use Rattle.player.specs.Played.{player_at, start_refusal, finished_tick, Started, starting, started}
use Rattle.player.specs.Follows.{IsFinished, StartsPlayer}
use Rattle.player.proofs.Steps.{step_rests}
use Rattle.player.proofs.Following.{follows}

-- R has 16 bits, so that the finished tick is below no R
ticks_most : (tape : List ℕ) → Bytes tape → ticks_at tape ≤ finished_tick
unfolding ticks_at
ticks_most tape h = go (begins ROUND tape || begins RUN tape)
  where
    go : (b : Bool) → cond b (joined (get_or tape 1 0) (get_or tape 2 0)) 0 ≤ finished_tick
    go true = omega (arith, joined_16 (get_or tape 1 0) (get_or tape 2 0) (h 1) (h 2))
    go false = omega arith

pub finished_rests : IsFinished (player_at finished_tick)
finished_rests other h = sym (step_rests other (player_at finished_tick) refl (ticks_most other h))

module _ (tape : List ℕ) (h : Bytes tape) (first : ℕ) where
  -- a start whose checks give this refusal
  yields : Outcome → Started
  yields r = cond (passes r) (starting Accepted (player_at first)) (starting r (player_at finished_tick))

  pub starts_player : StartsPlayer tape first (started tape first)
  unfolding started start_refusal stated
  starts_player = go (is_plan_tape tape) (ltb first (ticks_at tape)) refl refl
    where
      taken : (is_plan_tape tape ≡ true) ↔ WriterMakes tape
      taken = taken_iff tape h

      go : (p q : Bool) → is_plan_tape tape ≡ p → ltb first (ticks_at tape) ≡ q → StartsPlayer tape first (started tape first)
      go true true e f =
          let below : first < ticks_at tape = ltb-true first (ticks_at tape) f in
          rw (e, f) (record {
            tape_refused = (λ x. absurd (omega (arith, ap number_of x)), λ n. absurd (n (taken.0 e)));
            tick_refused = (λ x. absurd (omega (arith, ap number_of x)), λ y. absurd (omega (arith, y.1, below)));
            accepted = (λ _. (taken.0 e, below), λ _. refl);
            follows = λ _. follows tape ((plan_tape_iff tape).0 e).1 first below;
            finished = λ n. absurd (n refl);
          })
      go true false e f =
          let past : ticks_at tape ≤ first = ltb-false first (ticks_at tape) f in
          rw (e, f) (record {
            tape_refused = (λ x. absurd (omega (arith, ap number_of x)), λ n. absurd (n (taken.0 e)));
            tick_refused = (λ _. (taken.0 e, past), λ _. refl);
            accepted = (λ x. absurd (omega (arith, ap number_of x)), λ y. absurd (omega (arith, y.1, past)));
            follows = λ x. absurd (omega (arith, ap number_of x));
            finished = λ _. finished_rests;
          })
      go false q e f =
          let none : WriterMakes tape → ⊥ = λ m. false≢true (sym e ∙ taken.1 m) in
          rw e (record {
            tape_refused = (λ _. none, λ _. refl);
            tick_refused = (λ x. absurd (omega (arith, ap number_of x)), λ y. absurd (none y.0));
            accepted = (λ x. absurd (omega (arith, ap number_of x)), λ y. absurd (none y.0));
            follows = λ x. absurd (omega (arith, ap number_of x));
            finished = λ _. finished_rests;
          })

-- what a start promises, from what it computes
pub start_said : (tape : List ℕ) → Bytes tape → (first : ℕ) {out : Started} → out ≡ started tape first → (out ≡ started tape first) × StartsPlayer tape first out
start_said tape h first e = (e, rw e (starts_player tape h first))

-- WHATEVER IS AS PROMISED refuses what a start refuses.
pub only_refusal : (tape : List ℕ) → Bytes tape → (first : ℕ) (out : Started) → StartsPlayer tape first out → out.refusal ≡ (started tape first).refusal
unfolding started start_refusal yields
only_refusal tape h first out d = go (is_plan_tape tape) (ltb first (ticks_at tape)) refl refl
  where
    taken : (is_plan_tape tape ≡ true) ↔ WriterMakes tape
    taken = taken_iff tape h

    go : (p q : Bool) → is_plan_tape tape ≡ p → ltb first (ticks_at tape) ≡ q → out.refusal ≡ (yields tape h first (asked p Tape then asked q FirstTick)).refusal
    go true true e f = d.accepted.1 (taken.0 e, ltb-true first (ticks_at tape) f)
    go true false e f = d.tick_refused.1 (taken.0 e, ltb-false first (ticks_at tape) f)
    go false q e f = d.tape_refused.1 (λ m. false≢true (sym e ∙ taken.1 m))

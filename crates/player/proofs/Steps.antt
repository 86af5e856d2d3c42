-- What a step is: finished, or told and moved on.
use Prim.Native.Nat.{ℕ, ◌≤◌, ◌<◌}
use mathlib.Core.Path.{◌≡◌, refl, sym, ◌∙◌}
use mathlib.Core.Bool.{false, ◌||◌}
use mathlib.Core.List.{List}
use native.Mathlib.Omega.{arith}
use borrow.Author.Tests.{lt-ltb, le-ltb}
use Rattle.window.specs.declared.Kind.{Kind}
use Rattle.window.specs.Windows.{next}
use Rattle.tape.specs.Commands.{ROUND, RUN, begins}
use Rattle.plan_tape.specs.Stated.{part_in, after_part, after_head, kind_in, ticks_at, stated}
use Rattle.player.specs.declared.Receiver.TheVariants.{Idle}
use Rattle.player.specs.declared.State.{State}
use Rattle.player.specs.declared.Player.{Player}
use Rattle.player.specs.Told.{telling}
use Rattle.player.specs.Played.{player_at, state_of, stepped_to, moving, told_at, resting, stepped}

module _ (tape : List ℕ) (player : Player) where
  pub step_rests : {R : ℕ} → ticks_at tape ≡ R → R ≤ player.tick → resting player ≡ stepped tape player
  unfolding stepped stated
  step_rests e h = rw (e, le-ltb _ _ h) refl

  pub step_headless : (begins ROUND tape || begins RUN tape) ≡ false → resting player ≡ stepped tape player
  unfolding ticks_at
  step_headless e = step_rests {R = 0} (rw e refl) (omega arith)

  pub step_tells : player.tick < ticks_at tape → stepped tape player ≡ moving (stated tape) player.tick
  unfolding stepped stated
  step_tells h = rw (lt-ltb _ _ h) refl

  pub step_moves : {rest : List ℕ} {kind : Kind} {R tick : ℕ} {state : State} → kind_in tape ≡ kind → ticks_at tape ≡ R → rest ≡ after_head tape → player.tick < R
      → state ≡ state_of false (telling kind R player.tick Idle (part_in rest)) (telling kind R player.tick Idle (part_in (after_part rest)))
      → tick ≡ next kind R player.tick
      → stepped_to state (player_at tick) ≡ stepped tape player
  unfolding moving told_at stated
  step_moves k t f h told moved =
      let now = player.tick in
      (λ i. stepped_to (told i) (player_at (moved i)))
      ∙ (λ i.
      stepped_to (state_of false (telling (sym k i) (sym t i) now Idle (part_in (f i))) (telling (sym k i) (sym t i) now Idle (part_in (after_part (f i)))))
      (player_at (next (sym k i) (sym t i) now)))
      ∙ sym (step_tells (omega (arith, t, h)))

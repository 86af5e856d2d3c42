-- The gap, for the core: a row's arc is its window and the gap after it. The core needs to know no more of it.
use Prim.Native.Nat.{ℕ, ◌+◌, ◌≤◌}
use mathlib.Core.Path.{◌≡◌}
use mathlib.Core.Bool.{Bool, cond}
use native.Mathlib.Omega.{arith}
use Rattle.basics.proofs.Tests.{Test, pass, fail, test}
use Rattle.window.specs.declared.Kind.TheVariants.{Run}
use Rattle.window.specs.declared.Row.{Row}
use Rattle.window.specs.Windows.{Window, ticks_in}
use Rattle.window.proofs.Meaning.{ticks_most, ticks_straight}
use Rattle.table.specs.declared.Setting.{Setting}
use Rattle.table.specs.Tables.{ValidSetting, ValidRow}
use Rattle.best_plan.specs.Rows.{circle_ticks, circle_of, cut_off, arc_of}
use Rattle.best_plan.proofs.Reach.{circle_least}

module _ (S : Setting) (row : Row) (v : ValidRow S row) where
  -- with a gap of 0 the arc has the ticks of the window
  pub no_gap_arc : S.gap ≡ 0 → (arc_of S row).length ≡ ticks_in S.kind S.ticks row.start row.end
  unfolding arc_of cut_off
  no_gap_arc e = rw e (go (test (n + 0) (circle_of S)))
    where
      n : ℕ
      n = ticks_in S.kind S.ticks row.start row.end

      go : {b : Bool} → Test (n + 0) (circle_of S) b → cond b (n + 0) (circle_of S) ≡ n
      go (pass h) = omega arith
      go (fail h) = absurd (omega (arith, circle_least S.kind S.ticks, ticks_most S.kind S.ticks row.start row.end v.window))

  -- in a run no arc comes to the end of the circle, so that the gap of the last window does not reach the first
  pub run_inside : ValidSetting S → S.kind ≡ Run → row.start + (arc_of S row).length ≤ circle_of S
  unfolding arc_of circle_ticks cut_off
  run_inside h e = rw e (go (test (n + S.gap) (circle_ticks Run S.ticks)))
    where
      w : Window Run S.ticks row.start row.end
      w = rw e at v.window

      n : ℕ
      n = ticks_in Run S.ticks row.start row.end

      go : {b : Bool} → Test (n + S.gap) (circle_ticks Run S.ticks) b → row.start + cond b (n + S.gap) (circle_ticks Run S.ticks) ≤ circle_ticks Run S.ticks
      go (pass l) = omega (arith, w.0, w.1, ticks_straight Run S.ticks row.start row.end w w.0, h.gap_most)
      go (fail l) = absurd (omega (arith, w.1, ticks_straight Run S.ticks row.start row.end w w.0, h.gap_most))

-- Beacons that send all day, for the core: the row is an arc of the whole circle, and such an arc meets every other.
-- The core needs to know no more of it.
use Prim.Native.Nat.{ℕ, ◌+◌, ◌-◌, ◌≤◌, ◌<◌}
use mathlib.Core.Path.{◌≡◌, refl}
use mathlib.Core.Bool.{Bool, cond}
use native.Mathlib.Nat.{le_refl, mod-lt}
use native.Mathlib.Omega.{arith}
use borrow.Author.Tests.{lt-ltb}
use Rattle.basics.proofs.Tests.{Test, pass, fail, test}
use Rattle.window.specs.declared.Kind.TheVariants.{Round}
use Rattle.window.specs.declared.Row.{Row}
use Rattle.window.specs.Ticks.{distance}
use Rattle.window.proofs.AllDay.{all_day_ticks}
use Rattle.arcs.specs.Arcs.{Meet}
use Rattle.arcs.proofs.Meets.{meets, meets_iff}
use Rattle.table.specs.declared.Setting.{Setting}
use Rattle.best_plan.specs.Rows.{circle_ticks, circle_of, cut_off, arc_of}

pub all_day_arc : (S : Setting) (row : Row) → S.kind ≡ Round → row.start ≡ row.end → (arc_of S row).length ≡ circle_of S
unfolding arc_of circle_ticks cut_off
all_day_arc S row k q = rw (k, ← q, all_day_ticks S.ticks row.start) (go (test (S.ticks + S.gap) S.ticks))
  where
    go : {b : Bool} → Test (S.ticks + S.gap) S.ticks b → cond b (S.ticks + S.gap) S.ticks ≡ S.ticks
    go (pass h) = omega arith
    go (fail h) = refl

-- every start lies fewer than C ticks after any other
pub whole_meets : (C s s' n : ℕ) → s < C → s' < C → 1 ≤ n → n ≤ C → Meet C s C s' n
unfolding meets distance
whole_meets C s s' n h h' some most =
    (meets_iff C s C s' n h h' (omega arith) (le_refl C) some most).0
    (rw (lt-ltb (distance C s s') C (mod-lt (s' + C - s) (omega arith))) refl)

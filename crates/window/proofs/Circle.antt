-- `distance` without the remainder: a difference where the tick is at or after the start, and once round the circle
-- where it is before.
use Prim.Native.Nat.{ℕ, ◌+◌, ◌-◌, ◌%◌, ◌≤◌, ◌<◌}
use mathlib.Core.Path.{◌≡◌, ◌∙◌, ap, sym}
use native.Mathlib.Omega.{arith}
use native.Mathlib.Nat.{mod-eq_of_lt, add-mod_right, sub-add_cancel}
use Rattle.window.specs.Ticks.{Ticks, distance}

-- a number from R to 2R - 1, modulo R
pub wrap : (R n : ℕ) → R ≤ n → n < R + R → n % R ≡ n - R
wrap R n h k = ap (λ m. m % R) (sym (sub-add_cancel h)) ∙ add-mod_right (n - R) R ∙ mod-eq_of_lt (omega arith)

module _ (R s t : ℕ) (h : Ticks R s t) where
  pub distance_after : s ≤ t → t - s ≡ distance R s t
  unfolding distance
  distance_after l = omega (arith, wrap R (t + R - s) (omega arith) (omega arith))

  pub distance_before : t < s → t + (R - s) ≡ distance R s t
  unfolding distance
  distance_before l = let e : (t + R - s) % R ≡ t + R - s = mod-eq_of_lt (omega arith) in omega arith

  -- no number on the way to it is R or more
  pub sum_below : t < s → t + (R - s) < R
  sum_below l = omega (arith, h.start_below)

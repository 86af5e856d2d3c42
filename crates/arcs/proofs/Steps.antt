-- `distance` by cases, so that all that follows is linear: a tick after the start is reached directly, a tick before it
-- past the end of the circle.
use Prim.Native.Nat.{ℕ, ◌+◌, ◌%◌, ◌<◌}
use mathlib.Core.Path.{◌≡◌, ◌∙◌}
use mathlib.Core.Bool.{Bool}
use native.Mathlib.Omega.{arith}
use native.Mathlib.Nat.{mod-eq_of_lt}
use Rattle.basics.proofs.Tests.{Test, pass, fail, test}
use Rattle.window.specs.Ticks.{Ticks, distance}
use Rattle.window.proofs.Circle.{wrap, distance_after, distance_before}

-- d steps from s on lead to t, directly or past the end of the circle
pub data Steps (C s t d : ℕ) : Type 0 where
  direct : s + d ≡ t → Steps C s t d
  round : s + d ≡ t + C → t < s → Steps C s t d

module _ {C s t : ℕ} (hs : s < C) (ht : t < C) where
  ticks : Ticks C s t
  ticks = record { start_below = hs; tick_below = ht }

  pub steps : Steps C s t (distance C s t)
  steps = go (test s t)
    where
      go : {b : Bool} → Test s t b → Steps C s t (distance C s t)
      go (pass h) = direct (omega (arith, distance_after C s t ticks h))
      go (fail h) = round (omega (arith, distance_before C s t ticks h)) h

  pub reaches : (s + distance C s t) % C ≡ t
  reaches = go steps
    where
      go : Steps C s t (distance C s t) → (s + distance C s t) % C ≡ t
      go (direct e) = mod-eq_of_lt (omega arith) ∙ e
      go (round e h) = omega (arith, wrap C (s + distance C s t) (omega arith) (omega arith))

  -- fewer than C steps that lead to t are its distance
  pub only_steps : (d : ℕ) → d < C → (s + d) % C ≡ t → d ≡ distance C s t
  only_steps d h e = go (test C (s + d)) steps
    where
      go : {b : Bool} → Test C (s + d) b → Steps C s t (distance C s t) → d ≡ distance C s t
      go (pass k) (direct f) = omega (arith, wrap C (s + d) k (omega arith))
      go (pass k) (round f l) = omega (arith, wrap C (s + d) k (omega arith))
      go (fail k) (direct f) = omega (arith, mod-eq_of_lt k)
      go (fail k) (round f l) = omega (arith, mod-eq_of_lt k)

-- How far a tick lies after a window's start: as many steps as lead there, and a number that is worked out without
-- division or remainder.
use Prim.Native.Nat.{ℕ, ◌+◌, ◌-◌, ◌%◌, ◌^◌, ◌≤◌, ◌<◌}
use mathlib.Core.Path.{◌≡◌, refl, ◌∙◌, sym}
use mathlib.Core.Bool.{Bool}
use mathlib.Core.List.{List, [], ◌∷◌, map}
use native.Mathlib.Omega.{arith}
use Rattle.basics.proofs.Tests.{Test, pass, fail, test}
use Rattle.window.specs.declared.Kind.TheVariants.{Round}
use Rattle.window.specs.Ticks.{max_ticks, Ticks, distance}
use Rattle.window.specs.Windows.{walk}
use Rattle.window.proofs.Circle.{distance_after, distance_before, sum_below}
use Rattle.window.proofs.Meaning.{walk_on, walk_past, walk_round}

-- ---- by walking

module _ (R s t : ℕ) (h : Ticks R s t) where
  -- so many steps lead from the start to the tick,
  pub distance_reached : walk Round R s (distance R s t) ≡ t
  distance_reached = go (test s t)
    where
      go : {b : Bool} → Test s t b → walk Round R s (distance R s t) ≡ t
      go (pass l) = rw (sym (distance_after R s t h l)) (walk_on R s (t - s) (omega (arith, h.tick_below)) ∙ omega arith)
      go (fail l) = rw (sym (distance_before R s t h l)) (walk_past R s t h.start_below h.tick_below)

  -- and no fewer do
  pub distance_fewest : (k : ℕ) → walk Round R s k ≡ t → distance R s t ≤ k
  distance_fewest k e = go (test s t) (test (R - s) k) (test (R - s + R) k)
    where
      go : {n p q : Bool} → Test s t n → Test (R - s) k p → Test (R - s + R) k q → distance R s t ≤ k
      go (pass l) (fail m) q = omega (arith, distance_after R s t h l, walk_on R s k (omega arith))
      go (pass l) (pass m) q = omega (arith, distance_after R s t h l, h.tick_below)
      go (fail l) (fail m) q = absurd (omega (arith, walk_on R s k (omega arith)))
      go (fail l) (pass m) (fail n) = omega (arith, distance_before R s t h l, walk_round R s k h.start_below m n)
      go (fail l) (pass m) (pass n) = omega (arith, distance_before R s t h l, sum_below R s t h l)

-- ---- without division or remainder

-- What `window::distance` works out of two ticks is their distance, and nothing on the way leaves 16 bits.
pub record IsDistance (R start tick : ℕ) : Type 0 where
  -- by a comparison and one subtraction, or a subtraction and an addition: the tick plus R less the start, modulo R
  pub after : start ≤ tick → tick - start ≡ (tick + R - start) % R
  pub before : tick < start → tick + (R - start) ≡ (tick + R - start) % R
  -- no number on the way is below 0 or leaves 16 bits
  pub start_fits : start ≤ R
  pub sum_fits : tick < start → tick + (R - start) < 2 ^ 16

-- of any two ticks of every round or run that there can be
pub is_the_distance : (R start tick : ℕ) → 2 ≤ R → R ≤ max_ticks → start < R → tick < R → IsDistance R start tick
unfolding distance
is_the_distance R s t l m hs ht =
    let h : Ticks R s t = record { start_below = hs; tick_below = ht } in
    record {
      after = distance_after R s t h;
      before = distance_before R s t h;
      start_fits = omega arith;
      sum_fits = λ b. omega (arith, sum_below R s t h b);
    }

-- ---- worked examples

-- the distance from each start on to its tick
abbrev distances : ℕ → List (ℕ × ℕ) → List ℕ
distances R = map (λ p. distance R p.0 p.1)

-- in the shortest round, all of them
shortest : distances 2 ((0, 0) ∷ (0, 1) ∷ (1, 0) ∷ (1, 1) ∷ []) ≡ 0 ∷ 1 ∷ 1 ∷ 0 ∷ []
unfolding distance
shortest = refl

-- in the longest: a tick and itself, the first and the last, the tick before the start, over the end of the day, and
-- two of which the tick plus R leaves 16 bits
longest : distances max_ticks ((0, 0) ∷ (43199, 43199) ∷ (0, 43199) ∷ (43199, 0) ∷ (1, 0) ∷ (43000, 400) ∷ (30000, 25000) ∷ (43199, 43198) ∷ [])
    ≡ 0 ∷ 0 ∷ 43199 ∷ 1 ∷ 43199 ∷ 600 ∷ 38200 ∷ 43199 ∷ []
unfolding distance
longest = refl

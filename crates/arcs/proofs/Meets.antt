-- The test `meets` says whether some tick lies in both arcs: where one does, one of the two arcs has the other's start.
use Prim.Native.Nat.{ℕ, ◌≤◌, ◌<◌}
use mathlib.Core.Path.{◌≡◌}
use mathlib.Core.Logic.Iff
use mathlib.Core.Logic.{◌↔◌, ◌⊎◌, inl, inr}
use mathlib.Core.Bool.{Bool, true, ◌||◌}
use native.Mathlib.Omega.{arith}
use lib.Dec.{ltb}
use Rattle.std.proofs.lemmas.Bool.Decides.{Decides-ltb}
use Rattle.basics.proofs.Tests.{Test, pass, fail, test, or_iff}
use Rattle.window.specs.Ticks.{distance}
use Rattle.arcs.specs.Arcs.{Covers, Meet}
use Rattle.arcs.proofs.Steps.{Steps, direct, round, steps, reaches, only_steps}

-- the plain test: one of the two arcs has the other's start
unfoldable pub meets : ℕ → ℕ → ℕ → ℕ → ℕ → Bool
meets C s n s' n' = ltb (distance C s s') n || ltb (distance C s' s) n'

-- an arc covers the ticks whose distance from its start is below its length
module _ {C s n t : ℕ} (hs : s < C) (ht : t < C) where
  covers_near : n ≤ C → Covers C s n t → distance C s t < n
  covers_near h v = omega (arith, only_steps hs ht v.steps (omega arith) v.reached)

  near_covers : distance C s t < n → Covers C s n t
  near_covers h = record { steps = distance C s t; short = h; reached = reaches hs ht }

covers_start : {C s n : ℕ} → s < C → 1 ≤ n → Covers C s n s
covers_start {C} {s} {n} hs h = near_covers hs hs (go (steps hs hs))
  where
    go : {d : ℕ} → Steps C s s d → d < n
    go (direct e) = omega arith
    go (round e l) = omega arith

-- of two starts before a tick, the nearer one lies between the other one and the tick
between : {C s s' t : ℕ} → s < C → s' < C → t < C → distance C s' t ≤ distance C s t → distance C s s' ≤ distance C s t
between {C} {s} {s'} {t} hs hs' ht = go (steps hs ht) (steps hs' ht) (steps hs hs')
  where
    go : {d d' e : ℕ} → Steps C s t d → Steps C s' t d' → Steps C s s' e → d' ≤ d → e ≤ d
    go (direct x) (direct y) (direct z) h = omega arith
    go (direct x) (direct y) (round z l) h = omega arith
    go (direct x) (round y k) (direct z) h = omega arith
    go (direct x) (round y k) (round z l) h = omega arith
    go (round x j) y (direct z) h = omega arith
    go (round x j) (direct y) (round z l) h = omega arith
    go (round x j) (round y k) (round z l) h = omega arith

module _ (C s n s' n' : ℕ) where
  -- `meets` as a statement
  pub meets_near : (meets C s n s' n' ≡ true) ↔ ((distance C s s' < n) ⊎ (distance C s' s < n'))
  unfolding meets
  meets_near = or_iff (Decides-ltb (distance C s s') n) (Decides-ltb (distance C s' s) n')

  module _ (hs : s < C) (hs' : s' < C) (some : 1 ≤ n) (whole : n ≤ C) (some' : 1 ≤ n') (whole' : n' ≤ C) where
    near_meet : (distance C s s' < n) ⊎ (distance C s' s < n') → Meet C s n s' n'
    near_meet (inl h) = record { tick = s'; below = hs'; in_first = near_covers hs hs' h; in_second = covers_start hs' some' }
    near_meet (inr h) = record { tick = s; below = hs; in_first = covers_start hs some; in_second = near_covers hs' hs h }

    meet_near : Meet C s n s' n' → (distance C s s' < n) ⊎ (distance C s' s < n')
    meet_near m = go (test (distance C s' t) (distance C s t))
      where
        t : ℕ
        t = m.tick

        near : distance C s t < n
        near = covers_near hs m.below whole m.in_first

        near' : distance C s' t < n'
        near' = covers_near hs' m.below whole' m.in_second

        go : {b : Bool} → Test (distance C s' t) (distance C s t) b → (distance C s s' < n) ⊎ (distance C s' s < n')
        go (pass h) = inl (omega (arith, between hs hs' m.below h, near))
        go (fail h) = inr (omega (arith, between hs' hs m.below (omega arith), near'))

    pub meets_iff : (meets C s n s' n' ≡ true) ↔ Meet C s n s' n'
    meets_iff = Iff.trans meets_near (near_meet, meet_near)

-- All-day windows and part-day windows. In a round a window whose end is its start covers every tick, has R of them and
-- overlaps every other window; no other window covers every tick, and a run has none of this kind. Of all other windows
-- the plain words of PartDay.antt hold.
use Prim.Native.Nat.{ℕ, zero, suc, ◌≤◌, ◌<◌}
use mathlib.Core.Path.{◌≡◌, refl, sym}
use mathlib.Core.Logic.{◌≢◌, ◌↔◌}
use mathlib.Core.Bool.{Bool, false, ◌&&◌, and-true}
use native.Mathlib.Omega.{arith}
use lib.Dec.{ltb}
use borrow.Author.Tests.{le-ltb, eq-eqb, ne_eqb}
use Rattle.basics.proofs.Tests.{Test, pass, fail, test}
use Rattle.window.specs.declared.Kind.{Kind}
use Rattle.window.specs.declared.Kind.TheVariants.{Round, Run}
use Rattle.window.specs.Windows.{walk, Covers, Overlap, Window, is_window, ticks_in}
use Rattle.window.proofs.PartDay.{CoversPartDay, OverlapPartDay, is_part_day_window}
use Rattle.window.proofs.Meaning.{In, plain, late, early, covers_in, in_covers, covers_iff, covers_start}

-- ---- an end at the start

module _ (R s : ℕ) (h : s < R) where
  -- in a round such a window covers every tick
  pub all_day_covers : (t : ℕ) → t < R → Covers Round R s s t
  all_day_covers t l = (covers_iff Round R s s (h, h) t l).0 (in_covers s s t (go (test s t)))
    where
      go : {b : Bool} → Test s t b → In s s t
      go (pass m) = late (omega arith) m
      go (fail m) = early (omega arith) m

  -- and overlaps every other window
  pub all_day_overlaps : (s' e' : ℕ) → Window Round R s' e' → Overlap Round R s s s' e'
  all_day_overlaps s' e' w = record { tick = s'; below = w.0; in_first = all_day_covers s' w.0; in_second = covers_start Round R s' e' w }

-- it has R ticks, though its end lies at a distance of 0
pub all_day_ticks : (R s : ℕ) → ticks_in Round R s s ≡ R
unfolding ticks_in
all_day_ticks R s = rw (eq-eqb s s refl) refl

-- no other window covers every tick: its own end is not covered
pub all_day_only : (R s e : ℕ) → Window Round R s e → ((t : ℕ) → t < R → Covers Round R s e t) → s ≡ e
all_day_only R s e w f = go (covers_in s e e ((covers_iff Round R s e w e w.1).1 (f e w.1)))
  where
    go : In s e e → s ≡ e
    go (plain a b c) = absurd (omega arith)
    go (late a b) = omega arith
    go (early a b) = absurd (omega arith)

-- in a run an end at the start makes no window
pub all_day_in_run : (R s : ℕ) → is_window Run R s s ≡ false
all_day_in_run R s = rw (le-ltb s s (omega arith)) refl

-- ---- part-day windows: start and end differ

module _ (kind : Kind) (R s e : ℕ) (d : s ≢ e) where
  -- the start is not the end, so the end stops the walk from the first tick on
  pub covers_part_day : (t : ℕ) → Covers kind R s e t ↔ CoversPartDay kind R s e t
  covers_part_day t = (
    λ x. record { steps = x.steps; reached = x.reached; before = from_start x.steps x.before },
    λ x. record { steps = x.steps; reached = x.reached; before = λ k m l. x.before k l },
  )
    where
      from_start : (n : ℕ) → ((k : ℕ) → 1 ≤ k → k ≤ n → walk kind R s k ≢ e) → (k : ℕ) → k ≤ n → walk kind R s k ≢ e
      from_start n f zero l = d
      from_start n f (suc k) l = f (suc k) (omega arith) l

  pub window_part_day : is_window kind R s e ≡ is_part_day_window kind R s e
  window_part_day = go kind
    where
      go : (kind : Kind) → is_window kind R s e ≡ is_part_day_window kind R s e
      go Round = rw (ne_eqb s e d) (sym (and-true (ltb s R && ltb e R)))
      go Run = refl

pub overlap_part_day : (kind : Kind) (R s e s' e' : ℕ) → s ≢ e → s' ≢ e' → Overlap kind R s e s' e' ↔ OverlapPartDay kind R s e s' e'
overlap_part_day kind R s e s' e' d d' =
    let first = covers_part_day kind R s e d in
    let second = covers_part_day kind R s' e' d' in (
      λ o. record { tick = o.tick; below = o.below; in_first = (first o.tick).0 o.in_first; in_second = (second o.tick).0 o.in_second },
      λ o. record { tick = o.tick; below = o.below; in_first = (first o.tick).1 o.in_first; in_second = (second o.tick).1 o.in_second },
    )

-- The tests of windows say what the definitions mean: `covers` the walk over the ticks, `overlaps` that some tick lies
-- in both, `is_window` what check 6 asks. Run and round together.
use Prim.Native.Nat.{ℕ, zero, suc, ◌+◌, ◌-◌, ◌≤◌, ◌<◌}
use mathlib.Core.Path.{◌≡◌, refl, ◌∙◌, ap, sym}
use mathlib.Core.Logic.{◌≢◌, ◌↔◌, ◌⊎◌, inl, inr, ⊎_elim}
use mathlib.Core.Bool.{Bool, true, false, cond, ◌&&◌, ◌||◌, false≢true, or-true}
use native.Mathlib.Omega.{arith}
use native.Mathlib.Decide.{ℕ_discrete}
use native.Mathlib.Nat.{le_of_lt}
use lib.Dec.{leb, ltb}
use borrow.Author.Tests.{ltb-true, lt-ltb, le-ltb, le-leb, eq-eqb, ne_eqb}
use Rattle.std.proofs.lemmas.Bool.{or_cases}
use Rattle.std.proofs.lemmas.Bool.Decides.{Decides-ltb}
use Rattle.basics.proofs.Tests.{Test, pass, fail, test, bool_ext, and_iff}
use Rattle.window.specs.declared.Kind.{Kind}
use Rattle.window.specs.declared.Kind.TheVariants.{Round, Run}
use Rattle.window.specs.Ticks.{Ticks, distance}
use Rattle.window.specs.Windows.{next, walk, Covers, Overlap, Window, is_window, covers, ticks_in, lies_in, overlaps}
use Rattle.window.proofs.Circle.{distance_after, distance_before}
pub use Rattle.window.proofs.Windows.{window_iff, window_end, window_start}

-- ---- the test `covers`, by cases

-- the three ways for a tick to lie in a window
pub data In (s e t : ℕ) : Type 0 where
  plain : s < e → s ≤ t → t < e → In s e t
  late : e ≤ s → s ≤ t → In s e t
  early : e ≤ s → t < e → In s e t

pub covers_in : (s e t : ℕ) → covers s e t ≡ true → In s e t
unfolding covers
covers_in s e t = go (test (suc s) e) (test s t) (test (suc t) e)
  where
    go : {p q r : Bool} → Test (suc s) e p → Test s t q → Test (suc t) e r → cond p (q && r) (q || r) ≡ true → In s e t
    go (pass f) (pass g) (pass h) x = plain f g h
    go (pass f) (pass g) (fail h) x = absurd (false≢true x)
    go (pass f) (fail g) r x = absurd (false≢true x)
    go (fail f) (pass g) r x = late (omega arith) g
    go (fail f) (fail g) (pass h) x = early (omega arith) h
    go (fail f) (fail g) (fail h) x = absurd (false≢true x)

pub in_covers : (s e t : ℕ) → In s e t → covers s e t ≡ true
unfolding covers
in_covers s e t (plain f g h) = rw (lt-ltb s e f, le-leb s t g, lt-ltb t e h)
in_covers s e t (late f g) = rw (le-ltb s e f, le-leb s t g)
in_covers s e t (early f h) = rw (le-ltb s e f, lt-ltb t e h) (or-true (leb s t))

-- ---- the walk

next_below : (R t : ℕ) → suc t < R → next Round R t ≡ suc t
next_below R t h = rw (ne_eqb (suc t) R (λ e. omega arith))

next_last : (R t : ℕ) → suc t ≡ R → next Round R t ≡ 0
next_last R t h = rw (eq-eqb (suc t) R h)

pub walk_run : (R s k : ℕ) → walk Run R s k ≡ s + k
walk_run R s zero = omega arith
walk_run R s (suc k) = omega (arith, walk_run R s k)

-- up to the end of the round the walk counts on,
pub walk_on : (R s k : ℕ) → s + k < R → walk Round R s k ≡ s + k
walk_on R s zero h = omega arith
walk_on R s (suc k) h = ap (next Round R) (walk_on R s k (omega arith)) ∙ next_below R (s + k) (omega arith) ∙ omega arith

-- and then from 0
pub walk_past : (R s j : ℕ) → s < R → j < R → walk Round R s (j + (R - s)) ≡ j
walk_past R s zero h l = go (R - s) refl
  where
    go : (d : ℕ) → R - s ≡ d → walk Round R s (0 + d) ≡ 0
    go zero e = absurd (omega arith)
    go (suc d) e =
        let z : 0 + suc d ≡ suc d = omega arith in
        rw z (ap (next Round R) (walk_on R s d (omega arith)) ∙ next_last R (s + d) (omega arith))
walk_past R s (suc j) h l =
    let z : suc j + (R - s) ≡ suc (j + (R - s)) = omega arith in
    rw z (ap (next Round R) (walk_past R s j h (omega arith)) ∙ next_below R j l)

-- the tick after so many steps, on the second way round
pub walk_round : (R s k : ℕ) → s < R → R - s ≤ k → k < R - s + R → walk Round R s k ≡ k - (R - s)
walk_round R s k h l m =
    let z : k - (R - s) + (R - s) ≡ k = omega arith in
    sym (ap (walk Round R s) z) ∙ walk_past R s (k - (R - s)) h (omega arith)

-- up to the end of a window that does not wrap the walk counts on, in a run and in a round
straight : (kind : Kind) (R s e : ℕ) → Window kind R s e → (k : ℕ) → s + k ≤ e → walk kind R s k ≡ s + k
straight Round R s e w k h = walk_on R s k (omega arith)
straight Run R s e w k h = walk_run R s k

-- a window that wraps, as only in a round
module _ (R s e : ℕ) (w : Window Round R s e) {t : ℕ} (ht : t < R) (h : e ≤ s) where
  wrap_there : In s e t → Covers Round R s e t
  wrap_there (plain f g l) = absurd (omega arith)
  wrap_there (late f g) =
      record {
        steps = t - s;
        reached = walk_on R s (t - s) (omega arith) ∙ omega arith;
        before = λ k m l. omega (arith, walk_on R s k (omega arith));
      }
  wrap_there (early f g) =
      record {
        steps = t + (R - s);
        reached = walk_past R s t w.0 ht;
        before = λ k m l. go k (omega arith) l (test (R - s) k);
      }
    where
      go : (k : ℕ) {b : Bool} → 1 ≤ k → k ≤ t + (R - s) → Test (R - s) k b → walk Round R s k ≢ e
      go k m l (pass n) q = omega (arith, walk_round R s k w.0 n (omega arith))
      go k m l (fail n) q = omega (arith, walk_on R s k (omega arith))

  wrap_back : Covers Round R s e t → In s e t
  wrap_back x = go (test (R - s) x.steps)
    where
      past : x.steps < e + (R - s) → R - s ≤ x.steps → In s e t
      past l m = early h (omega (arith, walk_round R s x.steps w.0 m (omega arith), x.reached))

      bounded : {b : Bool} → R - s ≤ x.steps → Test (e + (R - s)) x.steps b → In s e t
      bounded m (pass l) = absurd (x.before (e + (R - s)) (omega arith) l (walk_past R s e w.0 w.1))
      bounded m (fail l) = past l m

      go : {b : Bool} → Test (R - s) x.steps b → In s e t
      go (pass m) = bounded m (test (e + (R - s)) x.steps)
      go (fail m) = late h (omega (arith, walk_on R s x.steps (omega arith), x.reached))

-- a window that does not wrap
module _ (kind : Kind) (R s e : ℕ) (w : Window kind R s e) {t : ℕ} (h : s < e) where
  straight_there : In s e t → Covers kind R s e t
  straight_there (plain f g l) =
      record {
        steps = t - s;
        reached = straight kind R s e w (t - s) (omega arith) ∙ omega arith;
        before = λ k m n. omega (arith, straight kind R s e w k (omega arith));
      }
  straight_there (late f g) = absurd (omega arith)
  straight_there (early f g) = absurd (omega arith)

  straight_back : Covers kind R s e t → In s e t
  straight_back x = go (test (e - s) x.steps)
    where
      go : {b : Bool} → Test (e - s) x.steps b → In s e t
      go (pass l) = absurd (x.before (e - s) (omega arith) l (straight kind R s e w (e - s) (omega arith) ∙ omega arith))
      go (fail l) = plain h (omega (arith, straight kind R s e w x.steps (omega arith), x.reached)) (omega (arith, straight kind R s e w x.steps (omega arith), x.reached))

in_iff : (kind : Kind) (R s e : ℕ) → Window kind R s e → {t : ℕ} → t < R → In s e t ↔ Covers kind R s e t
in_iff kind R s e w {t} ht = go kind w (test (suc s) e)
  where
    go : (kind : Kind) → Window kind R s e → {b : Bool} → Test (suc s) e b → In s e t ↔ Covers kind R s e t
    go kind w (pass h) = (straight_there kind R s e w h, straight_back kind R s e w h)
    go Round w (fail h) = (wrap_there R s e w ht (omega arith), wrap_back R s e w ht (omega arith))
    go Run w (fail h) = absurd (omega arith)

pub covers_iff : (kind : Kind) (R s e : ℕ) → Window kind R s e → (t : ℕ) → t < R → (covers s e t ≡ true) ↔ Covers kind R s e t
covers_iff kind R s e w t h = (λ x. (in_iff kind R s e w h).0 (covers_in s e t x), λ x. in_covers s e t ((in_iff kind R s e w h).1 x))

-- ---- overlap

start_in : (s e : ℕ) → In s e s
start_in s e = go (test (suc s) e)
  where
    go : {p : Bool} → Test (suc s) e p → In s e s
    go (pass h) = plain h (omega arith) h
    go (fail h) = late (omega arith) (omega arith)

pub covers_start : (kind : Kind) (R s e : ℕ) → Window kind R s e → Covers kind R s e s
covers_start kind R s e w = (in_iff kind R s e w (window_start kind R s e w)).0 (start_in s e)

-- windows that share a tick: one of them has the other's start
meet : {s e s' e' t : ℕ} → s ≤ s' → In s e t → In s' e' t → In s e s' ⊎ In s' e' s
meet le (plain f g h) (plain f' g' h') = inl (plain f le (omega arith))
meet le (plain f g h) (late f' g') = inl (plain f le (omega arith))
meet le (plain f g h) (early f' h') = inr (early f' (omega arith))
meet le (late f g) y = inl (late f le)
meet le (early f h) y = inl (late f le)

share : {s e s' e' t : ℕ} → In s e t → In s' e' t → In s e s' ⊎ In s' e' s
share {s} {e} {s'} {e'} x y = go (test s s')
  where
    go : {p : Bool} → Test s s' p → In s e s' ⊎ In s' e' s
    go (pass h) = meet h x y
    go (fail h) = ⊎_elim inr inl (meet (le_of_lt h) y x)

pub overlaps_iff : (kind : Kind) (R s e s' e' : ℕ) → Window kind R s e → Window kind R s' e' → (overlaps s e s' e' ≡ true) ↔ Overlap kind R s e s' e'
unfolding overlaps
overlaps_iff kind R s e s' e' v w = (there, back)
  where
    below : s < R
    below = window_start kind R s e v

    below' : s' < R
    below' = window_start kind R s' e' w

    there : covers s e s' || covers s' e' s ≡ true → Overlap kind R s e s' e'
    there x = ⊎_elim
        (λ h. record { tick = s'; below = below'; in_first = (covers_iff kind R s e v s' below').0 h; in_second = covers_start kind R s' e' w })
        (λ h. record { tick = s; below = below; in_first = covers_start kind R s e v; in_second = (covers_iff kind R s' e' w s below).0 h })
        (or_cases (covers s e s') (covers s' e' s) x)

    back : Overlap kind R s e s' e' → covers s e s' || covers s' e' s ≡ true
    back o = ⊎_elim
        (λ h. rw (in_covers s e s' h) refl)
        (λ h. rw (in_covers s' e' s h) (or-true (covers s e s')))
        (share ((in_iff kind R s e v o.below).1 o.in_first) ((in_iff kind R s' e' w o.below).1 o.in_second))

-- two windows with one start overlap
pub overlap_start : (kind : Kind) (R s e e' : ℕ) → Window kind R s e → Window kind R s e' → Overlap kind R s e s e'
overlap_start kind R s e e' v w = record { tick = s; below = window_start kind R s e v; in_first = covers_start kind R s e v; in_second = covers_start kind R s e' w }

-- ---- what the functions promise, from what they compute

pub covers_meaning : {r : Bool} {s e t : ℕ} → r ≡ covers s e t → (kind : Kind) (R : ℕ) → Window kind R s e → t < R → (r ≡ true) ↔ Covers kind R s e t
covers_meaning {s = s} {e = e} {t = t} q kind R w h = rw q (covers_iff kind R s e w t h)

pub overlaps_meaning : {r : Bool} {s e s' e' : ℕ} → r ≡ overlaps s e s' e' → (kind : Kind) (R : ℕ) → Window kind R s e → Window kind R s' e' → (r ≡ true) ↔ Overlap kind R s e s' e'
overlaps_meaning {s = s} {e = e} {s' = s'} {e' = e'} q kind R v w = rw q (overlaps_iff kind R s e s' e' v w)

-- ---- a window as an arc: the ticks whose distance from the start is below the window's length

module _ (R s e t : ℕ) (h : Ticks R s t) where
  in_near : e ≤ R → (n : ℕ) → (s < e → n ≡ e - s) → (e ≤ s → n + s ≡ e + R) → In s e t ↔ (distance R s t < n)
  in_near r n f g = (there, go (test s t) (test (suc s) e))
    where
      there : In s e t → distance R s t < n
      there (plain a b c) = omega (arith, distance_after R s t h b, f a)
      there (late a b) = omega (arith, distance_after R s t h b, g a, h.tick_below)
      there (early a b) = omega (arith, distance_before R s t h (omega arith), g a)

      go : {p q : Bool} → Test s t p → Test (suc s) e q → distance R s t < n → In s e t
      go (pass a) (pass b) l = plain b a (omega (arith, distance_after R s t h a, f b))
      go (pass a) (fail b) l = late (omega arith) a
      go (fail a) (pass b) l = absurd (omega (arith, distance_before R s t h a, f b, h.start_below))
      go (fail a) (fail b) l = early (omega arith) (omega (arith, distance_before R s t h a, g (omega arith)))

-- the length of a window, by which of its ends comes first
module _ (kind : Kind) (R s e : ℕ) (w : Window kind R s e) where
  pub ticks_straight : s < e → ticks_in kind R s e ≡ e - s
  unfolding ticks_in
  ticks_straight = go kind w
    where
      go : (kind : Kind) → Window kind R s e → s < e → ticks_in kind R s e ≡ e - s
      go Round w h = rw (ne_eqb s e (λ q. omega arith)) (sym (distance_after R s e (record { start_below = w.0; tick_below = w.1 }) (le_of_lt h)))
      go Run w h = refl

  pub ticks_wrapped : e ≤ s → ticks_in kind R s e + s ≡ e + R
  unfolding ticks_in
  ticks_wrapped = go kind w
    where
      round : Window Round R s e → Dec (s ≡ e) → e ≤ s → ticks_in Round R s e + s ≡ e + R
      round w (yes q) h = rw (eq-eqb s e q) (omega arith)
      round w (no n) h = rw (ne_eqb s e n) (omega (arith, distance_before R s e (record { start_below = w.0; tick_below = w.1 }) (omega (arith, n))))

      go : (kind : Kind) → Window kind R s e → e ≤ s → ticks_in kind R s e + s ≡ e + R
      go Round w h = round w (ℕ_discrete s e) h
      go Run w h = absurd (omega arith)

  pub ticks_some : 1 ≤ ticks_in kind R s e
  ticks_some = go (test (suc s) e)
    where
      go : {b : Bool} → Test (suc s) e b → 1 ≤ ticks_in kind R s e
      go (pass h) = omega (arith, ticks_straight h)
      go (fail h) = omega (arith, ticks_wrapped (omega arith), window_start kind R s e w)

  pub ticks_most : ticks_in kind R s e ≤ R
  ticks_most = go (test (suc s) e)
    where
      go : {b : Bool} → Test (suc s) e b → ticks_in kind R s e ≤ R
      go (pass h) = omega (arith, ticks_straight h, window_end kind R s e w)
      go (fail h) = omega (arith, ticks_wrapped (omega arith))

  pub covers_near : (t : ℕ) → t < R → covers s e t ≡ ltb (distance R s t) (ticks_in kind R s e)
  covers_near t h =
      let ticks : Ticks R s t = record { start_below = window_start kind R s e w; tick_below = h } in
      let near = in_near R s e t ticks (window_end kind R s e w) (ticks_in kind R s e) ticks_straight ticks_wrapped in
      bool_ext (covers s e t) (ltb (distance R s t) (ticks_in kind R s e))
      (λ x. lt-ltb (distance R s t) (ticks_in kind R s e) (near.0 (covers_in s e t x)))
      (λ x. in_covers s e t (near.1 (ltb-true (distance R s t) (ticks_in kind R s e) x)))

-- ---- a tick in a window, on any numbers

pub lies_covers : (kind : Kind) (R s e t : ℕ) → lies_in kind R s e t ≡ (is_window kind R s e && ltb t R && covers s e t)
unfolding lies_in
lies_covers kind R s e t = go (is_window kind R s e) refl (ltb t R) refl
  where
    go : (a : Bool) → is_window kind R s e ≡ a → (b : Bool) → ltb t R ≡ b
        → (is_window kind R s e && ltb t R && ltb (distance R s t) (ticks_in kind R s e)) ≡ (is_window kind R s e && ltb t R && covers s e t)
    go true p true q = ap (λ x. is_window kind R s e && ltb t R && x) (sym (covers_near kind R s e ((window_iff kind R s e).0 p) t (ltb-true t R q)))
    go true p false q = rw (p, q) refl
    go false p b q = rw p refl

pub lies_within : (kind : Kind) (R s e t : ℕ) → is_window kind R s e ≡ true → t < R → covers s e t ≡ lies_in kind R s e t
lies_within kind R s e t p h = sym (lies_covers kind R s e t ∙ rw (p, lt-ltb t R h) refl)

pub lies_iff : (kind : Kind) (R s e t : ℕ) → (lies_in kind R s e t ≡ true) ↔ (Window kind R s e × (t < R) × Covers kind R s e t)
unfolding lies_in
lies_iff kind R s e t = (
  λ x.
      let f = tests.0 x in
      (f.0.0, f.0.1, (covers_iff kind R s e f.0.0 t f.0.1).0 (covers_near kind R s e f.0.0 t f.0.1 ∙ f.1)),
  λ h. tests.1 ((h.0, h.1), sym (covers_near kind R s e h.0 t h.1) ∙ (covers_iff kind R s e h.0 t h.1).1 h.2),
)
  where
    tests : (lies_in kind R s e t ≡ true) ↔ ((Window kind R s e × (t < R)) × (ltb (distance R s t) (ticks_in kind R s e) ≡ true))
    tests = and_iff (and_iff (window_iff kind R s e) (Decides-ltb t R)) (λ x. x, λ x. x)

pub lies_meaning : {r : Bool} {kind : Kind} {R s e t : ℕ} → r ≡ lies_in kind R s e t → (r ≡ true) ↔ (Window kind R s e × (t < R) × Covers kind R s e t)
lies_meaning {kind = kind} {R = R} {s = s} {e = e} {t = t} q = rw q (lies_iff kind R s e t)

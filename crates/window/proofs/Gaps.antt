-- Windows that are too close for one receiver: the test says what the definition means, for every R and g and all
-- windows that pass check 6, run and round together. What follows from the definition: the gap goes both ways, a gap of
-- 0 forbids overlapping alone, a longer gap forbids no less, a gap of 1 forbids touching, g ticks are enough, and in a
-- round a gap of R or more leaves a receiver one window.
use Prim.Native.Nat.{ℕ, suc, ◌+◌, ◌-◌, ◌≤◌, ◌<◌}
use mathlib.Core.Path.{◌≡◌, refl, sym, ◌∙◌}
use mathlib.Core.Logic.{◌↔◌, ◌⊎◌, inl, inr, ⊎_elim}
use mathlib.Core.Bool.{Bool, true, cond}
use native.Mathlib.Omega.{arith}
use lib.Dec.{ltb}
use borrow.Author.Tests.{ltb-true, lt-ltb, le-leb, lt-leb}
use Rattle.std.proofs.lemmas.Bool.Decides.{Decides-ltb}
use Rattle.basics.proofs.Tests.{Test, pass, fail, test, leb_iff, and_iff, or_iff}
use Rattle.window.specs.declared.Kind.{Kind}
use Rattle.window.specs.declared.Kind.TheVariants.{Round, Run}
use Rattle.window.specs.Windows.{walk, Covers, Overlap, Window, covers, overlaps}
use Rattle.window.specs.Gaps.{Near, TooClose, overlap, after, before, is_near, reaches, too_close}
use Rattle.window.proofs.Meaning.{In, plain, late, early, in_covers, covers_in, walk_run, walk_on, walk_past, walk_round, window_start, window_end, covers_iff, overlaps_iff}

-- ---- the test `is_near`, by cases

-- the ways for a tick to come fewer than g ticks after an end
pub data Ahead (R g e t : ℕ) : Kind → Type 0 where
  on : {kind : Kind} → e ≤ t → t < e + g → Ahead R g e t kind
  past : t < e → t + R < e + g → Ahead R g e t Round

-- at or after the end, in a round and in a run
pub near_on : (kind : Kind) (R g e t : ℕ) → e ≤ t → ltb t (e + g) ≡ is_near kind R g e t
unfolding is_near
near_on Round R g e t h = rw (le-leb e t h) refl
near_on Run R g e t h = rw (le-leb e t h) refl

pub near_ahead : (kind : Kind) (R g e t : ℕ) → is_near kind R g e t ≡ true → Ahead R g e t kind
unfolding is_near
near_ahead Round R g e t x = go (test e t) x
  where
    go : {b : Bool} → Test e t b → ltb (cond b t (t + R)) (e + g) ≡ true → Ahead R g e t Round
    go (pass h) x = on h (ltb-true t (e + g) x)
    go (fail h) x = past h (ltb-true (t + R) (e + g) x)
near_ahead Run R g e t x = let f = (and_iff (leb_iff e t) (Decides-ltb t (e + g))).0 x in on f.0 f.1

pub ahead_near : (kind : Kind) (R g e t : ℕ) → Ahead R g e t kind → is_near kind R g e t ≡ true
unfolding is_near
ahead_near kind R g e t (on h l) = sym (near_on kind R g e t h) ∙ lt-ltb t (e + g) l
ahead_near Round R g e t (past h l) = rw (lt-leb e t h) (lt-ltb (t + R) (e + g) l)

-- ---- the walk from an end on

walk_straight : (kind : Kind) (R e k : ℕ) → e + k < R → walk kind R e k ≡ e + k
walk_straight Round R e k h = walk_on R e k h
walk_straight Run R e k h = walk_run R e k

module _ (R g s e t : ℕ) (h : t < R) where
  ahead_reached : (kind : Kind) → Window kind R s e → Ahead R g e t kind → Near kind R g e t
  ahead_reached kind w (on l m) = record { steps = t - e; fewer = omega arith; reached = walk_straight kind R e (t - e) (omega arith) ∙ omega arith }
  ahead_reached Round w (past l m) = record { steps = t + (R - e); fewer = omega arith; reached = walk_past R e t w.1 h }

  -- the walk comes to t no sooner
  reached_ahead : (kind : Kind) → Window kind R s e → Near kind R g e t → Ahead R g e t kind
  reached_ahead Run w n = let q = walk_run R e n.steps in on (omega (arith, q, n.reached)) (omega (arith, q, n.reached, n.fewer))
  reached_ahead Round w n = go (test e t) (test (R - e) n.steps)
    where
      k : ℕ
      k = n.steps

      go : {a b : Bool} → Test e t a → Test (R - e) k b → Ahead R g e t Round
      go (pass l) (pass m) = on l (omega (arith, n.fewer))
      go (pass l) (fail m) = on l (omega (arith, n.fewer, walk_on R e k (omega arith), n.reached))
      go (fail l) (pass m) = past l (second (test (R - e + R) k))
        where
          second : {c : Bool} → Test (R - e + R) k c → t + R < e + g
          second (pass j) = omega (arith, n.fewer)
          second (fail j) = omega (arith, n.fewer, walk_round R e k w.1 m j, n.reached)
      go (fail l) (fail m) = absurd (omega (arith, walk_on R e k (omega arith), n.reached))

near_iff : (kind : Kind) (R g s e t : ℕ) → Window kind R s e → t < R → (is_near kind R g e t ≡ true) ↔ Near kind R g e t
near_iff kind R g s e t w h = (
  λ x. ahead_reached R g s e t h kind w (near_ahead kind R g e t x),
  λ n. ahead_near kind R g e t (reached_ahead R g s e t h kind w n),
)

-- ---- two windows

module _ (kind : Kind) (R g s e s' e' : ℕ) where
  module _ (v : Window kind R s e) (w : Window kind R s' e') where
    -- THE TEST SAYS WHETHER TWO WINDOWS ARE TOO CLOSE
    pub too_close_iff : (too_close kind R g s e s' e' ≡ true) ↔ TooClose kind R g s e s' e'
    unfolding too_close reaches overlaps
    too_close_iff = (λ x. there (tests.0 x), λ c. tests.1 (back c))
      where
        First : Type 0
        First = (covers s e s' ≡ true) ⊎ Near kind R g e s'

        Second : Type 0
        Second = (covers s' e' s ≡ true) ⊎ Near kind R g e' s

        same : {b : Bool} → (b ≡ true) ↔ (b ≡ true)
        same = (λ x. x, λ x. x)

        tests : (too_close kind R g s e s' e' ≡ true) ↔ (First ⊎ Second)
        tests =
            or_iff
            (or_iff same (near_iff kind R g s e s' v (window_start kind R s' e' w)))
            (or_iff same (near_iff kind R g s' e' s w (window_start kind R s e v)))

        shared : (overlaps s e s' e' ≡ true) ↔ ((covers s e s' ≡ true) ⊎ (covers s' e' s ≡ true))
        shared = or_iff same same

        there : First ⊎ Second → TooClose kind R g s e s' e'
        there (inl (inl x)) = overlap ((overlaps_iff kind R s e s' e' v w).0 (shared.1 (inl x)))
        there (inl (inr n)) = after n
        there (inr (inl x)) = overlap ((overlaps_iff kind R s e s' e' v w).0 (shared.1 (inr x)))
        there (inr (inr n)) = before n

        back : TooClose kind R g s e s' e' → First ⊎ Second
        back (overlap o) = ⊎_elim (λ x. inl (inl x)) (λ x. inr (inl x)) (shared.0 ((overlaps_iff kind R s e s' e' v w).1 o))
        back (after n) = inl (inr n)
        back (before n) = inr (inr n)

  -- it goes both ways
  pub too_close_sym : TooClose kind R g s e s' e' → TooClose kind R g s' e' s e
  too_close_sym (overlap o) = overlap (record { tick = o.tick; below = o.below; in_first = o.in_second; in_second = o.in_first })
  too_close_sym (after n) = before n
  too_close_sym (before n) = after n

  -- a longer gap asks no less
  pub too_close_more : (g' : ℕ) → g ≤ g' → TooClose kind R g s e s' e' → TooClose kind R g' s e s' e'
  too_close_more g' l (overlap o) = overlap o
  too_close_more g' l (after n) = after (record { steps = n.steps; fewer = omega (arith, n.fewer); reached = n.reached })
  too_close_more g' l (before n) = before (record { steps = n.steps; fewer = omega (arith, n.fewer); reached = n.reached })

-- with a gap of 0 two windows are too close exactly if they overlap
pub too_close_0 : (kind : Kind) (R s e s' e' : ℕ) → TooClose kind R 0 s e s' e' ↔ Overlap kind R s e s' e'
too_close_0 kind R s e s' e' = (there, overlap)
  where
    there : TooClose kind R 0 s e s' e' → Overlap kind R s e s' e'
    there (overlap o) = o
    there (after n) = absurd (omega (arith, n.fewer))
    there (before n) = absurd (omega (arith, n.fewer))

-- windows that touch have 0 ticks between them, and any gap above 0 forbids it
pub touching : (kind : Kind) (R g s e e' : ℕ) → 1 ≤ g → TooClose kind R g s e e e'
touching kind R g s e e' h = after (record { steps = 0; fewer = h; reached = refl })

-- in a round with a gap of R or more any two windows are too close
pub whole_gap : (R g s e s' e' : ℕ) → R ≤ g → Window Round R s e → Window Round R s' e' → TooClose Round R g s e s' e'
whole_gap R g s e s' e' l v w = after (ahead_reached R g s e s' w.0 Round v (go (test e s')))
  where
    go : {b : Bool} → Test e s' b → Ahead R g e s' Round
    go (pass m) = on m (omega arith)
    go (fail m) = past m (omega arith)

-- ---- g ticks are enough

-- two windows that do not go over the end of the day, the second at least g ticks after the first
module _ (kind : Kind) (R g s e s' e' : ℕ) (v : Window kind R s e) (w : Window kind R s' e') (h : s < e) (gap : e + g ≤ s') (h' : s' < e') where
  enough : (Ahead R g e' s kind → ⊥) → TooClose kind R g s e s' e' → ⊥
  enough other (overlap o) = apart (inside v o.in_first) (inside w o.in_second)
    where
      inside : {s e : ℕ} → Window kind R s e → Covers kind R s e o.tick → In s e o.tick
      inside {s} {e} x c = covers_in s e o.tick ((covers_iff kind R s e x o.tick o.below).1 c)

      apart : In s e o.tick → In s' e' o.tick → ⊥
      apart (plain a b c) (plain a' b' c') = omega arith
      apart (plain a b c) (late a' b') = omega arith
      apart (plain a b c) (early a' b') = omega arith
      apart (late a b) y = omega arith
      apart (early a b) y = omega arith
  enough other (after n) = apart (reached_ahead R g s e s' (window_start kind R s' e' w) kind v n)
    where
      apart : {kind : Kind} → Ahead R g e s' kind → ⊥
      apart (on l m) = omega arith
      apart (past l m) = omega arith
  enough other (before n) = other (reached_ahead R g s' e' s (window_start kind R s e v) kind w n)

-- in a run that is all: nothing is owed from the last window on to the first
pub enough_in_run : (R g s e s' e' : ℕ) → Window Run R s e → Window Run R s' e' → e + g ≤ s' → TooClose Run R g s e s' e' → ⊥
enough_in_run R g s e s' e' v w gap = enough Run R g s e s' e' v w v.0 gap w.0 other
  where
    other : Ahead R g e' s Run → ⊥
    other (on l m) = omega arith

-- in a round the other side must do too
pub enough_in_round : (R g s e s' e' : ℕ) → Window Round R s e → Window Round R s' e' → s < e → e + g ≤ s' → s' < e' → e' + g ≤ s + R → TooClose Round R g s e s' e' → ⊥
enough_in_round R g s e s' e' v w h gap h' side = enough Round R g s e s' e' v w h gap h' other
  where
    other : Ahead R g e' s Round → ⊥
    other (on l m) = omega arith
    other (past l m) = omega arith

-- ---- the g ticks after a window: one that has any of them is too close to it

-- the last tick of a window: the one before its end
last_in : (R s e : ℕ) → s < R → (1 ≤ e → In s e (e - 1)) × (e ≡ 0 → In s e (R - 1))
last_in R s e h = (λ l. go l (test (suc s) e), λ q. late (omega arith) (omega arith))
  where
    go : 1 ≤ e → {b : Bool} → Test (suc s) e b → In s e (e - 1)
    go l (pass m) = plain m (omega arith) (omega arith)
    go l (fail m) = early (omega arith) (omega arith)

module _ (R g s e s' e' : ℕ) where
  module _ (kind : Kind) (v : Window kind R s e) (w : Window kind R s' e') where
    shared : (t : ℕ) → t < R → In s e t → In s' e' t → TooClose kind R g s e s' e'
    shared t h x y =
        overlap
        (record {
          tick = t;
          below = h;
          in_first = (covers_iff kind R s e v t h).0 (in_covers s e t x);
          in_second = (covers_iff kind R s' e' w t h).0 (in_covers s' e' t y);
        })

    -- both windows cover the first one's last tick
    shared_last : 1 ≤ e → In s' e' (e - 1) → TooClose kind R g s e s' e'
    shared_last l y = shared (e - 1) (omega (arith, window_end kind R s e v)) ((last_in R s e (window_start kind R s e v)).0 l) y

    near : Ahead R g e s' kind → TooClose kind R g s e s' e'
    near a = after (ahead_reached R g s e s' (window_start kind R s' e' w) kind v a)

  module _ (t : ℕ) (h : t < R) where
    -- the tick comes fewer than g ticks after the first window, and the second covers it
    ahead_in : (kind : Kind) → Window kind R s e → Window kind R s' e' → Ahead R g e t kind → In s' e' t → {a : Bool} → Test e s' a → TooClose kind R g s e s' e'
    ahead_in kind v w (on l m) (plain a b c) (pass k) = near kind v w (on k (omega arith))
    ahead_in kind v w (on l m) (plain a b c) (fail k) = shared_last kind v w (omega arith) (plain a (omega arith) (omega arith))
    ahead_in kind v w (on l m) (late a b) (pass k) = near kind v w (on k (omega arith))
    ahead_in kind v w (on l m) (late a b) (fail k) = shared_last kind v w (omega arith) (late a (omega arith))
    ahead_in Round v w (on l m) (early a b) k = go (test 1 e)
      where
        go : {b : Bool} → Test 1 e b → TooClose Round R g s e s' e'
        go (pass n) = shared_last Round v w n (early a (omega arith))
        go (fail n) = shared Round v w (R - 1) (omega arith) ((last_in R s e v.0).1 (omega arith)) (late a (omega arith))
    ahead_in Run v w (on l m) (early a b) k = absurd (omega arith)
    ahead_in Round v w (past l m) (plain a b c) k = near Round v w (past (omega arith) (omega arith))
    ahead_in Round v w (past l m) (late a b) k = near Round v w (past (omega arith) (omega arith))
    ahead_in Round v w (past l m) (early a b) (pass k) = near Round v w (on k (omega arith))
    ahead_in Round v w (past l m) (early a b) (fail k) = shared_last Round v w (omega arith) (late a (omega arith))

-- of two windows that are not too close, none of the g ticks after the one lies in the other
pub free_after : (kind : Kind) (R g s e s' e' : ℕ) → Window kind R s e → Window kind R s' e' → (TooClose kind R g s e s' e' → ⊥)
    → (k : ℕ) → k < g → walk kind R e k < R → Covers kind R s' e' (walk kind R e k) → ⊥
free_after kind R g s e s' e' v w n k l h c =
    let t = walk kind R e k in
    n (ahead_in R g s e s' e' t h kind v w
    (reached_ahead R g s e t h kind v (record { steps = k; fewer = l; reached = refl }))
    (covers_in s' e' t ((covers_iff kind R s' e' w t h).1 c))
    (test e s'))

-- what `too_close` promises, from what it computes
pub too_close_meaning : {r : Bool} {kind : Kind} {R g s e s' e' : ℕ} → r ≡ too_close kind R g s e s' e'
    → Window kind R s e → Window kind R s' e' → (r ≡ true) ↔ TooClose kind R g s e s' e'
too_close_meaning {kind = kind} {R = R} {g = g} {s = s} {e = e} {s' = s'} {e' = e'} q v w = rw q (too_close_iff kind R g s e s' e' v w)

-- A window with the gap after it, as an arc: two windows are too close exactly if their arcs meet. Run and round
-- together.
use Prim.Native.Nat.{ℕ, suc, ◌+◌, ◌-◌, ◌≤◌, ◌<◌}
use mathlib.Core.Path.{◌≡◌, sym, ap₂, ◌∙◌}
use mathlib.Core.Logic.{◌↔◌, ◌⊎◌, inl, inr}
use mathlib.Core.Bool.{Bool, true, cond, ◌||◌}
use native.Mathlib.Nat.{mod-lt}
use native.Mathlib.Omega.{arith}
use lib.Dec.{ltb}
use Rattle.std.proofs.lemmas.Bool.Decides.{Decides-ltb}
use Rattle.basics.proofs.Tests.{Test, pass, fail, test, bool_ext, or_iff}
use Rattle.window.specs.declared.Kind.{Kind}
use Rattle.window.specs.declared.Kind.TheVariants.{Round, Run}
use Rattle.window.specs.Ticks.{distance}
use Rattle.window.specs.Windows.{Window, ticks_in}
use Rattle.window.specs.Gaps.{max_gap, TooClose, reaches, too_close}
use Rattle.window.proofs.Meaning.{In, plain, late, early, covers_in, in_covers, window_start, ticks_straight, ticks_wrapped, ticks_some}
use Rattle.window.proofs.Gaps.{Ahead, on, past, near_ahead, ahead_near, too_close_iff}
use Rattle.arcs.specs.Arcs.{Meet}
use Rattle.arcs.proofs.Steps.{Steps, direct, round, steps}
use Rattle.arcs.proofs.Meets.{meets, meets_iff}
use Rattle.best_plan.specs.Rows.{circle_ticks, cut_off}

-- ---- lengths

-- a tick of the circle lies on an arc that is cut off exactly if it lies on the whole arc
cut_iff : (C n d : ℕ) → d < C → (d < cut_off C n) ↔ (d < n)
unfolding cut_off
cut_iff C n d h = go (test n C)
  where
    go : {b : Bool} → Test n C b → (d < cond b n C) ↔ (d < n)
    go (pass l) = (λ x. x, λ x. x)
    go (fail l) = (λ x. omega arith, λ x. h)

cut_some : (C n : ℕ) → 1 ≤ C → 1 ≤ n → 1 ≤ cut_off C n
unfolding cut_off
cut_some C n h k = go (test n C)
  where
    go : {b : Bool} → Test n C b → 1 ≤ cond b n C
    go (pass l) = k
    go (fail l) = h

pub cut_most : (C n : ℕ) → cut_off C n ≤ C
unfolding cut_off
cut_most C n = go (test n C)
  where
    go : {b : Bool} → Test n C b → cond b n C ≤ C
    go (pass l) = l
    go (fail l) = omega arith

-- the circle has room for R ticks
pub circle_least : (kind : Kind) (R : ℕ) → R ≤ circle_ticks kind R
unfolding circle_ticks
circle_least Round R = omega arith
circle_least Run R = omega arith

pub arc_some : (kind : Kind) (R g s e : ℕ) → Window kind R s e → 1 ≤ cut_off (circle_ticks kind R) (ticks_in kind R s e + g)
arc_some kind R g s e w =
    cut_some (circle_ticks kind R) (ticks_in kind R s e + g)
    (omega (arith, circle_least kind R, window_start kind R s e w))
    (omega (arith, ticks_some kind R s e w))

-- ---- the ticks of a window and of the g ticks after it, by their distance d from its start

module _ {R g s e t n d : ℕ} (h : t < R) where
  -- in a round
  module _ (w : Window Round R s e) (straight : s < e → n ≡ e - s) (wrapped : e ≤ s → n + s ≡ e + R) where
    round_there : Steps R s t d → In s e t ⊎ Ahead R g e t Round → d < n + g
    round_there (direct x) (inl (plain a b c)) = omega (arith, straight a)
    round_there (direct x) (inl (late a b)) = omega (arith, wrapped a)
    round_there (direct x) (inl (early a b)) = absurd (omega arith)
    round_there (round x l) (inl (plain a b c)) = absurd (omega arith)
    round_there (round x l) (inl (late a b)) = absurd (omega arith)
    round_there (round x l) (inl (early a b)) = omega (arith, wrapped a)
    round_there k (inr a) = go (test (suc s) e) k a
      where
        go : {p : Bool} → Test (suc s) e p → Steps R s t d → Ahead R g e t Round → d < n + g
        go (pass f) (direct x) (on b c) = omega (arith, straight f)
        go (pass f) (direct x) (past b c) = omega (arith, straight f)
        go (pass f) (round x l) (on b c) = absurd (omega arith)
        go (pass f) (round x l) (past b c) = omega (arith, straight f)
        go (fail f) (direct x) (on b c) = omega (arith, wrapped (omega arith))
        go (fail f) (direct x) (past b c) = absurd (omega arith)
        go (fail f) (round x l) (on b c) = omega (arith, wrapped (omega arith))
        go (fail f) (round x l) (past b c) = omega (arith, wrapped (omega arith))

    round_back : Steps R s t d → d < n + g → In s e t ⊎ Ahead R g e t Round
    round_back k m = go (test (suc s) e) (test e t) k
      where
        go : {p q : Bool} → Test (suc s) e p → Test e t q → Steps R s t d → In s e t ⊎ Ahead R g e t Round
        go (pass f) (pass j) (direct x) = inr (on j (omega (arith, straight f)))
        go (pass f) (pass j) (round x l) = absurd (omega arith)
        go (pass f) (fail j) (direct x) = inl (plain f (omega arith) j)
        go (pass f) (fail j) (round x l) = inr (past j (omega (arith, straight f)))
        go (fail f) q (direct x) = inl (late (omega arith) (omega arith))
        go (fail f) (pass j) (round x l) = inr (on j (omega (arith, wrapped (omega arith))))
        go (fail f) (fail j) (round x l) = inl (early (omega arith) j)

  -- in a run: the gap of the last window does not reach the first tick
  module _ (w : Window Run R s e) (straight : s < e → n ≡ e - s) (most : g ≤ max_gap) where
    run_there : Steps (circle_ticks Run R) s t d → In s e t ⊎ Ahead R g e t Run → d < n + g
    unfolding circle_ticks
    run_there (direct x) (inl (plain a b c)) = omega (arith, straight a)
    run_there (round x l) (inl (plain a b c)) = absurd (omega arith)
    run_there k (inl (late a b)) = absurd (omega arith)
    run_there k (inl (early a b)) = absurd (omega arith)
    run_there (direct x) (inr (on b c)) = omega (arith, straight w.0)
    run_there (round x l) (inr (on b c)) = absurd (omega arith)

    run_back : Steps (circle_ticks Run R) s t d → d < n + g → In s e t ⊎ Ahead R g e t Run
    unfolding circle_ticks
    run_back (direct x) m = go (test e t)
      where
        go : {b : Bool} → Test e t b → In s e t ⊎ Ahead R g e t Run
        go (pass j) = inr (on j (omega (arith, straight w.0)))
        go (fail j) = inl (plain w.0 (omega arith) j)
    run_back (round x l) m = absurd (omega (arith, straight w.0))

-- ---- the test `reaches`, on the circle

module _ (R g s e t : ℕ) (h : t < R) (most : g ≤ max_gap) where
  by_distance : (kind : Kind) → Window kind R s e → (In s e t ⊎ Ahead R g e t kind) ↔ (distance (circle_ticks kind R) s t < ticks_in kind R s e + g)
  unfolding circle_ticks
  by_distance Round w =
      let k = steps w.0 h in
      let straight = ticks_straight Round R s e w in
      let wrapped = ticks_wrapped Round R s e w in
      (round_there h w straight wrapped k, round_back h w straight wrapped k)
  by_distance Run w =
      let k = steps {C = circle_ticks Run R} {s = s} {t = t} (omega arith) (omega arith) in
      let straight = ticks_straight Run R s e w in
      (run_there h w straight most k, run_back h w straight most k)

  arc_reaches : (kind : Kind) → Window kind R s e
      → reaches kind R g s e t ≡ ltb (distance (circle_ticks kind R) s t) (cut_off (circle_ticks kind R) (ticks_in kind R s e + g))
  unfolding reaches distance
  arc_reaches kind w =
      bool_ext (reaches kind R g s e t) (ltb d (cut_off C n))
      (λ x. (Decides-ltb d (cut_off C n)).1 (cut.1 ((by_distance kind w).0 (tests.0 x))))
      (λ x. tests.1 ((by_distance kind w).1 (cut.0 ((Decides-ltb d (cut_off C n)).0 x))))
    where
      C : ℕ
      C = circle_ticks kind R

      d : ℕ
      d = distance C s t

      n : ℕ
      n = ticks_in kind R s e + g

      cut : (d < cut_off C n) ↔ (d < n)
      cut = cut_iff C n d (mod-lt (t + C - s) (omega (arith, circle_least kind R)))

      tests : (reaches kind R g s e t ≡ true) ↔ (In s e t ⊎ Ahead R g e t kind)
      tests = or_iff (covers_in s e t, in_covers s e t) (near_ahead kind R g e t, ahead_near kind R g e t)

-- ---- two windows

-- TWO WINDOWS ARE TOO CLOSE EXACTLY IF THEIR ARCS MEET
pub close_iff : (kind : Kind) (R g s e s' e' : ℕ) → g ≤ max_gap → Window kind R s e → Window kind R s' e'
    → TooClose kind R g s e s' e' ↔ Meet (circle_ticks kind R) s (cut_off (circle_ticks kind R) (ticks_in kind R s e + g)) s' (cut_off (circle_ticks kind R) (ticks_in kind R s' e' + g))
unfolding too_close meets
close_iff kind R g s e s' e' most v w = (λ o. meeting.0 (sym same ∙ test_iff.1 o), λ m. test_iff.0 (same ∙ meeting.1 m))
  where
    C : ℕ
    C = circle_ticks kind R

    n : ℕ
    n = cut_off C (ticks_in kind R s e + g)

    n' : ℕ
    n' = cut_off C (ticks_in kind R s' e' + g)

    below : s < R
    below = window_start kind R s e v

    below' : s' < R
    below' = window_start kind R s' e' w

    test_iff : (too_close kind R g s e s' e' ≡ true) ↔ TooClose kind R g s e s' e'
    test_iff = too_close_iff kind R g s e s' e' v w

    meeting : (meets C s n s' n' ≡ true) ↔ Meet C s n s' n'
    meeting =
        let least = circle_least kind R in
        meets_iff C s n s' n' (omega (arith, below, least)) (omega (arith, below', least)) (arc_some kind R g s e v) (cut_most C (ticks_in kind R s e + g)) (arc_some kind R g s' e' w) (cut_most C (ticks_in kind R s' e' + g))

    same : too_close kind R g s e s' e' ≡ meets C s n s' n'
    same = ap₂ ◌||◌ (arc_reaches R g s e s' below' most kind v) (arc_reaches R g s' e' s below most kind w)

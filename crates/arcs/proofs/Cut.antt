-- Positions and ends from a cut say whether arcs meet: the distance of two ticks is that of their positions, and the
-- rest is linear.
use Prim.Native.Nat.{ℕ, ◌+◌, ◌-◌, ◌≤◌, ◌<◌}
use mathlib.Core.Path.{◌≡◌, refl, sym, ◌∙◌}
use mathlib.Core.Logic.Iff
use mathlib.Core.Logic.{◌↔◌, ◌⊎◌, inl, inr, ⊎_elim}
use mathlib.Core.Bool.{Bool, true, false, cond, ◌&&◌, ◌||◌, false≢true}
use mathlib.Core.List.{List}
use native.Mathlib.Omega.{arith}
use lib.Dec.{leb}
use lib.ListN.{length}
use Rattle.basics.specs.Lists.{at}
use Rattle.basics.proofs.Tests.{Test, pass, fail, test, leb_iff, and_iff, or_iff}
use Rattle.window.specs.Ticks.{distance}
use Rattle.arcs.specs.Arcs.{Meet, Arcs}
use Rattle.arcs.specs.Positions.{end_of, crosses, clear, Placed}
use Rattle.arcs.proofs.Steps.{Steps, direct, round, steps}
use Rattle.arcs.proofs.Meets.{meets_near, meets_iff}

pub position_below : {C cut s : ℕ} → cut < C → s < C → distance C cut s < C
position_below {C} {cut} {s} hc hs = go (steps hc hs)
  where
    go : {d : ℕ} → Steps C cut s d → d < C
    go (direct e) = omega arith
    go (round e h) = omega arith

-- the distance of two ticks is that of their positions
turned : {C cut s s' : ℕ} → cut < C → s < C → s' < C → distance C (distance C cut s) (distance C cut s') ≡ distance C s s'
turned {C} {cut} {s} {s'} hc hs hs' =
    go (steps hc hs) (steps hc hs') (steps hs hs') (steps (position_below hc hs) (position_below hc hs'))
  where
    go : {p p' d e : ℕ} → Steps C cut s p → Steps C cut s' p' → Steps C s s' d → Steps C p p' e → e ≡ d
    go (direct x) (direct y) (direct z) (direct w) = omega arith
    go (direct x) (direct y) (direct z) (round w l) = omega arith
    go (direct x) (direct y) (round z k) (direct w) = omega arith
    go (direct x) (direct y) (round z k) (round w l) = omega arith
    go (direct x) (round y j) (direct z) (direct w) = omega arith
    go (direct x) (round y j) (direct z) (round w l) = omega arith
    go (direct x) (round y j) (round z k) (direct w) = omega arith
    go (direct x) (round y j) (round z k) (round w l) = omega arith
    go (round x i) (direct y) (direct z) (direct w) = omega arith
    go (round x i) (direct y) (direct z) (round w l) = omega arith
    go (round x i) (direct y) (round z k) (direct w) = omega arith
    go (round x i) (direct y) (round z k) (round w l) = omega arith
    go (round x i) (round y j) (direct z) (direct w) = omega arith
    go (round x i) (round y j) (direct z) (round w l) = omega arith
    go (round x i) (round y j) (round z k) (direct w) = omega arith
    go (round x i) (round y j) (round z k) (round w l) = omega arith

-- where an arc of n ticks at position p ends, by whether it goes past the cut
pub data Ends (C p n e : ℕ) : Bool → Type 0 where
  past : e + C ≡ p + n → e ≤ p → Ends C p n e true
  short : e ≡ p + n → e ≤ C → p < e → Ends C p n e false

pub ends : {C p n : ℕ} → p < C → 1 ≤ n → n ≤ C → Ends C p n (end_of C p n) (crosses p (end_of C p n))
unfolding end_of
ends {C} {p} {n} below some whole = go (test (p + n) C) (test (end_of C p n) p)
  where
    go : {b c : Bool} → Test (p + n) C b → Test (cond b (p + n) (p + n - C)) p c → Ends C p n (cond b (p + n) (p + n - C)) c
    go (pass h) (pass k) = absurd (omega arith)
    go (pass h) (fail k) = short refl h k
    go (fail h) (pass k) = past (omega arith) k
    go (fail h) (fail k) = absurd (omega arith)

both_iff : (a b c d : ℕ) {P : Type 0} → ((a ≤ b) × (c ≤ d)) ↔ P → (leb a b && leb c d ≡ true) ↔ P
both_iff a b c d = Iff.trans (and_iff (leb_iff a b) (leb_iff c d))

either_iff : (a b c d : ℕ) {P : Type 0} → ((a ≤ b) ⊎ (c ≤ d)) ↔ P → (leb a b || leb c d ≡ true) ↔ P
either_iff a b c d = Iff.trans (or_iff (leb_iff a b) (leb_iff c d))

-- arcs at two positions are clear exactly if neither is so long that it has the other's position
module _ {C p n p' n' : ℕ} (below : p < C) (below' : p' < C) (some : 1 ≤ n) (whole : n ≤ C) (some' : 1 ≤ n') (whole' : n' ≤ C) where
  clear_far : (clear p (end_of C p n) p' (end_of C p' n') ≡ true) ↔ ((n ≤ distance C p p') × (n' ≤ distance C p' p))
  unfolding clear
  clear_far = go (ends below some whole) (ends below' some' whole') (steps below below') (steps below' below)
    where
      go : {e e' d d' : ℕ} {b b' : Bool} → Ends C p n e b → Ends C p' n' e' b' → Steps C p p' d → Steps C p' p d'
          → (cond b (cond b' false (leb e p' && leb e' p)) (cond b' (leb e' p && leb e p') (leb e p' || leb e' p)) ≡ true) ↔ ((n ≤ d) × (n' ≤ d'))
      go x y (round z j) (round w k) = absurd (omega arith)
      go (past x i) (past y l) (direct z) (direct w) = (λ f. absurd (false≢true f), λ f. absurd (omega arith))
      go (past x i) (past y l) (direct z) (round w k) = (λ f. absurd (false≢true f), λ f. absurd (omega arith))
      go (past x i) (past y l) (round z j) (direct w) = (λ f. absurd (false≢true f), λ f. absurd (omega arith))
      go {e} {e'} (past x i) (short y l m) (direct z) (direct w) = both_iff e p' e' p (λ f. omega arith, λ f. omega arith)
      go {e} {e'} (past x i) (short y l m) (direct z) (round w k) = both_iff e p' e' p (λ f. omega arith, λ f. omega arith)
      go {e} {e'} (past x i) (short y l m) (round z j) (direct w) = both_iff e p' e' p (λ f. omega arith, λ f. omega arith)
      go {e} {e'} (short x i h) (past y l) (direct z) (direct w) = both_iff e' p e p' (λ f. omega arith, λ f. omega arith)
      go {e} {e'} (short x i h) (past y l) (direct z) (round w k) = both_iff e' p e p' (λ f. omega arith, λ f. omega arith)
      go {e} {e'} (short x i h) (past y l) (round z j) (direct w) = both_iff e' p e p' (λ f. omega arith, λ f. omega arith)
      go {e} {e'} (short x i h) (short y l m) (direct z) (direct w) =
          either_iff e p' e' p (⊎_elim (λ f. omega arith) (λ f. omega arith), λ f. absurd (omega arith))
      go {e} {e'} (short x i h) (short y l m) (direct z) (round w k) =
          either_iff e p' e' p (⊎_elim (λ f. omega arith) (λ f. omega arith), λ f. inl (omega arith))
      go {e} {e'} (short x i h) (short y l m) (round z j) (direct w) =
          either_iff e p' e' p (⊎_elim (λ f. omega arith) (λ f. omega arith), λ f. inr (omega arith))

  near_clear : ((distance C p p' < n) ⊎ (distance C p' p < n')) ↔ (clear p (end_of C p n) p' (end_of C p' n') ≡ false)
  near_clear = (there (clear p (end_of C p n) p' (end_of C p' n')) (λ h. clear_far.0 h), back)
    where
      there : (t : Bool) → (t ≡ true → (n ≤ distance C p p') × (n' ≤ distance C p' p)) → (distance C p p' < n) ⊎ (distance C p' p < n') → t ≡ false
      there true f h = let g : (n ≤ distance C p p') × (n' ≤ distance C p' p) = f refl in absurd (⊎_elim (λ k. omega arith) (λ k. omega arith) h)
      there false f h = refl

      back : clear p (end_of C p n) p' (end_of C p' n') ≡ false → (distance C p p' < n) ⊎ (distance C p' p < n')
      back e = go (test n (distance C p p')) (test n' (distance C p' p))
        where
          go : {b b' : Bool} → Test n (distance C p p') b → Test n' (distance C p' p) b' → (distance C p p' < n) ⊎ (distance C p' p < n')
          go (fail h) t = inl h
          go (pass h) (fail k) = inr k
          go (pass h) (pass k) = absurd (false≢true (sym e ∙ clear_far.1 (h, k)))

-- what `Placed` says of a row
module _ {C cut : ℕ} {ss ls ps es : List ℕ} (arcs : Arcs C ss ls) (below : cut < C) (placed : Placed C cut ss ls ps es) (i : ℕ) (h : i < length ss) where
  pub placed_below : at ps i < C
  placed_below = rw (placed.position i h) (position_below below (arcs.start i h))

  pub placed_ends : Ends C (at ps i) (at ls i) (at es i) (crosses (at ps i) (at es i))
  placed_ends = rw (placed.end i h) (ends placed_below (arcs.proper i h) (arcs.whole i h))

module _ {C cut : ℕ} {ss ls ps es : List ℕ} (arcs : Arcs C ss ls) (below : cut < C) (placed : Placed C cut ss ls ps es) where
  placed_distance : (i j : ℕ) → i < length ss → j < length ss → distance C (at ps i) (at ps j) ≡ distance C (at ss i) (at ss j)
  placed_distance i j h k = rw (placed.position i h, placed.position j k) (turned below (arcs.start i h) (arcs.start j k))

  -- two arcs meet exactly if their positions and ends are not clear
  pub meet_clear : (i j : ℕ) → i < length ss → j < length ss
      → Meet C (at ss i) (at ls i) (at ss j) (at ls j) ↔ (clear (at ps i) (at es i) (at ps j) (at es j) ≡ false)
  meet_clear i j h k =
      rw (placed.end i h, placed.end j k)
      (Iff.trans
      (Iff.symm (meets_iff C (at ss i) (at ls i) (at ss j) (at ls j) (arcs.start i h) (arcs.start j k) (arcs.proper i h) (arcs.whole i h) (arcs.proper j k) (arcs.whole j k)))
      (Iff.trans (rw (placed_distance i j h k, placed_distance j i k h) (meets_near C (at ss i) (at ls i) (at ss j) (at ls j)))
      (near_clear (placed_below arcs below placed i h) (placed_below arcs below placed j k) (arcs.proper i h) (arcs.whole i h) (arcs.proper j k) (arcs.whole j k))))

-- The value of a pair: what it leaves is a line, so the most that its labels hear is the best of the line and the
-- pair's own rows.
use Prim.Native.Nat.{ℕ, zero, suc, ◌+◌, ◌-◌, ◌≤◌, ◌<◌}
use mathlib.Core.Path.{◌≡◌, refl, sym, ap, subst, ◌∙◌}
use mathlib.Core.Bool.{Bool, true, false, cond}
use mathlib.Core.List.{List, [], ◌∷◌, ◌++◌}
use native.Mathlib.Decide.{dec_lt}
use native.Mathlib.Omega.{arith}
use native.Mathlib.Numerals.{add-one}
use borrow.Author.Tests.{eqb-true}
use lib.Dec.{eqb}
use lib.ListN.{length, take, drop, length-append, length-drop, take-append-drop, get_or-append}
use lib.Seq.{get_or-drop, get_or-append-add, take_all}
use Rattle.basics.specs.Lists.{at}
use Rattle.labels.specs.Labels.{hears, heard}
use Rattle.labels.specs.Permission.{permits}
use Rattle.labels.proofs.Heard.{heard_nil, heard_append, heard_more}
use Rattle.arcs.specs.Order.{Crossing}
use Rattle.line.specs.Line.{LineRows, Settled, best_from}
use Rattle.line.specs.Filled.{NextRows, nexts_of}
use Rattle.line.proofs.Optimum.{line_sound, line_complete}
use Rattle.pairs.specs.Ready.{Most}
use Rattle.pairs.specs.Pairs.{pair_label, left_of, PairFit, LeftAll, one, with_pair}
use Rattle.pairs.proofs.Leaves.{left_iff, leaves_front, left_given}
use Rattle.pairs.proofs.Bounds.{one_more, one_none}
use Rattle.pairs.proofs.Numbers.{line_numbers, settled_iff}

-- a list of m entries by a rule
listed : (f : ℕ → ℕ) (m : ℕ) → (l : List ℕ) × (length l ≡ m) × ((k : ℕ) → k < m → at l k ≡ f k)
listed f zero = ([], refl, λ k h. absurd (omega arith))
listed f (suc m) =
    let r = listed (λ k. f (suc k)) m in
    (f 0 ∷ r.0, ap suc r.1, entry r.0 r.2)
  where
    entry : (l : List ℕ) → ((k : ℕ) → k < m → at l k ≡ f (suc k)) → (k : ℕ) → k < suc m → at (f 0 ∷ l) k ≡ f k
    entry l g zero h = refl
    entry l g (suc k) h = g k (omega arith)

-- ---- how many of the crossing rows are heard

module _ (positions ends : List ℕ) (m w1 w2 : ℕ) (distinct : w1 ≡ w2 → m ≤ w1) where
  hears_given : (i : ℕ) → i < m → hears (pair_label positions ends m w1 w2 i) ≡ cond (eqb i w1) 1 0 + cond (eqb i w2) 1 0
  unfolding hears
  hears_given i h = go (eqb i w1) refl (eqb i w2) refl
    where
      go : (a : Bool) → eqb i w1 ≡ a → (b : Bool) → eqb i w2 ≡ b → hears (cond a 1 (cond b 2 0)) ≡ cond a 1 0 + cond b 1 0
      go true p true q = absurd (omega (arith, distinct (sym (eqb-true i w1 p) ∙ eqb-true i w2 q), eqb-true i w1 p))
      go true p false q = refl
      go false p true q = refl
      go false p false q = refl

  pub heard_front : (l : List ℕ) → m ≤ length l → ((k : ℕ) → k < m → at l k ≡ pair_label positions ends m w1 w2 k) → heard (take m l) ≡ one m w1 + one m w2
  heard_front l b f = go m (omega arith)
    where
      go : (i : ℕ) → i ≤ m → heard (take i l) ≡ one i w1 + one i w2
      go zero h = omega (arith, heard_nil, one_none w1, one_none w2)
      go (suc i) h =
          subst (λ (n : ℕ). heard (take n l) ≡ one n w1 + one n w2) (add-one i)
          (omega (
            arith,
            heard_more l i (omega arith),
            go i (omega arith),
            ap hears (f i (omega arith)),
            hears_given i (omega arith),
            one_more i w1,
            one_more i w2,
          ))

-- ---- the rows that do not cross, as a line

pub behind : (m : ℕ) (l : List ℕ) (k : ℕ) → m ≤ k → at (drop m l) (k - m) ≡ at l k
behind m l k h = get_or-drop m l (k - m) 0 ∙ ap (at l) (omega arith)

module _ (positions ends perms left : List ℕ) (m w1 w2 : ℕ) (each_left : length left ≡ length positions)
    (crossing : Crossing positions ends m) (L : LeftAll positions ends perms m w1 w2 (length positions) left) where
  -- labels that the pair fits settle the line
  pub settled : (l : List ℕ) → PairFit positions ends perms m w1 w2 l → Settled (drop m positions) (drop m ends) (drop m left) (drop m l)
  settled l F =
      record {
        each = simp length-drop (omega (arith, F.fit.each));
        allowed = λ i h. simp get_or-drop (rw (L.each (m + i) (inside i h)) (F.fit.allowed (m + i) (inside i h)));
        apart = λ i j h k d x e c.
            F.fit.apart (m + i) (m + j) (inside i h) (inside j k) (omega arith) (simp get_or-drop at x) (simp get_or-drop at e)
            (omega arith, omega arith, simp get_or-drop at c);
      }
    where
      inside : (i : ℕ) → i < length (drop m positions) → m + i < length positions
      inside i h = omega (arith, length-drop m positions)

  -- they hear the pair's rows, and those of the line
  pub heard_pair : (l : List ℕ) → PairFit positions ends perms m w1 w2 l → heard l ≡ one m w1 + one m w2 + heard (drop m l)
  heard_pair l F =
      omega (
        arith,
        heard_append (take m l) (drop m l),
        ap heard (take-append-drop m l),
        heard_front positions ends m w1 w2 F.distinct l (omega (arith, F.fit.each, crossing.within)) gives,
      )
    where
      gives : (k : ℕ) → k < m → at l k ≡ pair_label positions ends m w1 w2 k
      gives k h =
          sym ((leaves_front positions ends m w1 w2 k (at l k) h).0 ((left_iff positions ends m w1 w2 k (at perms k) (at l k)).0 (F.fit.allowed k (omega (arith, crossing.within)))).1)

  -- and labels that settle the line, behind the labels that the pair gives, are labels that it fits
  fitted : (w1 ≡ w2 → m ≤ w1) → (f t : List ℕ) → length f ≡ m → ((k : ℕ) → k < m → at f k ≡ pair_label positions ends m w1 w2 k)
      → Settled (drop m positions) (drop m ends) (drop m left) t → PairFit positions ends perms m w1 w2 (f ++ t)
  fitted distinct f t long gives S =
      record {
        distinct = distinct;
        fit = record {
          each = simp length-append (omega (arith, S.each, length-drop m positions, crossing.within));
          allowed = λ k h. allowed k h (dec_lt k m);
          apart = λ i j h k d x e c.
              S.apart (i - m) (j - m) (inside i c.0 h) (inside j c.1 k) (λ q. d (omega (arith, c.0, c.1)))
              (λ z. x (later i c.0 ∙ z)) (sym (later i c.0) ∙ e ∙ later j c.1)
              (λ s. c.2 (rw (behind m positions i c.0, behind m positions j c.1, behind m ends i c.0, behind m ends j c.1) at s));
        };
      }
    where
      inside : (k : ℕ) → m ≤ k → k < length positions → k - m < length (drop m positions)
      inside k h b = omega (arith, length-drop m positions)

      later : (k : ℕ) → m ≤ k → at (f ++ t) k ≡ at t (k - m)
      later k h = ap (at (f ++ t)) (omega arith) ∙ get_or-append-add f t (k - m) 0

      allowed : (k : ℕ) → k < length positions → Dec (k < m) → permits (left_of positions ends m w1 w2 k (at perms k)) (at (f ++ t) k) ≡ true
      allowed k h (yes a) =
          subst (λ (x : ℕ). permits (left_of positions ends m w1 w2 k (at perms k)) x ≡ true) (sym (get_or-append f t 0 k (omega arith) ∙ gives k a))
          (left_given positions ends m w1 w2 k (at perms k) a (L.some k h))
      allowed k h (no a) =
          rw (later k (omega arith), ← L.each k h, ← behind m left k (omega arith)) (S.allowed (k - m) (inside k (omega arith) h))

  -- the value of the pair, from the best of the line
  module _ (distinct : w1 ≡ w2 → m ≤ w1) (rows : LineRows (drop m positions) (drop m ends)) {space : List ℕ} (N : NextRows (drop m positions) (drop m ends) space) where
    each : length (drop m left) ≡ length (drop m positions)
    each = simp length-drop (omega arith)

    line_value : ℕ
    line_value = best_from (nexts_of space (length (drop m left))) (drop m left) 0 0 0

    reached : (c : ℕ) → line_value ≡ suc c → (l : List ℕ) × PairFit positions ends perms m w1 w2 l × (suc (heard l) ≡ suc c + one m w1 + one m w2)
    unfolding line_value
    reached c e =
        let f = listed (pair_label positions ends m w1 w2) m in
        let t = line_sound _ _ _ (line_numbers rows N (drop m left) each) c e in
        (f.0 ++ t.0, fitted distinct f.0 t.0 f.1 f.2 ((settled_iff rows N (drop m left) each t.0).0 t.1), count f.0 t.0 f.1 f.2 t.2)
      where
        count : (f t : List ℕ) → length f ≡ m → ((k : ℕ) → k < m → at f k ≡ pair_label positions ends m w1 w2 k) → heard t ≡ c → suc (heard (f ++ t)) ≡ suc c + one m w1 + one m w2
        count f t long gives h =
            omega (arith, heard_append f t, ap heard (take_all m f (omega arith)), heard_front positions ends m w1 w2 distinct f (omega arith) gives)

    complete : (l : List ℕ) → PairFit positions ends perms m w1 w2 l → suc (heard (drop m l)) ≤ line_value
    unfolding line_value
    complete l F =
        line_complete _ _ _ (line_numbers rows N (drop m left) each) (drop m l) ((settled_iff rows N (drop m left) each (drop m l)).1 (settled l F))

    bound : (l : List ℕ) → PairFit positions ends perms m w1 w2 l → (v : ℕ) → line_value ≡ v → suc (heard l) ≤ with_pair m w1 w2 v
    unfolding with_pair
    bound l F zero e = absurd (omega (arith, complete l F))
    bound l F (suc c) e = omega (arith, complete l F, heard_pair l F)

    pub pair_most : (v : ℕ) → v ≡ best_from (nexts_of space (length (drop m left))) (drop m left) 0 0 0 → Most (PairFit positions ends perms m w1 w2) (with_pair m w1 w2 v)
    unfolding with_pair line_value
    pair_most v e = record { reached = found v (sym e); bound = λ l F. bound l F v (sym e) }
      where
        found : (u : ℕ) → line_value ≡ u → 0 < with_pair m w1 w2 u → (l : List ℕ) × PairFit positions ends perms m w1 w2 l × (suc (heard l) ≡ with_pair m w1 w2 u)
        found zero q h = absurd (omega arith)
        found (suc c) q h = reached c q

-- What no labels of a pair pass: they hear as many rows as the two receivers together, and each receiver no more than
-- it could alone with its crossing row.
use Prim.Native.Nat.{ℕ, zero, suc, ◌+◌, ◌-◌, ◌≤◌, ◌<◌}
use mathlib.Core.Path.{◌≡◌, refl, sym, ap, ◌∙◌}
use mathlib.Core.Logic.{◌≢◌, ⊎_elim}
use mathlib.Core.Bool.{Bool, true, false, cond, ◌||◌}
use mathlib.Core.List.{List, [], ◌∷◌, ◌++◌}
use native.Mathlib.Decide.{ℕ_discrete, dec_le, dec_lt}
use native.Mathlib.Omega.{arith}
use native.Mathlib.Numerals.{add-one}
use borrow.Author.Tests.{eqb-true, lt-ltb, le-ltb, eq-eqb, ne_eqb}
use lib.Dec.{eqb, ltb}
use lib.ListN.{length, take}
use lib.Seq.{take-suc}
use Rattle.basics.specs.Lists.{at}
use Rattle.basics.proofs.Tests.{cond_le}
use Rattle.labels.specs.Labels.{hears, heard}
use Rattle.labels.specs.Permission.{permits}
use Rattle.arcs.specs.Order.{InOrder, Crossing}
use Rattle.arcs.proofs.Sorting.{key_other}
use Rattle.pairs.specs.Pairs.{pair_label, leaves, PairFit, twice, one}
use Rattle.pairs.specs.Bounds.{labelled, HearsWith, Worth, Bound, bound_of}
use Rattle.pairs.proofs.Leaves.{chosen, leaves_front, leaves_rest, twice_none}
use Rattle.pairs.proofs.Fits.{left, front}

-- ---- how many rows have a label

labelled_append : (x : ℕ) (a b : List ℕ) → labelled x (a ++ b) ≡ labelled x a + labelled x b
unfolding labelled
labelled_append x [] b = omega arith
labelled_append x (y ∷ a) b = omega (arith, labelled_append x a b)

labelled_one : (x y : ℕ) → labelled x (y ∷ []) ≡ cond (eqb y x) 1 0
unfolding labelled
labelled_one x y = omega arith

-- one row more
pub labelled_more : (x : ℕ) (l : List ℕ) (i : ℕ) → i < length l → labelled x (take (i + 1) l) ≡ labelled x (take i l) + cond (eqb (at l i) x) 1 0
labelled_more x l i h = rw (add-one i, take-suc l i 0 h, labelled_append x (take i l) (at l i ∷ []), labelled_one x (at l i)) refl

-- ---- 1 for a crossing row, 0 for none

pub one_more : (i w : ℕ) → one (i + 1) w ≡ one i w + cond (eqb i w) 1 0
one_more i w = go (dec_lt w i) (ℕ_discrete i w)
  where
    go : Dec (w < i) → Dec (i ≡ w) → one (i + 1) w ≡ one i w + cond (eqb i w) 1 0
    go (yes a) (yes e) = absurd (omega arith)
    go (yes a) (no e) = rw (lt-ltb w i a, lt-ltb w (i + 1) (omega arith), ne_eqb i w e)
    go (no a) (yes e) = rw (le-ltb w i (omega arith), lt-ltb w (i + 1) (omega arith), eq-eqb i w e)
    go (no a) (no e) = rw (le-ltb w i (omega arith), le-ltb w (i + 1) (omega arith), ne_eqb i w e)

pub one_none : (w : ℕ) → one 0 w ≡ 0
one_none w = rw (le-ltb w 0 (omega arith)) refl

pub one_le : (i w : ℕ) → one i w ≤ 1
one_le i w = cond_le (ltb w i) (omega arith)

-- ---- heard are the rows that have the label 1 or 2

hears_either : (x : ℕ) → hears x ≡ cond (eqb x 1) 1 0 + cond (eqb x 2) 1 0
unfolding hears
hears_either zero = refl
hears_either (suc zero) = refl
hears_either (suc (suc zero)) = refl
hears_either (suc (suc (suc x))) = rw (ne_eqb (suc (suc (suc x))) 1 (λ e. omega arith), ne_eqb (suc (suc (suc x))) 2 (λ e. omega arith)) refl

heard_either : (l : List ℕ) → heard l ≡ labelled 1 l + labelled 2 l
unfolding heard labelled
heard_either [] = refl
heard_either (x ∷ l) = omega (arith, heard_either l, hears_either x)

-- ---- what each receiver hears of labels of a pair

module _ {positions ends : List ℕ} {m : ℕ} (crossing : Crossing positions ends m) (ordered : InOrder positions ends) where
  -- of rows that do not cross, a later one starts no earlier
  pub rises : (i j : ℕ) → m ≤ i → i ≤ j → j < length positions → at positions i ≤ at positions j
  rises i j a b h =
      omega (
        arith,
        ordered i j b h,
        key_other (at positions i) (at ends i) (crossing.rest i a (omega arith)),
        key_other (at positions j) (at ends j) (crossing.rest j (omega arith) h),
      )

  module _ {w1 w2 : ℕ} where
    -- a receiver's crossing row is given the receiver
    chosen_given : (w1 ≡ w2 → m ≤ w1) → (x : ℕ) → x ≢ 0 → chosen positions ends m w1 w2 x < m → pair_label positions ends m w1 w2 (chosen positions ends m w1 w2 x) ≡ x
    chosen_given d zero n h = absurd (n refl)
    chosen_given d (suc zero) n h = rw (eq-eqb w1 w1 refl)
    chosen_given d (suc (suc zero)) n h = rw (ne_eqb w2 w1 (λ e. omega (arith, d (sym e))), eq-eqb w2 w2 refl)
    chosen_given d (suc (suc (suc x))) n h = absurd (omega arith)

    hears_with : {perms : List ℕ} (l : List ℕ) → PairFit positions ends perms m w1 w2 l → (x : ℕ) → x ≢ 0 → HearsWith positions ends perms m x (chosen positions ends m w1 w2 x) l
    hears_with {perms} l F x n =
        record {
          each = F.fit.each;
          allowed = λ k h e. rw e at (kept k h).0;
          has = λ h.
              sym ((leaves_front positions ends m w1 w2 _ _ h).0 (kept (chosen positions ends m w1 w2 x) (omega (arith, crossing.within))).1)
              ∙ chosen_given F.distinct x n h;
          alone = λ k h e. front positions ends perms m crossing l w1 w2 F k h (λ z. n (sym e ∙ z)) ∙ ap (chosen positions ends m w1 w2) e;
          beside_it = λ k a h e. rw e at (leaves_rest positions ends m w1 w2 k (at l k) a (λ z. n (sym e ∙ z)) (kept k h).1);
          apart = λ i j a b h e f. over i j a b h e f (dec_le (at ends i) (at positions j));
        }
      where
        kept : (k : ℕ) → k < length positions → (permits (at perms k) (at l k) ≡ true) × (leaves positions ends m w1 w2 k (at l k) ≡ true)
        kept = left positions ends perms m crossing l w1 w2 F

        over : (i j : ℕ) → m ≤ i → i < j → j < length positions → at l i ≡ x → at l j ≡ x → Dec (at ends i ≤ at positions j) → at ends i ≤ at positions j
        over i j a b h e f (yes k) = k
        over i j a b h e f (no k) =
            absurd
            (F.fit.apart i j (omega arith) h (omega arith) (λ z. n (sym e ∙ z)) (e ∙ sym f)
            (a, omega arith, ⊎_elim k (λ s. omega (arith, rises i j a (omega arith) h, crossing.rest j (omega arith) h))))

    pub bound_holds : {perms : List ℕ} {one two : ℕ} → Worth positions ends perms m 1 w1 one → Worth positions ends perms m 2 w2 two → Bound positions ends perms m w1 w2 (bound_of m w1 w2 one two)
    bound_holds {one = one} {two} a b l F = go (eqb one 0) refl (eqb two 0) refl (twice m w1 w2) refl
      where
        first : suc (labelled 1 l) ≤ one
        first = a l (hears_with l F 1 (omega arith))

        second : suc (labelled 2 l) ≤ two
        second = b l (hears_with l F 2 (omega arith))

        go : (p : Bool) → eqb one 0 ≡ p → (q : Bool) → eqb two 0 ≡ q → (r : Bool) → twice m w1 w2 ≡ r → suc (heard l) ≤ cond (p || q || r) 0 (one + two - 1)
        go true e q f r g = absurd (omega (arith, first, eqb-true one 0 e))
        go false e true f r g = absurd (omega (arith, second, eqb-true two 0 f))
        go false e false f true g = absurd (twice_none g l F)
        go false e false f false g = omega (arith, first, second, heard_either l)

-- What a pair leaves a row: the permission permits exactly what the row's own permission permits and the pair leaves;
-- and when a pair has no labels.
use Prim.Native.Nat.{ℕ, zero, suc, ◌+◌, ◌≤◌, ◌<◌}
use mathlib.Core.Path.{◌≡◌, refl, sym, ap, subst, ◌∙◌}
use mathlib.Core.Logic.{◌↔◌, ◌≢◌}
use mathlib.Core.Bool.{Bool, true, false, cond, false≢true}
use mathlib.Core.List.{List}
use native.Mathlib.Decide.{dec_lt}
use native.Mathlib.Omega.{arith}
use borrow.Author.Tests.{eqb-true, eq-eqb, lt-ltb, le-ltb}
use borrow.Author.Count.{below_more}
use lib.Dec.{eqb}
use lib.ListN.{length, set}
use lib.Seq.{get_or-set_same, get_or-set_other}
use Rattle.basics.specs.Lists.{at}
use Rattle.basics.proofs.Lists.{at_map}
use Rattle.basics.proofs.Tests.{and_iff}
use Rattle.std.proofs.lemmas.Bool.Decides.{Decides-ltb, Decides-eqb}
use Rattle.labels.specs.Permission.{permits, restrict}
use Rattle.labels.proofs.Permissions.{none_permitted, restrict_iff, restrict_some}
use Rattle.pairs.specs.Pairs.{gathered, beside, pair_label, leaves, left_of, PairFit, LeftAll, Leaving, twice}

module _ (positions ends : List ℕ) (m w1 w2 : ℕ) where
  -- the crossing row of receiver x
  abbrev pub chosen : ℕ → ℕ
  chosen zero = m
  chosen (suc zero) = w1
  chosen (suc (suc zero)) = w2
  chosen (suc (suc (suc x))) = m

  pub left_iff : (k q x : ℕ) → (permits (left_of positions ends m w1 w2 k q) x ≡ true) ↔ ((permits q x ≡ true) × (leaves positions ends m w1 w2 k x ≡ true))
  left_iff k q = restrict_iff q (leaves positions ends m w1 w2 k)

  given_le : (k : ℕ) → pair_label positions ends m w1 w2 k ≤ 2
  given_le k = go (eqb k w1) (eqb k w2)
    where
      go : (a b : Bool) → cond a 1 (cond b 2 0) ≤ 2
      go true b = omega arith
      go false true = omega arith
      go false false = omega arith

  -- a crossing row has the label that the pair gives it
  pub leaves_front : (k x : ℕ) → k < m → (leaves positions ends m w1 w2 k x ≡ true) ↔ (pair_label positions ends m w1 w2 k ≡ x)
  leaves_front k zero h = rw (lt-ltb k m h) (eqb-true _ _, eq-eqb _ _)
  leaves_front k (suc zero) h = rw (lt-ltb k m h) (eqb-true _ _, eq-eqb _ _)
  leaves_front k (suc (suc zero)) h = rw (lt-ltb k m h) (eqb-true _ _, eq-eqb _ _)
  leaves_front k (suc (suc (suc x))) h = (λ e. absurd (false≢true e), λ e. absurd (omega (arith, given_le k)))

  pub leaves_rest : (k x : ℕ) → m ≤ k → x ≢ 0 → leaves positions ends m w1 w2 k x ≡ true → beside positions ends m (chosen x) k ≡ true
  leaves_rest k zero h n e = absurd (n refl)
  leaves_rest k (suc zero) h n e = rw (le-ltb k m h) at e
  leaves_rest k (suc (suc zero)) h n e = rw (le-ltb k m h) at e
  leaves_rest k (suc (suc (suc x))) h n e = absurd (false≢true e)

  pub rest_leaves : (k x : ℕ) → m ≤ k → x ≤ 2 → (x ≢ 0 → beside positions ends m (chosen x) k ≡ true) → leaves positions ends m w1 w2 k x ≡ true
  rest_leaves k zero h n f = rw (le-ltb k m h) refl
  rest_leaves k (suc zero) h n f = rw (le-ltb k m h) (f (omega arith))
  rest_leaves k (suc (suc zero)) h n f = rw (le-ltb k m h) (f (omega arith))
  rest_leaves k (suc (suc (suc x))) h n f = absurd (omega arith)

  -- a row that is given a receiver is the receiver's crossing row
  pub given_chosen : (k x : ℕ) → x ≢ 0 → pair_label positions ends m w1 w2 k ≡ x → k ≡ chosen x
  given_chosen k x n e = go (eqb k w1) refl (eqb k w2) refl
    where
      go : (a : Bool) → eqb k w1 ≡ a → (b : Bool) → eqb k w2 ≡ b → k ≡ chosen x
      go true p b q = eqb-true k w1 p ∙ ap chosen (rw p at e)
      go false p true q = eqb-true k w2 q ∙ ap chosen (rw (p, q) at e)
      go false p false q = absurd (n (sym (rw (p, q) at e)))

  -- a crossing row that is left with a label is left with the given one
  pub left_given : (k q : ℕ) → k < m → 0 < left_of positions ends m w1 w2 k q → permits (left_of positions ends m w1 w2 k q) (pair_label positions ends m w1 w2 k) ≡ true
  left_given k q h s =
      let p = restrict_some q (leaves positions ends m w1 w2 k) s in
      subst (λ (x : ℕ). permits (left_of positions ends m w1 w2 k q) x ≡ true) (sym ((leaves_front k p.0 h).0 ((left_iff k q p.0).0 p.1).1)) p.1

  -- what is left of a row's permission, read by the row at place k: for a crossing row, and for one that does not cross
  module _ (order perms : List ℕ) {k row : ℕ} (h : k < length order) (e : row ≡ at order k) where
    gathered_is : at perms row ≡ at (gathered order perms) k
    gathered_is = ap (at perms) e ∙ sym (at_map (at perms) order k h)

    pub left_crossing : {x r : ℕ} → k < m → r ≡ restrict (at perms row) (eqb x 0) (eqb x 1) (eqb x 2) → x ≡ pair_label positions ends m w1 w2 k
        → r ≡ left_of positions ends m w1 w2 k (at (gathered order perms) k)
    left_crossing l d f = d ∙ rw (f, gathered_is, lt-ltb k m l) refl

    pub left_line : {r : ℕ} {a b : Bool} → m ≤ k → r ≡ restrict (at perms row) true a b → a ≡ beside positions ends m w1 k → b ≡ beside positions ends m w2 k
        → r ≡ left_of positions ends m w1 w2 k (at (gathered order perms) k)
    left_line l d p q = d ∙ rw (p, q, gathered_is, le-ltb k m l) refl

  -- the rows one by one
  module _ (perms : List ℕ) where
    pub left_all_more : {left : List ℕ} (k r : ℕ) → k < length left → r ≡ left_of positions ends m w1 w2 k (at perms k) → (r ≡ 0 → ⊥)
        → LeftAll positions ends perms m w1 w2 k left → LeftAll positions ends perms m w1 w2 (k + 1) (set left k r)
    left_all_more {left} k r h e n L =
        record {
          each = below_more _ k (λ j b. get_or-set_other left k j r 0 (omega arith) ∙ L.each j b) (get_or-set_same left k r 0 h ∙ e);
          some = below_more _ k L.some (omega (arith, e));
        }

    pub leaving_zero : {left : List ℕ} {n r : ℕ} (k : ℕ) → k < length positions → r ≡ left_of positions ends m w1 w2 k (at perms k) → r ≡ 0
        → Leaving positions ends perms m w1 w2 n left false
    leaving_zero k h e z = record { all = λ f. absurd (false≢true f); none = λ f. (k, h, sym e ∙ z) }

    pub leaving_all : {left : List ℕ} {n : ℕ} → LeftAll positions ends perms m w1 w2 n left → Leaving positions ends perms m w1 w2 n left true
    leaving_all L = record { all = λ f. L; none = λ f. absurd (false≢true (sym f)) }

-- ---- a pair without labels

twice_iff : (m w1 w2 : ℕ) → (twice m w1 w2 ≡ true) ↔ ((w1 < m) × (w1 ≡ w2))
twice_iff m w1 w2 = and_iff (Decides-ltb w1 m) (Decides-eqb w1 w2)

module _ {positions ends perms : List ℕ} {m w1 w2 : ℕ} where
  pub twice_none : twice m w1 w2 ≡ true → (l : List ℕ) → PairFit positions ends perms m w1 w2 l → ⊥
  twice_none e l F = let t = (twice_iff m w1 w2).0 e in omega (arith, F.distinct t.1, t.0)

  pub leaving_none : {n : ℕ} {left : List ℕ} {b : Bool} → Leaving positions ends perms m w1 w2 n left b → b ≡ false → (l : List ℕ) → PairFit positions ends perms m w1 w2 l → ⊥
  leaving_none L e l F = let k = L.none e in none_permitted _ (at l k.0) k.2 (F.fit.allowed k.0 k.1)

pub twice_distinct : (m w1 w2 : ℕ) → twice m w1 w2 ≡ false → w1 ≡ w2 → m ≤ w1
twice_distinct m w1 w2 e q = go (dec_lt w1 m)
  where
    go : Dec (w1 < m) → m ≤ w1
    go (yes h) = absurd (false≢true (sym e ∙ (twice_iff m w1 w2).1 (h, q)))
    go (no h) = omega arith

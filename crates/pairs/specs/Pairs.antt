-- Inner: Rows in order, the first m of which cross the cut: pairs of crossing rows, one for each receiver, and the
-- permissions that a pair leaves.
use Rattle.std.specs.Prelude.{◌≡◌, ◌⊎◌, Bool, true, false, cond, ◌&&◌, ◌||◌, List, map, ℕ, zero, suc, ◌+◌, ◌≤◌, ◌<◌, leb, ltb, eqb, length}
use Rattle.basics.specs.Lists.{at}
use Rattle.labels.specs.Labels.{Assignment}
use Rattle.labels.specs.Permission.{permits, restrict}
use Rattle.arcs.specs.Positions.{clear}

-- the permissions of the rows in order: place k has that of row `order k`
abbrev pub gathered : List ℕ → List ℕ → List ℕ
gathered order perms = map (λ i. at perms i) order

-- labels of rows given by positions and ends
abbrev pub Cleared : List ℕ → List ℕ → List ℕ → List ℕ → Type 0
Cleared positions ends perms =
    Assignment (length positions) (λ i x. permits (at perms i) x ≡ true) (λ i j. clear (at positions i) (at ends i) (at positions j) (at ends j) ≡ false)

module _ (positions ends : List ℕ) (m : ℕ) where
  -- row k lies between the end and the position of the crossing row w, so it can share w's receiver; w = m is no row
  abbrev pub beside : ℕ → ℕ → Bool
  beside w k = leb m w || (leb (at ends w) (at positions k) && leb (at ends k) (at positions w))

  -- the label that a pair gives a crossing row
  abbrev pub pair_label : ℕ → ℕ → ℕ → ℕ
  pair_label w1 w2 k = cond (eqb k w1) 1 (cond (eqb k w2) 2 0)

  -- whether the pair (w1, w2) leaves row k the label x
  abbrev pub leaves : ℕ → ℕ → ℕ → ℕ → Bool
  leaves w1 w2 k zero = cond (ltb k m) (eqb (pair_label w1 w2 k) 0) true
  leaves w1 w2 k (suc zero) = cond (ltb k m) (eqb (pair_label w1 w2 k) 1) (beside w1 k)
  leaves w1 w2 k (suc (suc zero)) = cond (ltb k m) (eqb (pair_label w1 w2 k) 2) (beside w2 k)
  leaves w1 w2 k (suc (suc (suc x))) = false

  -- what the pair (w1, w2) leaves of the permission q of row k
  abbrev pub left_of : ℕ → ℕ → ℕ → ℕ → ℕ
  left_of w1 w2 k q = restrict q (leaves w1 w2 k 0) (leaves w1 w2 k 1) (leaves w1 w2 k 2)

-- labels that the pair (w1, w2) leaves, of which no two rows that do not cross overlap on one receiver; a pair is not
-- one crossing row twice
pub record PairFit (positions ends perms : List ℕ) (m w1 w2 : ℕ) (labels : List ℕ) : Type 0 where
  pub distinct : w1 ≡ w2 → m ≤ w1
  pub fit : Assignment (length positions)
      (λ k x. permits (left_of positions ends m w1 w2 k (at perms k)) x ≡ true)
      (λ i j. (m ≤ i) × (m ≤ j) × ((at ends i ≤ at positions j) ⊎ (at ends j ≤ at positions i) → ⊥))
      labels

-- the label lists of the classes D w with w from k to m
pub record Within (D : ℕ → List ℕ → Type 0) (k m : ℕ) (labels : List ℕ) : Type 0 where
  pub choice : ℕ
  pub low : k ≤ choice
  pub high : choice ≤ m
  pub member : D choice labels

-- labels that some pair with the crossing row w1 on receiver 1 fits
abbrev pub SecondFit : List ℕ → List ℕ → List ℕ → ℕ → ℕ → List ℕ → Type 0
SecondFit positions ends perms m w1 = Within (PairFit positions ends perms m w1) 0 m

-- what the pair (w1, w2) leaves of each permission stands in `left`, for the first n rows, and is not nothing
pub record LeftAll (positions ends perms : List ℕ) (m w1 w2 n : ℕ) (left : List ℕ) : Type 0 where
  pub each : (k : ℕ) → k < n → at left k ≡ left_of positions ends m w1 w2 k (at perms k)
  pub some : (k : ℕ) → k < n → 0 < left_of positions ends m w1 w2 k (at perms k)

-- the answer of `leave` for the first n rows: false where the pair leaves some row no label
pub record Leaving (positions ends perms : List ℕ) (m w1 w2 n : ℕ) (left : List ℕ) (r : Bool) : Type 0 where
  pub all : r ≡ true → LeftAll positions ends perms m w1 w2 n left
  pub none : r ≡ false → (k : ℕ) × (k < length positions) × (left_of positions ends m w1 w2 k (at perms k) ≡ 0)

-- the pair has one crossing row twice
abbrev pub twice : ℕ → ℕ → ℕ → Bool
twice m w1 w2 = ltb w1 m && eqb w1 w2

-- 1 for a row, 0 for none
abbrev pub one : ℕ → ℕ → ℕ
one m w = cond (ltb w m) 1 0

-- the value of a pair from that of the line: 0 stays 0, and the pair's rows are heard besides
unfoldable pub with_pair : ℕ → ℕ → ℕ → ℕ → ℕ
with_pair m w1 w2 zero = 0
with_pair m w1 w2 (suc c) = suc c + one m w1 + one m w2

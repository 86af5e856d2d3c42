-- Laws of `best_from`, what is best of the rows by number from row j on: one row, rows that can only be left out, and
-- that it asks no more than whether a receiver is free.
use mathlib.Core.Path.{◌≡◌, refl, sym, ap, ◌∙◌}
use mathlib.Core.List.{List, ◌∷◌}
use mathlib.Core.Bool.{Bool, true, false, ◌&&◌}
use Prim.Native.Nat.{ℕ, zero, suc, ◌+◌, ◌-◌, ◌≤◌, ◌<◌, max, min}
use native.Mathlib.Numerals.{add-one}
use native.Mathlib.Omega.{arith}
use native.Mathlib.Nat.{le_refl, max-zero, zero-max, zero-add}
use borrow.Author.Tests.{leb-true, le-leb, lt-leb}
use lib.Dec.{leb}
use lib.ListN.{length, drop, length-drop, drop_of_length-le}
use lib.Seq.{get_or-drop}
use Rattle.std.proofs.lemmas.List.FromFn.{length-range_with_len, get_or-range_with_len}
use Rattle.basics.specs.Lists.{at}
use Rattle.basics.proofs.Tests.{bool_ext}
use Rattle.labels.specs.Permission.{permits}
use Rattle.line.specs.declared.Receiver.{Receiver}
use Rattle.line.specs.declared.Receiver.TheVariants.{One, Two}
use Rattle.line.specs.Line.{Row, row, rows, when, gain, cell, best, numbers, best_from}
use Rattle.line.specs.Turns.{label}
use Rattle.line.proofs.Laws.{best_le, Same, best_same, row_at, drop_rows, length_rows, start_rows}

-- what is best of the rows from j on, receiver x free from row a on and the other one from row b on
abbrev pub best_of : Receiver → List ℕ → List ℕ → ℕ → ℕ → ℕ → ℕ
best_of One nexts perms j a b = best_from nexts perms j a b
best_of Two nexts perms j a b = best_from nexts perms j b a

-- ---- one row, by which receivers are free

when_true : (b : Bool) (v : ℕ) → when (b && true) v ≡ when b v
when_true true v = refl
when_true false v = refl

when_false : (b : Bool) (v : ℕ) → when (b && false) v ≡ 0
when_false true v = refl
when_false false v = refl

module _ (p j x y v0 v1 v2 : ℕ) where
  cell_both : x ≤ j → y ≤ j → cell p j x y v0 v1 v2 ≡ max (when (permits p 0) v0) (max (when (permits p 1) (gain v1)) (when (permits p 2) (gain v2)))
  unfolding cell
  cell_both hx hy = rw (le-leb x j hx, le-leb y j hy, when_true (permits p 1) (gain v1), when_true (permits p 2) (gain v2))

  cell_one : x ≤ j → j < y → cell p j x y v0 v1 v2 ≡ max (when (permits p 0) v0) (when (permits p 1) (gain v1))
  unfolding cell
  cell_one hx hy = rw (le-leb x j hx, lt-leb y j hy, when_true (permits p 1) (gain v1), when_false (permits p 2) (gain v2), max-zero)

  cell_two : j < x → y ≤ j → cell p j x y v0 v1 v2 ≡ max (when (permits p 0) v0) (when (permits p 2) (gain v2))
  unfolding cell
  cell_two hx hy = rw (lt-leb x j hx, le-leb y j hy, when_false (permits p 1) (gain v1), when_true (permits p 2) (gain v2), zero-max)

  cell_out : j < x → j < y → cell p j x y v0 v1 v2 ≡ when (permits p 0) v0
  unfolding cell
  cell_out hx hy = rw (lt-leb x j hx, lt-leb y j hy, when_false (permits p 1) (gain v1), when_false (permits p 2) (gain v2), max-zero)

-- the first row from k on that may not be left out, or how many rows there are
pub record Must (perms : List ℕ) (k must : ℕ) : Type 0 where
  pub from : k ≤ must
  pub within : must ≤ length perms
  pub before : (i : ℕ) → k ≤ i → i < must → permits (at perms i) 0 ≡ true
  pub not : must < length perms → permits (at perms must) 0 ≡ false

-- ---- the rows by number

module _ (nexts perms : List ℕ) where
  -- the rows from j on
  abbrev pub rows_from : ℕ → List Row
  rows_from j = drop j (rows (numbers (length perms)) nexts perms)

  pub number : (j : ℕ) → j < length perms → at (numbers (length perms)) j ≡ j
  number j h = get_or-range_with_len 0 (length perms) j 0 h ∙ zero-add j

  pub rows_most : length (rows (numbers (length perms)) nexts perms) ≤ length perms
  rows_most = omega (arith, length_rows (numbers (length perms)) nexts perms, length-range_with_len 0 (length perms))

  pub from_end : (x y : ℕ) → best_from nexts perms (length perms) x y ≡ 1
  unfolding best
  from_end x y = rw (drop_of_length-le (rows (numbers (length perms)) nexts perms) {i = length perms} rows_most)

  pub from_le : (j x y : ℕ) → best_from nexts perms j x y ≤ length perms + 1
  from_le j x y = omega (arith, best_le (rows_from j) x y, length-drop j (rows (numbers (length perms)) nexts perms), rows_most)

  -- all rows from j on start at j or later
  pub best_max : (j x y : ℕ) → best_from nexts perms j (max x j) (max y j) ≡ best_from nexts perms j x y
  best_max j x y = best_same (rows_from j) (max x j) x (max y j) y (same x) (same y)
    where
      start : (k : ℕ) → k < length (rows_from j) → (row_at (rows_from j) k).start ≡ j + k
      start k h =
          let i : j + k < length (rows (numbers (length perms)) nexts perms) = omega (arith, length-drop j (rows (numbers (length perms)) nexts perms)) in
          ap (λ (r : Row). r.start) (get_or-drop j (rows (numbers (length perms)) nexts perms) k (row 0 0 0))
          ∙ start_rows (numbers (length perms)) nexts perms (j + k) i
          ∙ number (j + k) (omega (arith, rows_most))

      same : (z : ℕ) → Same (rows_from j) (max z j) z
      same z k h =
          rw (start k h) (bool_ext (leb (max z j) (j + k)) (leb z (j + k))
          (λ e. le-leb z (j + k) (omega (arith, leb-true (max z j) (j + k) e)))
          (λ e. le-leb (max z j) (j + k) (omega (arith, leb-true z (j + k) e))))

  -- a receiver that is free from row j on, to the rows from the next one on
  from_free : (j x y x' y' : ℕ) → max x (j + 1) ≡ max x' (j + 1) → max y (j + 1) ≡ max y' (j + 1) → best_from nexts perms (j + 1) x y ≡ best_from nexts perms (j + 1) x' y'
  from_free j x y x' y' e d = sym (best_max (j + 1) x y) ∙ rw (e, d) (best_max (j + 1) x' y')

module _ (nexts perms : List ℕ) (each : length nexts ≡ length perms) where
  -- row j before the others
  pub from_cons : (j : ℕ) → j < length perms → rows_from nexts perms j ≡ row j (at nexts j) (at perms j) ∷ rows_from nexts perms (suc j)
  from_cons j h =
      let e = length-range_with_len 0 (length perms) in
      drop_rows (numbers (length perms)) nexts perms j (omega (arith, e)) (omega (arith, e)) (sym e)
      ∙ ap (λ s. row s (at nexts j) (at perms j) ∷ rows_from nexts perms (suc j)) (number nexts perms j h)

  from_step : (j x y : ℕ) → j < length perms → best_from nexts perms j x y
      ≡ cell (at perms j) j x y (best_from nexts perms (j + 1) x y) (best_from nexts perms (j + 1) (at nexts j) y) (best_from nexts perms (j + 1) x (at nexts j))
  unfolding best
  from_step j x y h = rw (from_cons j h, add-one)

  -- ---- one row

  pub both_step : (j : ℕ) → j < length perms → best_from nexts perms j j j
      ≡ max (when (permits (at perms j) 0) (best_from nexts perms (j + 1) (j + 1) (j + 1)))
      (max (when (permits (at perms j) 1) (gain (best_from nexts perms (j + 1) (at nexts j) (j + 1))))
      (when (permits (at perms j) 2) (gain (best_from nexts perms (j + 1) (j + 1) (at nexts j)))))
  both_step j h =
      from_step j j j h
      ∙ cell_both _ _ _ _ _ _ _ (le_refl j) (le_refl j)
      ∙ rw (
        from_free nexts perms j j j (j + 1) (j + 1) (omega arith) (omega arith),
        from_free nexts perms j (at nexts j) j (at nexts j) (j + 1) refl (omega arith),
        from_free nexts perms j j (at nexts j) (j + 1) (at nexts j) (omega arith) refl,
      )

  -- the other receiver is busy, so the row is left out or heard on this one
  pub own_step : (x : Receiver) (j b : ℕ) → j < length perms → j < b → best_of x nexts perms j j b
      ≡ max (when (permits (at perms j) 0) (best_of x nexts perms (j + 1) (j + 1) b)) (when (permits (at perms j) (label x)) (gain (best_of x nexts perms (j + 1) (at nexts j) b)))
  own_step One j b h k = from_step j j b h ∙ cell_one _ _ _ _ _ _ _ (le_refl j) k ∙ rw (from_free nexts perms j j b (j + 1) b (omega arith) refl)
  own_step Two j b h k = from_step j b j h ∙ cell_two _ _ _ _ _ _ _ k (le_refl j) ∙ rw (from_free nexts perms j b j b (j + 1) refl (omega arith))

  -- both receivers are busy, so the row is left out
  out_step : (j x y : ℕ) → j < length perms → j < x → j < y → best_from nexts perms j x y ≡ when (permits (at perms j) 0) (best_from nexts perms (j + 1) x y)
  out_step j x y h hx hy = from_step j x y h ∙ cell_out _ _ _ _ _ _ _ hx hy

  -- ---- rows that are left out since both receivers are busy

  -- all of them may be left out
  out_all : (d j m x y : ℕ) → j + d ≡ m → m ≤ length perms → m ≤ x → m ≤ y → ((i : ℕ) → j ≤ i → i < m → permits (at perms i) 0 ≡ true)
      → best_from nexts perms j x y ≡ best_from nexts perms m x y
  out_all zero j m x y e h hx hy p = let q : j ≡ m = omega arith in rw q
  out_all (suc d) j m x y e h hx hy p =
      out_step j x y (omega arith) (omega arith) (omega arith)
      ∙ rw (p j (omega arith) (omega arith)) (out_all d (j + 1) m x y (omega arith) h hx hy (λ i w. p i (omega arith)))

  -- one of them may not
  out_not : (d j m x y : ℕ) → j + d ≡ m → m < length perms → m < x → m < y → permits (at perms m) 0 ≡ false → best_from nexts perms j x y ≡ 0
  out_not zero j m x y e h hx hy p =
      let q : j ≡ m = omega arith in
      out_step j x y (omega arith) (omega arith) (omega arith) ∙ rw (q, p)
  out_not (suc d) j m x y e h hx hy p =
      out_step j x y (omega arith) (omega arith) (omega arith) ∙ rw (out_not d (j + 1) m x y (omega arith) h hx hy p) (when_none (permits (at perms j) 0))
    where
      when_none : (b : Bool) → when b 0 ≡ 0
      when_none true = refl
      when_none false = refl

  module _ (k must : ℕ) (m : Must perms k must) where
    pub best_skipped : (x : Receiver) (a b : ℕ) → k ≤ a → k ≤ b → min a b ≤ must → best_of x nexts perms k a b ≡ best_of x nexts perms (min a b) a b
    best_skipped One a b ha hb h = out_all (min a b - k) k (min a b) a b (omega arith) (omega (arith, m.within)) (omega arith) (omega arith) (λ i w v. m.before i w (omega arith))
    best_skipped Two a b ha hb h = out_all (min a b - k) k (min a b) b a (omega arith) (omega (arith, m.within)) (omega arith) (omega arith) (λ i w v. m.before i w (omega arith))

    pub best_none : (x : Receiver) (a b : ℕ) → must < min a b → min a b ≤ length perms → best_of x nexts perms k a b ≡ 0
    best_none One a b h w = out_not (must - k) k must a b (omega (arith, m.from)) (omega arith) (omega arith) (omega arith) (m.not (omega arith))
    best_none Two a b h w = out_not (must - k) k must b a (omega (arith, m.from)) (omega arith) (omega arith) (omega arith) (m.not (omega arith))

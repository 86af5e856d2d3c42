-- Laws of the checks of the rows: none looked at, one row more, done; and where they stop.
use Prim.Native.Nat.{ℕ, zero, suc, ◌+◌, ◌-◌, ◌≤◌, ◌<◌}
use mathlib.Core.Path.{◌≡◌, refl, sym, subst}
use native.Mathlib.Numerals.{add-one}
use native.Mathlib.Omega.{arith}
use lib.ListN.{length}
use borrow.Author.Tests.{eq-eqb, ne_eqb, eqb-true}
use Rattle.std.specs.Prelude.{true, false, List}
use Rattle.refusals.specs.Refusals.{number_of, Accepted, Lists, Outcome}
use Rattle.table.specs.Tables.{Table, rows, are_even, is_even, RowIn}
use Rattle.table.specs.Checks.{looked, look_from, row_check, rows_looked}

-- what the test of three lists says
pub even_lists : (starts ends marks : List ℕ) → are_even starts ends marks ≡ true → (length ends ≡ length starts) × (length marks ≡ length starts)
even_lists starts ends marks e = grind (arith, eqb-true)

-- a row of lists that pass it
pub row_in : (starts ends marks : List ℕ) (i : ℕ) → are_even starts ends marks ≡ true → i < length starts → RowIn starts ends marks i
row_in starts ends marks i e h = let even = even_lists starts ends marks e in record { each_end = even.0; each_mark = even.1; below = h }

module _ (t : Table) where
  -- the rows from i on are still to be looked at
  abbrev pub Ahead : ℕ → Type 0
  Ahead i = rows_looked t ≡ look_from (row_check t) i (rows t - i)

  pub uneven : is_even t ≡ false → looked Lists 0 ≡ rows_looked t
  unfolding rows_looked
  uneven e = rw e refl

  pub ahead_all : length t.ends ≡ rows t → length t.marks ≡ rows t → Ahead 0
  unfolding rows_looked
  ahead_all e m = let z : rows t - 0 ≡ rows t = omega arith in simp (eq-eqb (length t.ends) (rows t) e, eq-eqb (length t.marks) (rows t) m, z)

  ahead_row : (i : ℕ) → i < rows t → (d : ℕ) × (rows t - i ≡ suc d) × (rows t - (i + 1) ≡ d)
  ahead_row i h = (rows t - (i + 1), omega arith, refl)

  pub ahead_refused : (i : ℕ) (r : Outcome) → i < rows t → Ahead i → r ≡ row_check t i → (number_of r ≡ 0 → ⊥) → looked r (i + 1) ≡ rows_looked t
  unfolding look_from
  ahead_refused i r h a e n =
      let d = ahead_row i h in
      rw (a, d.1, ← e, ne_eqb (number_of r) 0 n) refl

  pub ahead_more : (i : ℕ) → i < rows t → Ahead i → number_of (row_check t i) ≡ 0 → Ahead (i + 1)
  unfolding look_from
  ahead_more i h a n =
      let d = ahead_row i h in
      rw (a, d.1, d.2, eq-eqb (number_of (row_check t i)) 0 n) refl

  pub ahead_done : (i : ℕ) → rows t ≤ i → Ahead i → looked Accepted i ≡ rows_looked t
  unfolding look_from
  ahead_done i h a = let z : rows t - i ≡ 0 = omega arith in rw (a, z) refl

  -- the checks stop at row k: the rows before it pass, and it is refused
  pub stops_at : length t.ends ≡ rows t → length t.marks ≡ rows t → (k : ℕ) → k < rows t → ((i : ℕ) → i < k → number_of (row_check t i) ≡ 0) → (number_of (row_check t k) ≡ 0 → ⊥)
      → rows_looked t ≡ looked (row_check t k) (k + 1)
  stops_at e m k h before n = sym (ahead_refused k (row_check t k) h (reached k (omega arith) before) refl n)
    where
      reached : (i : ℕ) → i ≤ rows t → ((j : ℕ) → j < i → number_of (row_check t j) ≡ 0) → Ahead i
      reached zero l f = ahead_all e m
      reached (suc i) l f =
          subst Ahead (add-one i) (ahead_more i (omega arith) (reached i (omega arith) (λ j b. f j (omega arith))) (f i (omega arith)))

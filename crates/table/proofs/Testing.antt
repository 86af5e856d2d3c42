-- Laws of the test for a plan, as its code goes through it: one row more.
use Prim.Native.Nat.{ℕ, ◌<◌}
use mathlib.Core.Path.{◌≡◌, refl, ◌∙◌, sym}
use mathlib.Core.Bool.{Bool, true, false, and-false}
use mathlib.Core.List.{List}
use lib.ListN.{length}
use borrow.Author.Tests.{eq-eqb, ne_eqb}
use Rattle.basics.specs.Lists.{at}
use Rattle.basics.specs.Tests.{every}
use Rattle.basics.proofs.Tests.{every_fails}
use Rattle.table.specs.Tables.{Table, rows, row_at, is_even, is_allowed, apart_at, is_fit, is_plan}

module _ (t : Table) (labels : List ℕ) where
  abbrev pub allowed_at : ℕ → Bool
  allowed_at i = is_allowed t.setting (row_at t i) (at labels i)

  abbrev pub apart_before : ℕ → Bool
  apart_before i = every i (apart_at t labels i)

  pub uneven_plan : is_even t ≡ false → false ≡ is_plan t labels
  unfolding is_plan
  uneven_plan e = rw e refl

  module _ (e : length t.ends ≡ rows t) (m : length t.marks ≡ rows t) where
    pub not_even_labels : (length labels ≡ rows t → ⊥) → false ≡ is_plan t labels
    unfolding is_plan
    not_even_labels h = simp (eq-eqb (length t.ends) (rows t) e, eq-eqb (length t.marks) (rows t) m, ne_eqb (length labels) (rows t) h)

    pub even_plan : length labels ≡ rows t → is_plan t labels ≡ every (rows t) (is_fit t labels)
    unfolding is_plan
    even_plan l = simp (eq-eqb (length t.ends) (rows t) e, eq-eqb (length t.marks) (rows t) m, eq-eqb (length labels) (rows t) l)

    module _ (l : length labels ≡ rows t) (i : ℕ) (h : i < rows t) where
      pub not_allowed : (r : Bool) → r ≡ allowed_at i → r ≡ false → false ≡ is_plan t labels
      unfolding is_fit
      not_allowed r q x = every_fails (is_fit t labels) i (rows t) h (rw (← q, x) refl) ∙ sym (even_plan l)

      pub not_apart : (r : Bool) → r ≡ apart_before i → r ≡ false → false ≡ is_plan t labels
      unfolding is_fit
      not_apart r q x = every_fails (is_fit t labels) i (rows t) h (rw (← q, x) (and-false (allowed_at i))) ∙ sym (even_plan l)

  pub fit_row : (i : ℕ) (r s : Bool) → r ≡ allowed_at i → r ≡ true → s ≡ apart_before i → s ≡ true → is_fit t labels i ≡ true
  unfolding is_fit
  fit_row i r s q x p y = rw (← q, x, ← p, y) refl

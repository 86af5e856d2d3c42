-- The plans of the table with a candidate as a row that must be heard are the plans, with its mark as lent, that hear
-- it.
use Prim.Native.Nat.{ℕ, zero, suc, ◌≤◌, ◌<◌}
use mathlib.Core.Path.{◌≡◌, sym, subst}
use mathlib.Core.Logic.{◌≢◌, ◌↔◌, ◌⊎◌, inl, inr}
use mathlib.Core.List.{List}
use native.Mathlib.Omega.{arith}
use native.Mathlib.Nat.{eq-or-lt_of_le}
use lib.ListN.{length}
use Rattle.basics.specs.Lists.{at}
use Rattle.marks.specs.Marks.{max_mark}
use Rattle.marks.proofs.Raising.{raised_must, raised_1, raised_2}
use Rattle.window.specs.declared.Kind.{Kind}
use Rattle.window.specs.declared.Kind.TheVariants.{Round, Run}
use Rattle.window.specs.declared.Row.{Row}
use Rattle.table.specs.declared.Setting.{Setting}
use Rattle.table.specs.Tables.{Table, rows, row_at, Open, Allowed, Plan}
use Rattle.table.specs.Changes.{with_row}
use Rattle.table.proofs.Changes.{rows_with_row, row_before, row_last}
use Rattle.candidates.specs.Tried.{must_row, table_with}

-- ---- the candidate's own label

open_same : (kind : Kind) (hours : List (List ℕ)) (r : Row) (label : ℕ) → Open kind hours (must_row r) label ↔ Open kind hours r label
open_same Round hours r label = (λ o. o, λ o. o)
open_same Run hours r zero = (λ o. o, λ o. o)
open_same Run hours r (suc k) = (λ o. o, λ o. o)

module _ (S : Setting) (r : Row) (mark : r.mark ≤ max_mark) (label : ℕ) where
  allowed_heard : Allowed S (must_row r) label ↔ (Allowed S r label × (label ≢ 0))
  allowed_heard = (
    λ a. (
      record {
        known = a.known;
        must = λ m. a.must (raised_must r.mark mark);
        receiver_1 = λ m. a.receiver_1 ((raised_1 r.mark).1 m);
        receiver_2 = λ m. a.receiver_2 ((raised_2 r.mark).1 m);
        hours = (open_same S.kind S.hours r label).0 a.hours;
      },
      a.must (raised_must r.mark mark),
    ),
    λ a.
        record {
          known = a.0.known;
          must = λ m. a.1;
          receiver_1 = λ m. a.0.receiver_1 ((raised_1 r.mark).0 m);
          receiver_2 = λ m. a.0.receiver_2 ((raised_2 r.mark).0 m);
          hours = (open_same S.kind S.hours r label).1 a.0.hours;
        },
  )

-- ---- plans

module _ (t : Table) (e : length t.ends ≡ rows t) (m : length t.marks ≡ rows t) (candidate : Row) (mark : candidate.mark ≤ max_mark) (labels : List ℕ) where
  -- what a plan asks of the label of row i, with and without the raised mark
  abbrev Must : ℕ → Type 0
  Must i = Allowed t.setting (row_at (table_with t candidate) i) (at labels i)

  abbrev Lent : ℕ → Type 0
  Lent i = Allowed t.setting (row_at (with_row t candidate) i) (at labels i)

  -- the rows before are the same
  before_iff : (i : ℕ) → i < rows t → Must i ↔ Lent i
  before_iff i h =
      rw (row_before t (must_row candidate) e m i h, row_before t candidate e m i h)
      (λ a. a, λ a. a)

  last_iff : Must (rows t) ↔ (Lent (rows t) × (at labels (rows t) ≢ 0))
  last_iff =
      rw (row_last t (must_row candidate) e m, row_last t candidate e m)
      (allowed_heard t.setting candidate mark (at labels (rows t)))

  -- THE PLANS THAT HEAR THE CANDIDATE
  pub plan_heard : Plan (table_with t candidate) labels ↔ (Plan (with_row t candidate) labels × (at labels (rows t) ≢ 0))
  plan_heard = (
    λ P. (record { each = P.each; allowed = λ i h. to P i h (where_is i h); apart = P.apart }, (last_iff.0 (P.allowed (rows t) (omega (arith, rows_with_row t candidate)))).1),
    λ P. record { each = P.0.each; allowed = λ i h. from P.0 P.1 i h (where_is i h); apart = P.0.apart },
  )
    where
      where_is : (i : ℕ) → i < rows (with_row t candidate) → (i ≡ rows t) ⊎ (i < rows t)
      where_is i h = eq-or-lt_of_le (omega (arith, rows_with_row t candidate))

      to : Plan (table_with t candidate) labels → (i : ℕ) → i < rows (with_row t candidate) → (i ≡ rows t) ⊎ (i < rows t) → Lent i
      to P i h (inl q) = subst Lent (sym q) (last_iff.0 (subst Must q (P.allowed i h))).0
      to P i h (inr b) = (before_iff i b).0 (P.allowed i h)

      from : Plan (with_row t candidate) labels → at labels (rows t) ≢ 0 → (i : ℕ) → i < rows (with_row t candidate) → (i ≡ rows t) ⊎ (i < rows t) → Must i
      from P n i h (inl q) = subst Must (sym q) (last_iff.1 (subst Lent q (P.allowed i h), n))
      from P n i h (inr b) = (before_iff i b).1 (P.allowed i h)

-- What a candidate is answered, from what the code asks: its row's checks, the count of the longer table, and whether
-- the table is full.
use Prim.Native.Nat.{ℕ, ◌≤◌, ◌<◌}
use mathlib.Core.Path.{◌≡◌, refl, sym, ap, ◌∙◌}
use mathlib.Core.Logic.{◌⊎◌, inl, inr}
use mathlib.Core.List.{List, [], ◌∷◌}
use mathlib.Core.Option.{Option as Maybe, none, some}
use native.Mathlib.Omega.{arith}
use lib.ListN.{length, length-append, length-replicate, replicate}
use borrow.Author.Tests.{eq-eqb, lt-leb}
use Rattle.basics.specs.Limits.{max_rows}
use Rattle.marks.proofs.Raising.{raised_within}
use Rattle.window.specs.declared.Row.{Row}
use Rattle.std.specs.Prelude.{Option, Some, None, Result, Ok, Err, IsErrAnd, IfOk, ok_or}
use Rattle.refusals.specs.declared.Refusal.{Refusal}
use Rattle.refusals.specs.declared.Refusal.TheVariants as refusal
use Rattle.refusals.specs.Refusals.{number_of, ◌then◌, Rows}
use Rattle.refusals.proofs.Refusals.{Passed, number_within, then_first}
use Rattle.labels.proofs.Heard.{heard_le}
use Rattle.table.specs.Tables.{Table, rows, Valid}
use Rattle.table.specs.Checks.{lengths_refusal, lists_refusal, row_refusal, table_looked}
use Rattle.table.specs.Planned.{space_bytes, space_refusal, checked, best_plan, Planned, given, planned}
use Rattle.table.proofs.Checked.{row_passed, table_passed}
use Rattle.table.proofs.Rivals.{best_plan_iff, planned_passed, planned_refused}
use Rattle.table.proofs.Changes.{rows_with_row, checked_with}
use Rattle.best_plan.specs.Rows.{ValidWith, count_of}
use Rattle.candidates.specs.Tried.{Tried, must_row, table_with, planning, tried}
use Rattle.candidates.specs.Lent.{RowAddable, told}

abbrev pub answer : ℕ → ℕ → Tried
answer number count = record { number = number; count = count }

module _ (t : Table) (candidate : Row) where
  -- the labels that planning the longer table is lent
  abbrev pub labels : List ℕ
  labels = replicate (rows (table_with t candidate)) 0

  -- an answer of the planner for the longer table is the candidate's
  pub answered_so : {p : Planned} → planned (table_with t candidate) labels space_bytes ≡ p → tried t candidate ≡ answer (number_of p.answer.refusal) p.answer.count
  unfolding tried planning
  answered_so e = ap (λ (p : Planned). answer (number_of p.answer.refusal) p.answer.count) e

  -- a candidate's mark is checked as it is lent and then raised: raised first, it would be refused alike
  pub checked_as_lent : row_refusal t.setting (must_row candidate) ≡ row_refusal t.setting candidate
  unfolding row_refusal
  checked_as_lent = rw (raised_within candidate.mark) refl

  module _ (p : Passed (table_looked t).refusal) (below : rows t < max_rows) where
    checks : checked (table_with t candidate) labels space_bytes ≡ row_refusal t.setting candidate
    unfolding space_refusal
    checks = checked_with t (must_row candidate) p below labels space_bytes (length-replicate (rows (table_with t candidate)) 0) ∙ checked_as_lent

    -- its own check refuses it
    pub refused_so : (number_of (row_refusal t.setting candidate) ≡ 0 → ⊥) → tried t candidate ≡ answer (number_of (row_refusal t.setting candidate)) 0
    refused_so n =
        answered_so (planned_refused (table_with t candidate) labels space_bytes (λ z. n (sym (ap number_of checks) ∙ z)))
        ∙ ap (λ r. answer (number_of r) 0) checks

    -- the same, of what the code's check returned
    pub tried_refused : {e : Refusal} → Err e ≡ row_refusal t.setting candidate → (r : Result ℕ Refusal) → IsErrAnd r (λ y. y ≡ e) → told r ≡ tried t candidate
    tried_refused q (Ok n) h = absurd h
    tried_refused {e} q (Err y) h = rw h (ap (λ x. answer (number_of x) 0) q ∙ sym (refused_so (λ z. omega (arith, ap number_of q, (number_within e).0))))

    -- its own check passes it
    pub tried_counted : Passed (row_refusal t.setting candidate) → tried t candidate ≡ told (ok_or (count_of (best_plan (table_with t candidate))) refusal.NoPlan)
    unfolding given count_of
    tried_counted q = answered_so (planned_passed (table_with t candidate) labels space_bytes (ap number_of checks ∙ q)) ∙ go (best_plan (table_with t candidate))
      where
        go : (o : Maybe (List ℕ)) → answer (number_of (given o labels).answer.refusal) (given o labels).answer.count ≡ told (ok_or (count_of o) refusal.NoPlan)
        go none = refl
        go (some plan) = refl

  -- BESIDE A FULL TABLE it is answered 2 with the count 0
  pub tried_full : length t.ends ≡ rows t → length t.marks ≡ rows t → rows t ≡ max_rows → tried t candidate ≡ answer 2 0
  unfolding checked lengths_refusal
  tried_full e m full =
      let c : checked (table_with t candidate) labels space_bytes ≡ Rows = sym (refuses) in
      answered_so (planned_refused (table_with t candidate) labels space_bytes (λ z. omega (arith, ap number_of c))) ∙ ap (λ r. answer (number_of r) 0) c
    where
      refuses : Rows ≡ checked (table_with t candidate) labels space_bytes
      refuses =
          let n = rows_with_row t (must_row candidate) in
          then_first {a = lists_refusal (table_with t candidate) labels} {r = Rows}
          (rw (
            eq-eqb (length (table_with t candidate).ends) (rows (table_with t candidate)) (omega (arith, length-append t.ends (candidate.end ∷ []), n)),
            eq-eqb (length (table_with t candidate).marks) (rows (table_with t candidate)) (omega (arith, length-append t.marks ((must_row candidate).mark ∷ []), n)),
            eq-eqb (length labels) (rows (table_with t candidate)) (length-replicate (rows (table_with t candidate)) 0),
            lt-leb (rows (table_with t candidate)) max_rows (omega arith),
          ) refl)
          (space_refusal space_bytes then (table_looked (table_with t candidate)).refusal) (λ z. omega arith)

-- a candidate that its own check passes is answered 0 or 8
pub told_number : (o : Option ℕ) → ((told (ok_or o refusal.NoPlan)).number ≡ 0) ⊎ ((told (ok_or o refusal.NoPlan)).number ≡ 8)
told_number (Some n) = inl refl
told_number None = inr refl

-- what counting for the longer table is lent
pub addable : (t : Table) (space : List ℕ) → RowAddable t space → (candidate : Row) → Passed (row_refusal t.setting candidate) → ValidWith t (must_row candidate)
addable t space a candidate q =
    record {
      valid = table_passed t a.passed.looked a.passed.lent.few;
      new = row_passed t.setting (must_row candidate) (ap number_of (checked_as_lent t candidate) ∙ q);
      few = a.below;
    }

-- a plan hears at most 64 rows
pub told_few : (t : Table) → Valid t → {best : Option ℕ} {r : Result ℕ Refusal} → best ≡ count_of (best_plan t) → r ≡ ok_or best refusal.NoPlan → IfOk r (λ n. n ≤ max_rows)
unfolding count_of
told_few t v {best} {r} b e = rw (e, b) (go (best_plan t) refl)
  where
    go : (o : Maybe (List ℕ)) → best_plan t ≡ o → IfOk (ok_or (count_of o) refusal.NoPlan) (λ n. n ≤ max_rows)
    go none q = tt
    go (some plan) q = omega (arith, heard_le plan, ((best_plan_iff t v plan).0 q).member.each, v.few)

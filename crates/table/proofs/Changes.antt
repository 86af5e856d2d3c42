-- Laws of a table with a row more, or without one of its rows: which row stands where, what the checks say, and that
-- a plan without a row is a plan of the table without it.
use Prim.Native.Nat.{ℕ, zero, suc, ◌+◌, ◌-◌, ◌≤◌, ◌<◌}
use mathlib.Core.Path.{◌≡◌, refl, sym, ap, subst, ◌∙◌}
use mathlib.Core.Logic.{◌⊎◌, inl, inr}
use mathlib.Core.Bool.{Bool, true, false, cond}
use mathlib.Core.List.{List, [], ◌∷◌}
use mathlib.Core.Option.{Option, none, some}
use native.Mathlib.Nat.{le_refl, eq-or-lt_of_le}
use native.Mathlib.Omega.{arith}
use borrow.Author.Tests.{eq-eqb, eqb-true}
use lib.ListN.{length, length-append, get_or-append}
use lib.Seq.{get_or_at}
use Rattle.basics.specs.Limits.{max_rows}
use Rattle.basics.specs.Lists.{without}
use Rattle.basics.proofs.Lists.{length_without, past, at_without, past_earlier, past_later, past_most, past_apart}
use Rattle.window.specs.declared.Row.{Row}
use Rattle.window.specs.Rows.{row}
use Rattle.refusals.specs.Refusals.{number_of, answered, passes, ◌then◌, Accepted, Outcome}
use Rattle.refusals.proofs.Refusals.{Passed, passed_accepted, then_next, then_assoc, then_passes}
use Rattle.table.specs.Tables.{Table, rows, row_at, Clash, Plan, ValidRow, Valid}
use Rattle.table.specs.Checks.{lists_refusal, setting_refusal, row_refusal, looked, look_from, row_check, rows_looked, table_looked}
use Rattle.table.specs.Planned.{space_refusal, checked, best_plan, answering, given, plan_refusal, planned}
use Rattle.table.specs.Changes.{with_row, without_row}
use Rattle.table.proofs.Looking.{ahead_all}
use Rattle.table.proofs.Passing.{lengths_pass, lists_pass, rows_pass}
use Rattle.table.proofs.Checked.{then_looked, rows_passed, table_passed}
use Rattle.table.proofs.Rivals.{no_plan, planned_passed}

-- ---- a row more

module _ (t : Table) (new : Row) where
  pub rows_with_row : rows (with_row t new) ≡ rows t + 1
  rows_with_row = omega (arith, length-append t.starts (new.start ∷ []))

  module _ (e : length t.ends ≡ rows t) (m : length t.marks ≡ rows t) where
    -- the rows that were there are where they were
    pub row_before : (i : ℕ) → i < rows t → row_at (with_row t new) i ≡ row_at t i
    row_before i h =
        λ j. row
        (get_or-append t.starts (new.start ∷ []) 0 i h j)
        (get_or-append t.ends (new.end ∷ []) 0 i (omega arith) j)
        (get_or-append t.marks (new.mark ∷ []) 0 i (omega arith) j)

    -- and the new one is the last
    pub row_last : row_at (with_row t new) (rows t) ≡ new
    row_last =
        λ j. row
        (get_or_at t.starts new.start [] 0 (rows t) refl j)
        (get_or_at t.ends new.end [] 0 (rows t) e j)
        (get_or_at t.marks new.mark [] 0 (rows t) m j)

    -- what the checks leave known holds of the longer table
    pub valid_with : Valid t → ValidRow t.setting new → rows t < max_rows → Valid (with_row t new)
    valid_with v w h =
        record {
          few = omega (arith, rows_with_row);
          each_end = omega (arith, length-append t.ends (new.end ∷ []), rows_with_row);
          each_mark = omega (arith, length-append t.marks (new.mark ∷ []), rows_with_row);
          setting = v.setting;
          row = λ i b. go i (eq-or-lt_of_le (omega (arith, rows_with_row)));
        }
      where
        go : (i : ℕ) → (i ≡ rows t) ⊎ (i < rows t) → ValidRow t.setting (row_at (with_row t new) i)
        go i (inl q) = rw (q, row_last) w
        go i (inr q) = rw (row_before i q) (v.row i q)

-- the rows before pass: the last of them is the one that is looked at
look_last : (check : ℕ → Outcome) (i n : ℕ) → ((k : ℕ) → i ≤ k → k < i + n → Passed (check k)) → (look_from check i (suc n)).refusal ≡ check (i + n)
unfolding look_from
look_last check i zero f = go (passes (check i)) refl ∙ ap check (omega arith)
  where
    go : (x : Bool) → passes (check i) ≡ x → (cond x (looked Accepted (i + 1)) (looked (check i) (i + 1))).refusal ≡ check i
    go true e = sym (passed_accepted (check i) (eqb-true (number_of (check i)) 0 e))
    go false e = refl
look_last check i (suc n) f =
    rw (eq-eqb (number_of (check i)) 0 (f i (le_refl i) (omega arith)))
    (look_last check (i + 1) n (λ k a b. f k (omega arith) (omega arith)) ∙ ap check (omega arith))

module _ (t : Table) (new : Row) (p : Passed (table_looked t).refusal) where
  -- a table that passes its checks, with a row more: that row is looked at
  pub looked_with : (table_looked (with_row t new)).refusal ≡ row_refusal t.setting new
  unfolding table_looked
  looked_with =
      let f = then_looked (setting_refusal t.setting) 0 (rows_looked t) p in
      let r = rows_passed t f.1 in
      let check = row_check (with_row t new) in
      let e : length (with_row t new).ends ≡ rows (with_row t new) = omega (arith, length-append t.ends (new.end ∷ []), rows_with_row t new, r.0.0) in
      let m : length (with_row t new).marks ≡ rows (with_row t new) = omega (arith, length-append t.marks (new.mark ∷ []), rows_with_row t new, r.0.1) in
      let before : (k : ℕ) → 0 ≤ k → k < 0 + rows t → Passed (check k) = λ k _ b. ap (λ (x : Row). number_of (row_refusal t.setting x)) (row_before t new r.0.0 r.0.1 k (omega arith)) ∙ r.1 k (omega arith) in
      let n : rows (with_row t new) - 0 ≡ suc (rows t) = omega (arith, rows_with_row t new) in
      rw (eq-eqb (number_of (setting_refusal t.setting)) 0 f.0, ahead_all (with_row t new) e m, n)
      (look_last check 0 (rows t) before ∙ ap check (omega arith) ∙ ap (row_refusal t.setting) (row_last t new r.0.0 r.0.1))

-- the checks before 8 end as they do, and then there is a plan or not
pub planned_ends : (t : Table) (before : List ℕ) (space : ℕ) → (planned t before space).answer.refusal ≡ (checked t before space then plan_refusal t)
unfolding planned given
planned_ends t before space = go (passes (checked t before space)) (best_plan t)
  where
    go : (x : Bool) (o : Option (List ℕ)) → (cond x (given o before) (answering (answered (checked t before space) 0) before)).answer.refusal ≡ cond x (given o []).answer.refusal (checked t before space)
    go true none = refl
    go true (some plan) = refl
    go false o = refl

module _ (t : Table) (new : Row) (p : Passed (table_looked t).refusal) (room : rows t < max_rows) where
  -- the checks of a table that passes them, with a row more: 3, then that row for 6 and 7
  pub checked_with : (before : List ℕ) (space : ℕ) → length before ≡ rows (with_row t new) → checked (with_row t new) before space ≡ (space_refusal space then row_refusal t.setting new)
  unfolding checked
  checked_with before space l =
      let t' = with_row t new in
      let r = (rows_passed t (then_looked (setting_refusal t.setting) 0 (rows_looked t) p).1).0 in
      let lists : Passed (lists_refusal t' before) =
      lengths_pass (rows t') (length t'.ends) (length t'.marks) (length before) (omega (arith, rows_with_row t new))
      (omega (arith, length-append t.ends (new.end ∷ []), rows_with_row t new, r.0)) (omega (arith, length-append t.marks (new.mark ∷ []), rows_with_row t new, r.1)) l in
      sym (then_next {a = lists_refusal t' before} {r = lists_refusal t' before} refl lists refl) ∙ ap (λ x. space_refusal space then x) (looked_with t new p)

  -- and planning it: then 8
  pub planned_with : (before : List ℕ) (space : ℕ) → length before ≡ rows (with_row t new)
      → (planned (with_row t new) before space).answer.refusal ≡ (space_refusal space then row_refusal t.setting new then plan_refusal (with_row t new))
  planned_with before space l =
      let t' = with_row t new in
      planned_ends t' before space ∙ ap (λ x. x then plan_refusal t') (checked_with before space l) ∙ then_assoc (space_refusal space) (row_refusal t.setting new) (plan_refusal t')

-- ---- a row less

module _ (t : Table) (k : ℕ) where
  -- row i of the table without row k
  pub row_without : (i : ℕ) → row_at (without_row t k) i ≡ row_at t (past k i)
  row_without i = λ j. row (at_without k t.starts i j) (at_without k t.ends i j) (at_without k t.marks i j)

  -- the rows before it are where they were, and those after it moved up one
  pub row_earlier : (i : ℕ) → i < k → row_at (without_row t k) i ≡ row_at t i
  row_earlier i h = row_without i ∙ ap (row_at t) (past_earlier k i h)

  pub row_later : (i : ℕ) → k ≤ i → row_at (without_row t k) i ≡ row_at t (i + 1)
  row_later i h = row_without i ∙ ap (row_at t) (past_later k i h)

  module _ (h : k < rows t) where
    pub rows_without : rows (without_row t k) + 1 ≡ rows t
    rows_without = length_without k t.starts h

    past_below : (i : ℕ) → i < rows (without_row t k) → past k i < rows t
    past_below i b = omega (arith, rows_without, past_most k i)

    -- A PLAN WITHOUT ONE ROW is a plan of the table without the row.
    pub plan_without : (labels : List ℕ) → Plan t labels → Plan (without_row t k) (without k labels)
    plan_without labels P =
        record {
          each = omega (arith, length_without k labels (omega (arith, P.each)), P.each, rows_without);
          allowed = λ i b. rw (row_without i, at_without k labels i) (P.allowed (past k i) (past_below i b));
          apart = λ i j a b d n e c.
              P.apart (past k i) (past k j) (past_below i a) (past_below j b) (past_apart k i j d)
              (λ z. n (at_without k labels i ∙ z)) (sym (at_without k labels i) ∙ e ∙ at_without k labels j)
              (clash i j c);
        }
      where
        clash : (i j : ℕ) → Clash t.setting (row_at (without_row t k) i) (row_at (without_row t k) j) → Clash t.setting (row_at t (past k i)) (row_at t (past k j))
        clash i j c =
            subst (λ (r : Row). Clash t.setting (row_at t (past k i)) r) (row_without j)
            (subst (λ (r : Row). Clash t.setting r (row_at (without_row t k) j)) (row_without i) c)

    -- what the checks leave known holds of the table without the row
    pub valid_without : Valid t → Valid (without_row t k)
    valid_without v =
        record {
          few = omega (arith, v.few, rows_without);
          each_end = omega (arith, length_without k t.ends (omega (arith, v.each_end)), v.each_end, rows_without);
          each_mark = omega (arith, length_without k t.marks (omega (arith, v.each_mark)), v.each_mark, rows_without);
          setting = v.setting;
          row = λ i b. rw (row_without i) (v.row (past k i) (past_below i b));
        }

module _ (t : Table) (k : ℕ) (h : k < rows t) (p : Passed (table_looked t).refusal) (few : rows t ≤ max_rows) where
  valid : Valid (without_row t k)
  valid = valid_without t k h (table_passed t p few)

  -- a table that passes its checks passes them without the row
  looked_without : Passed (table_looked (without_row t k)).refusal
  unfolding table_looked
  looked_without =
      rw (eq-eqb (number_of (setting_refusal t.setting)) 0 (then_looked (setting_refusal t.setting) 0 (rows_looked t) p).0)
      (rows_pass (without_row t k) valid)

  -- A WITHDRAWAL FROM A TABLE THAT HAS A PLAN NEVER ENDS IN 8: planning the table without the row is accepted.
  pub planned_without : (labels : List ℕ) → Plan t labels → (before : List ℕ) (space : ℕ) → length before ≡ rows (without_row t k) → Passed (space_refusal space)
      → (planned (without_row t k) before space).answer.refusal ≡ Accepted
  unfolding checked given
  planned_without labels P before space l s =
      let t' = without_row t k in
      let c : Passed (checked t' before space) =
      then_passes (lists_refusal t' before) (space_refusal space then (table_looked t').refusal) (lists_pass t' valid before l)
      (then_passes (space_refusal space) (table_looked t').refusal s looked_without) in
      rw (planned_passed t' before space c) (go (best_plan t') refl)
    where
      go : (o : Option (List ℕ)) → best_plan (without_row t k) ≡ o → (given o before).answer.refusal ≡ Accepted
      go none e = absurd ((no_plan (without_row t k) valid).0 e (without k labels) (plan_without t k h labels P))
      go (some plan) e = refl

-- The converse of what the checks leave known: a valid table whose hours pass check 5 passes all checks before 8 and 9.
use Prim.Native.Nat.{ℕ, zero, suc, ◌+◌, ◌≤◌, ◌<◌}
use mathlib.Core.Path.{◌≡◌, refl}
use mathlib.Core.Bool.{◌&&◌}
use mathlib.Core.List.{List}
use native.Mathlib.Omega.{arith}
use native.Mathlib.Nat.{le_refl}
use borrow.Author.Tests.{eq-eqb}
use lib.Dec.{leb, eqb}
use lib.ListN.{length}
use Rattle.basics.specs.Limits.{max_rows}
use Rattle.std.proofs.lemmas.Bool.Decides.{Decides-eqb}
use Rattle.basics.proofs.Tests.{leb_iff, and_iff}
use Rattle.marks.specs.Marks.{max_mark}
use Rattle.window.specs.declared.Row.{Row}
use Rattle.window.specs.Windows.{is_window}
use Rattle.window.specs.Gaps.{max_gap}
use Rattle.window.specs.Ticks.{max_ticks}
use Rattle.window.proofs.Meaning.{window_iff}
use Rattle.refusals.specs.Refusals.{number_of, asked, ◌then◌, Lists, Rows, Ticks, Gap, Window, Mark, Outcome}
use Rattle.refusals.proofs.Refusals.{Passed, asked_passes, then_passes}
use Rattle.table.specs.declared.Setting.{Setting}
use Rattle.table.specs.Tables.{Table, rows, row_at, ValidSetting, ValidRow, Valid}
use Rattle.table.specs.Checks.{lengths_refusal, lists_refusal, ticks_refusal, hours_refusal, gap_refusal, setting_refusal, row_refusal, look_from, row_check, rows_looked, table_looked}

-- the rows from i on, n of them
look_passes : (check : ℕ → Outcome) (i n : ℕ) → ((k : ℕ) → i ≤ k → k < i + n → Passed (check k)) → Passed (look_from check i n).refusal
unfolding look_from
look_passes check i zero f = refl
look_passes check i (suc n) f =
    rw (eq-eqb (number_of (check i)) 0 (f i (le_refl i) (omega arith)))
    (look_passes check (i + 1) n (λ k h l. f k (omega arith) (omega arith)))

module _ (S : Setting) where
  setting_passes : ValidSetting S → Passed (hours_refusal S.kind S.ticks S.hours) → Passed (setting_refusal S)
  unfolding setting_refusal ticks_refusal gap_refusal
  setting_passes v p =
      let ticks = leb 2 S.ticks && leb S.ticks max_ticks in
      let hours = hours_refusal S.kind S.ticks S.hours in
      let gap = leb S.gap max_gap in
      then_passes (asked ticks Ticks) (hours then asked gap Gap)
      (asked_passes ticks Ticks ((and_iff (leb_iff 2 S.ticks) (leb_iff S.ticks max_ticks)).1 (v.ticks_least, v.ticks_most)))
      (then_passes hours (asked gap Gap) p (asked_passes gap Gap ((leb_iff S.gap max_gap).1 v.gap_most)))

  row_passes : (row : Row) → ValidRow S row → Passed (row_refusal S row)
  unfolding row_refusal
  row_passes row v =
      let shape = is_window S.kind S.ticks row.start row.end in
      let mark = leb row.mark max_mark in
      then_passes (asked shape Window) (asked mark Mark)
      (asked_passes shape Window ((window_iff S.kind S.ticks row.start row.end).1 v.window))
      (asked_passes mark Mark ((leb_iff row.mark max_mark).1 v.mark))

-- equally long lists of at most 64 rows
pub lengths_pass : (n e m l : ℕ) → n ≤ max_rows → e ≡ n → m ≡ n → l ≡ n → Passed (lengths_refusal n e m l)
unfolding lengths_refusal
lengths_pass n e m l few a b c =
    let even = eqb e n && eqb m n && eqb l n in
    then_passes (asked even Lists) (asked (leb n max_rows) Rows)
    (asked_passes even Lists ((and_iff (and_iff (Decides-eqb e n) (Decides-eqb m n)) (Decides-eqb l n)).1 ((a, b), c)))
    (asked_passes (leb n max_rows) Rows ((leb_iff n max_rows).1 few))

module _ (t : Table) (valid : Valid t) where
  pub lists_pass : (labels : List ℕ) → length labels ≡ rows t → Passed (lists_refusal t labels)
  lists_pass labels e = lengths_pass (rows t) (length t.ends) (length t.marks) (length labels) valid.few valid.each_end valid.each_mark e

  pub rows_pass : Passed (rows_looked t).refusal
  unfolding rows_looked
  rows_pass =
      rw (eq-eqb (length t.ends) (rows t) valid.each_end, eq-eqb (length t.marks) (rows t) valid.each_mark)
      (look_passes (row_check t) 0 (rows t) (λ k _ l. row_passes t.setting (row_at t k) (valid.row k (omega arith))))

  pub table_passes : Passed (hours_refusal t.setting.kind t.setting.ticks t.setting.hours) → Passed (table_looked t).refusal
  unfolding table_looked
  table_passes p = rw (eq-eqb (number_of (setting_refusal t.setting)) 0 (setting_passes t.setting valid.setting p)) rows_pass

-- A call that passes all checks before 8 has a valid table; which refusals the checks can give, and that none before
-- 8 gives 8.
use Prim.Native.Nat.{ℕ, zero, suc, ◌+◌, ◌≤◌, ◌<◌}
use mathlib.Core.Path.{◌≡◌, refl, sym, ◌∙◌}
use mathlib.Core.Logic.{◌≢◌, ⊎_elim}
use mathlib.Core.Bool.{Bool, true, false, cond, ◌&&◌}
use mathlib.Core.List.{List}
use native.Mathlib.Omega.{arith}
use native.Mathlib.Nat.{eq-or-lt_of_le}
use lib.Dec.{leb, eqb}
use lib.ListN.{length}
use borrow.Author.Tests.{eq-eqb, eqb-true, eqb-false, leb-true}
use Rattle.std.proofs.lemmas.Bool.Decides.{Decides-eqb}
use Rattle.basics.proofs.Tests.{leb_iff, and_iff}
use Rattle.window.specs.declared.Kind.{Kind}
use Rattle.window.specs.declared.Kind.TheVariants.{Round, Run}
use Rattle.marks.specs.Marks.{max_mark}
use Rattle.window.specs.declared.Row.{Row}
use Rattle.window.specs.Windows.{is_window}
use Rattle.window.specs.Gaps.{max_gap}
use Rattle.window.specs.Ticks.{max_ticks}
use Rattle.window.proofs.Meaning.{window_iff}
use Rattle.refusals.specs.Refusals.{number_of, asked, passes, ◌then◌, Accepted, Lists, Rows, Space, Ticks, Hours, Gap, Window, Mark, Outcome}
use Rattle.refusals.proofs.Refusals.{Passed, then_passed, asked_passed, then_either, asked_either}
use Rattle.table.specs.declared.Setting.{Setting}
use Rattle.table.specs.declared.Looked.{Looked}
use Rattle.table.specs.Tables.{Table, rows, row_at, is_even, ValidSetting, ValidRow, Valid}
use Rattle.table.specs.Checks.{lengths_refusal, lists_refusal, ticks_refusal, is_hours, hours_refusal, gap_refusal, setting_refusal, row_refusal, looked, look_from, row_check, rows_looked, table_looked}
use Rattle.table.specs.Planned.{space_bytes, space_refusal, checked}

cond_passed : (x : Bool) (a b : Looked) → 1 ≤ number_of b.refusal → Passed (cond x a b).refusal → (x ≡ true) × Passed a.refusal
cond_passed true a b h p = (refl, p)
cond_passed false a b h p = absurd (omega arith)

-- by the lengths of the four lists
pub lengths_passed : (n e m l : ℕ) → Passed (lengths_refusal n e m l) → ((e ≡ n) × (m ≡ n) × (l ≡ n)) × (n ≤ 64)
unfolding lengths_refusal
lengths_passed n e m l p =
    let f = then_passed (asked (eqb e n && eqb m n && eqb l n) Lists) (asked (leb n 64) Rows) p in
    let s = (and_iff (and_iff (Decides-eqb e n) (Decides-eqb m n)) (Decides-eqb l n)).0 (asked_passed (eqb e n && eqb m n && eqb l n) Lists (omega arith) f.0) in
    ((s.0.0, s.0.1, s.1), leb-true n 64 (asked_passed (leb n 64) Rows (omega arith) f.1))

pub lists_passed : (t : Table) (labels : List ℕ) → Passed (lists_refusal t labels) → ((length t.ends ≡ rows t) × (length t.marks ≡ rows t) × (length labels ≡ rows t)) × (rows t ≤ 64)
lists_passed t labels = lengths_passed (rows t) (length t.ends) (length t.marks) (length labels)

-- a check r before the others, as `cond` has it
pub then_looked : (r : Outcome) (n : ℕ) (rest : Looked) → Passed (cond (passes r) rest (looked r n)).refusal → Passed r × Passed rest.refusal
then_looked r n rest = go (passes r) refl
  where
    go : (x : Bool) → passes r ≡ x → Passed (cond x rest (looked r n)).refusal → Passed r × Passed rest.refusal
    go true e p = (eqb-true (number_of r) 0 e, p)
    go false e p = absurd (eqb-false (number_of r) 0 e p)

-- the rows from i on pass: row i, and those after it
looked_more : (check : ℕ → Outcome) (i n : ℕ) → Passed (look_from check i (suc n)).refusal → Passed (check i) × Passed (look_from check (i + 1) n).refusal
unfolding look_from
looked_more check i n p = then_looked (check i) (i + 1) (look_from check (i + 1) n) p

-- n of them, so all pass
looked_passed : (check : ℕ → Outcome) (i n : ℕ) → Passed (look_from check i n).refusal → (k : ℕ) → i ≤ k → k < i + n → Passed (check k)
looked_passed check i zero p k h l = absurd (omega arith)
looked_passed check i (suc n) p k h l =
    let f = looked_more check i n p in
    let rest = looked_passed check (i + 1) n f.1 k in
    ⊎_elim (λ q. rw (← q) f.0) (λ q. rest (omega arith) (omega arith)) (eq-or-lt_of_le h)

-- and as many were looked at
all_looked : (check : ℕ → Outcome) (i n : ℕ) → Passed (look_from check i n).refusal → (look_from check i n).rows ≡ i + n
unfolding look_from
all_looked check i zero p = omega arith
all_looked check i (suc n) p =
    let f = looked_more check i n p in
    rw (eq-eqb (number_of (check i)) 0 f.0) (all_looked check (i + 1) n f.1 ∙ omega arith)

module _ (S : Setting) where
  pub setting_passed : Passed (setting_refusal S) → ValidSetting S
  unfolding setting_refusal ticks_refusal gap_refusal
  setting_passed p =
      let ticks = leb 2 S.ticks && leb S.ticks max_ticks in
      let hours = hours_refusal S.kind S.ticks S.hours in
      let gap = leb S.gap max_gap in
      let f = then_passed (asked ticks Ticks) (hours then asked gap Gap) p in
      let both = and_iff (leb_iff 2 S.ticks) (leb_iff S.ticks max_ticks) in
      let h = both.0 (asked_passed ticks Ticks (omega arith) f.0) in
      let g = asked_passed gap Gap (omega arith) (then_passed hours (asked gap Gap) f.1).1 in
      record { ticks_least = h.0; ticks_most = h.1; gap_most = leb-true S.gap max_gap g }

  pub row_passed : (row : Row) → Passed (row_refusal S row) → ValidRow S row
  unfolding row_refusal
  row_passed row p =
      let w = is_window S.kind S.ticks row.start row.end in
      let m = leb row.mark max_mark in
      let f = then_passed (asked w Window) (asked m Mark) p in
      record {
        window = (window_iff S.kind S.ticks row.start row.end).0 (asked_passed w Window (omega arith) f.0);
        mark = leb-true row.mark max_mark (asked_passed m Mark (omega arith) f.1);
      }

module _ (t : Table) where
  pub rows_passed : Passed (rows_looked t).refusal → ((length t.ends ≡ rows t) × (length t.marks ≡ rows t)) × ((i : ℕ) → i < rows t → Passed (row_check t i))
  unfolding rows_looked
  rows_passed p =
      let f = cond_passed (is_even t) (look_from (row_check t) 0 (rows t)) (looked Lists 0) (omega arith) p in (
        (and_iff (Decides-eqb (length t.ends) (rows t)) (Decides-eqb (length t.marks) (rows t))).0 f.0,
        λ i h. looked_passed (row_check t) 0 (rows t) f.1 i (omega arith) (omega arith),
      )

  pub table_passed : Passed (table_looked t).refusal → rows t ≤ 64 → Valid t
  unfolding table_looked
  table_passed p few =
      let f = then_looked (setting_refusal t.setting) 0 (rows_looked t) p in
      let r = rows_passed f.1 in
      record {
        few = few;
        each_end = r.0.0;
        each_mark = r.0.1;
        setting = setting_passed t.setting f.0;
        row = λ i h. row_passed t.setting (row_at t i) (r.1 i h);
      }

  -- a table that passes its checks was looked at whole
  pub table_looked_rows : Passed (table_looked t).refusal → (table_looked t).rows ≡ rows t
  unfolding table_looked rows_looked
  table_looked_rows p =
      let f = then_looked (setting_refusal t.setting) 0 (rows_looked t) p in
      let g = cond_passed (is_even t) (look_from (row_check t) 0 (rows t)) (looked Lists 0) (omega arith) f.1 in
      rw (eq-eqb (number_of (setting_refusal t.setting)) 0 f.0, g.0) (all_looked (row_check t) 0 (rows t) g.1 ∙ omega arith)

  pub checked_valid : (labels : List ℕ) (space : ℕ) → Passed (checked t labels space) → Valid t × (length labels ≡ rows t)
  unfolding checked
  checked_valid labels space p =
      let f = then_passed (lists_refusal t labels) (space_refusal space then (table_looked t).refusal) p in
      let l = lists_passed t labels f.0 in
      (table_passed (then_passed (space_refusal space) (table_looked t).refusal f.1).1 l.1, l.0.2)

-- ---- what the checks of a table can give

-- what holds of a table that passes, and of each refusal that its checks can give
pub record OfChecks (P : Outcome → Type 0) : Type 0 where
  pub accepted : P Accepted
  pub lists : P Lists
  pub ticks : P Ticks
  pub hours : P Hours
  pub gap : P Gap
  pub window : P Window
  pub mark : P Mark

-- holds of what they give
module _ (P : Outcome → Type 0) (of : OfChecks P) where
  asks : (x : Bool) {r : Outcome} → P r → P (asked x r)
  asks x = asked_either P x of.accepted

  cond_looked : (x : Bool) (a b : Looked) → P a.refusal → P b.refusal → P (cond x a b).refusal
  cond_looked true a b f g = f
  cond_looked false a b f g = g

  look_gives : (check : ℕ → Outcome) → ((i : ℕ) → P (check i)) → (i n : ℕ) → P (look_from check i n).refusal
  unfolding look_from
  look_gives check h i zero = of.accepted
  look_gives check h i (suc n) = cond_looked (passes (check i)) _ _ (look_gives check h (i + 1) n) (h i)

  hours_give : (kind : Kind) (R : ℕ) (hours : List (List ℕ)) → P (hours_refusal kind R hours)
  unfolding hours_refusal
  hours_give Round R hours = of.accepted
  hours_give Run R hours = asks (is_hours hours R 0 && is_hours hours R 1) of.hours

  setting_gives : (S : Setting) → P (setting_refusal S)
  unfolding setting_refusal ticks_refusal gap_refusal
  setting_gives S =
      then_either P (asks (leb 2 S.ticks && leb S.ticks max_ticks) of.ticks)
      (then_either P (hours_give S.kind S.ticks S.hours) (asks (leb S.gap max_gap) of.gap))

  row_gives : (S : Setting) (row : Row) → P (row_refusal S row)
  unfolding row_refusal
  row_gives S row = then_either P (asks (is_window S.kind S.ticks row.start row.end) of.window) (asks (leb row.mark max_mark) of.mark)

  rows_give : (t : Table) → P (rows_looked t).refusal
  unfolding rows_looked
  rows_give t = cond_looked (is_even t) _ (looked Lists 0) (look_gives (row_check t) (λ i. row_gives t.setting (row_at t i)) 0 (rows t)) of.lists

  pub table_gives : (t : Table) → P (table_looked t).refusal
  unfolding table_looked
  table_gives t = cond_looked (passes (setting_refusal t.setting)) (rows_looked t) (looked (setting_refusal t.setting) 0) (rows_give t) (setting_gives t.setting)

-- ---- no check before 8 gives 8, and none of the table's gives 3

-- a refusal of another number
pub record Not (n : ℕ) (r : Outcome) : Type 0 where
  pub not : number_of r ≢ n

abbrev pub Not8 : Outcome → Type 0
Not8 = Not 8

-- the check refuses so, where it refuses
pub asked_8 : (x : Bool) {r : Outcome} → Not8 r → Not8 (asked x r)
asked_8 x = asked_either Not8 x (record { not = λ e. omega arith })

-- no check of a table gives a number that is none of these
not_given : (n : ℕ) → n ≢ 0 → n ≢ 1 → n ≢ 4 → n ≢ 5 → n ≢ 14 → n ≢ 6 → n ≢ 7 → OfChecks (Not n)
not_given n accepted lists ticks hours gap window mark =
    record {
      accepted = record { not = λ e. accepted (sym e) };
      lists = record { not = λ e. lists (sym e) };
      ticks = record { not = λ e. ticks (sym e) };
      hours = record { not = λ e. hours (sym e) };
      gap = record { not = λ e. gap (sym e) };
      window = record { not = λ e. window (sym e) };
      mark = record { not = λ e. mark (sym e) };
    }

module _ (t : Table) where
  pub table_3 : Not 3 (table_looked t).refusal
  table_3 = table_gives (Not 3) (not_given 3 (λ e. omega arith) (λ e. omega arith) (λ e. omega arith) (λ e. omega arith) (λ e. omega arith) (λ e. omega arith) (λ e. omega arith)) t

  pub table_8 : Not8 (table_looked t).refusal
  table_8 = table_gives Not8 (not_given 8 (λ e. omega arith) (λ e. omega arith) (λ e. omega arith) (λ e. omega arith) (λ e. omega arith) (λ e. omega arith) (λ e. omega arith)) t

  pub lists_8 : (labels : List ℕ) → Not8 (lists_refusal t labels)
  unfolding lengths_refusal
  lists_8 labels =
      then_either Not8
      (asked_8 (eqb (length t.ends) (rows t) && eqb (length t.marks) (rows t) && eqb (length labels) (rows t)) {r = Lists} (record { not = λ e. omega arith }))
      (asked_8 (leb (rows t) 64) {r = Rows} (record { not = λ e. omega arith }))

  pub checked_8 : (labels : List ℕ) (space : ℕ) → Not8 (checked t labels space)
  unfolding checked space_refusal
  checked_8 labels space =
      then_either Not8 (lists_8 labels)
      (then_either Not8 (asked_8 (leb space_bytes space) {r = Space} (record { not = λ e. omega arith })) table_8)

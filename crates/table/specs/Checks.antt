-- Believed: The checks of a table, each with the refusal that it gives, in the order in which they are made
-- (docs/RULES.md, Refusals).
use Rattle.std.specs.Prelude.{ℕ, zero, suc, ◌+◌, Bool, cond, ◌&&◌, List, leb, eqb, length}
use Rattle.basics.specs.Limits.{max_rows}
use Rattle.marks.specs.Marks.{max_mark}
use Rattle.window.specs.declared.Kind.{Kind}
use Rattle.window.specs.declared.Kind.TheVariants.{Round, Run}
use Rattle.window.specs.declared.Row.{Row}
use Rattle.window.specs.Hours.{hour}
use Rattle.window.specs.Ticks.{max_ticks}
use Rattle.window.specs.Windows.{is_window}
use Rattle.window.specs.Gaps.{max_gap}
use Rattle.refusals.specs.Refusals.{asked, passes, ◌then◌, Accepted, Lists, Rows, Ticks, Hours, Gap, Window, Mark, Outcome}
use Rattle.table.specs.declared.Setting.{Setting}
use Rattle.table.specs.declared.Looked.{Looked}
use Rattle.table.specs.Tables.{Table, rows, row_at, is_even}

-- Checks 1 and 2, by the lengths of starts, ends, marks and labels: 1 where the four are not equal, 2 where there are
-- more than 64 rows.
unfoldable pub lengths_refusal : ℕ → ℕ → ℕ → ℕ → Outcome
lengths_refusal starts ends marks labels =
    asked (eqb ends starts && eqb marks starts && eqb labels starts) Lists then asked (leb starts max_rows) Rows

-- the same of a table and its label list
abbrev pub lists_refusal : Table → List ℕ → Outcome
lists_refusal t labels = lengths_refusal (rows t) (length t.ends) (length t.marks) (length labels)

-- check 4: a round or a run has from 2 to 43,200 ticks
unfoldable pub ticks_refusal : ℕ → Outcome
ticks_refusal R = asked (leb 2 R && leb R max_ticks) Ticks

-- a receiver opens no later than it closes, and closes no later than R
abbrev pub is_hours : List (List ℕ) → ℕ → ℕ → Bool
is_hours hours R r = leb (hour hours r 0) (hour hours r 1) && leb (hour hours r 1) R

-- check 5, of both receivers' hours, in a run alone
unfoldable pub hours_refusal : Kind → ℕ → List (List ℕ) → Outcome
hours_refusal Round R hours = Accepted
hours_refusal Run R hours = asked (is_hours hours R 0 && is_hours hours R 1) Hours

-- check 14: the gap is at most 600 ticks
unfoldable pub gap_refusal : ℕ → Outcome
gap_refusal g = asked (leb g max_gap) Gap

-- checks 4, 5 and 14, in this order
unfoldable pub setting_refusal : Setting → Outcome
unfolding ticks_refusal hours_refusal gap_refusal
setting_refusal S = ticks_refusal S.ticks then hours_refusal S.kind S.ticks S.hours then gap_refusal S.gap

-- checks 6 and 7 of one row, in this order: start and end make a window, and the mark is at most 5
unfoldable pub row_refusal : Setting → Row → Outcome
row_refusal S row =
    asked (is_window S.kind S.ticks row.start row.end) Window then asked (leb row.mark max_mark) Mark

-- what the checks of the rows report: a refusal or none, and how many rows were looked at
abbrev pub looked : Outcome → ℕ → Looked
looked r n = record { refusal = r; rows = n }

-- n rows from row i on: the first refusal among them, and how many rows of the table were looked at by then
unfoldable pub look_from : (ℕ → Outcome) → ℕ → ℕ → Looked
look_from check i zero = looked Accepted i
look_from check i (suc n) = cond (passes (check i)) (look_from check (i + 1) n) (looked (check i) (i + 1))

-- the check of row i
abbrev pub row_check : Table → ℕ → Outcome
row_check t i = row_refusal t.setting (row_at t i)

-- all rows from row 0 on; lists of unequal length are refused 1 before any row is looked at
unfoldable pub rows_looked : Table → Looked
unfolding look_from row_refusal
rows_looked t = cond (is_even t) (look_from (row_check t) 0 (rows t)) (looked Lists 0)

-- checks 4, 5 and 14, and then the rows for 6 and 7
unfoldable pub table_looked : Table → Looked
unfolding setting_refusal rows_looked
table_looked t =
    cond (passes (setting_refusal t.setting)) (rows_looked t) (looked (setting_refusal t.setting) 0)

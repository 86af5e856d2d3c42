-- Believed: A table of windows as it is lent, what a plan of it is, and the test for it (docs/RULES.md, Plans and their
-- order).
use Rattle.std.specs.Prelude.{ℕ, zero, suc, ◌≤◌, ◌<◌, ◌≡◌, ◌≢◌, Bool, true, not, ◌&&◌, List, leb, eqb, length}
use Rattle.basics.specs.Limits.{max_rows}
use Rattle.basics.specs.Lists.{at}
use Rattle.basics.specs.Tests.{◌⇒◌, every}
use Rattle.labels.specs.Labels.{Assignment}
use Rattle.marks.specs.Marks.{Must, Receiver1Only, Receiver2Only, max_mark, mark_allows}
use Rattle.window.specs.declared.Kind.{Kind}
use Rattle.window.specs.declared.Kind.TheVariants.{Round, Run}
use Rattle.window.specs.declared.Row.{Row}
use Rattle.window.specs.Rows.{row, starts_of, ends_of, marks_of}
use Rattle.window.specs.Hours.{hour}
use Rattle.window.specs.Ticks.{max_ticks}
use Rattle.window.specs.Windows.{Window}
use Rattle.window.specs.Gaps.{max_gap, TooClose, too_close}
use Rattle.table.specs.declared.Setting.{Setting}
use Rattle.table.specs.declared.Table.{Table as Lent}

-- ---- what is lent

-- a round or a run of so many ticks, with a gap, and in a run the receivers' open hours
abbrev pub setting_of : Kind → ℕ → ℕ → List (List ℕ) → Setting
setting_of kind ticks gap hours = record { kind = kind; ticks = ticks; gap = gap; hours = hours }

-- a setting, and three lists with one entry for each row
pub record Table : Type 0 where
  pub setting : Setting
  pub starts : List ℕ
  pub ends : List ℕ
  pub marks : List ℕ

abbrev pub table : Setting → List ℕ → List ℕ → List ℕ → Table
table S starts ends marks = record { setting = S; starts = starts; ends = ends; marks = marks }

-- the table that code is lent
abbrev pub lent : Lent → Table
lent t = table t.setting t.rows.starts.now t.rows.ends.now t.rows.marks.now

-- the table of these rows
abbrev pub table_of : Setting → List Row → Table
table_of S rows = table S (starts_of rows) (ends_of rows) (marks_of rows)

abbrev pub rows : Table → ℕ
rows t = length t.starts

-- row i is entry i of each list
abbrev pub row_of : List ℕ → List ℕ → List ℕ → ℕ → Row
row_of starts ends marks i = row (at starts i) (at ends i) (at marks i)

abbrev pub row_at : Table → ℕ → Row
row_at t = row_of t.starts t.ends t.marks

-- ---- plans

-- The receiver that the label names is open for the whole window: in a run the window lies within its hours; in a round
-- both receivers are always open. A row that is not heard needs none.
abbrev pub Open : Kind → List (List ℕ) → Row → ℕ → Type 0
Open Round hours row label = Unit {0}
Open Run hours row zero = Unit {0}
Open Run hours row (suc r) = (hour hours r 0 ≤ row.start) × (row.end ≤ hour hours r 1)

-- What a plan asks of a row's label: it is 0, 1 or 2; a row that must be heard has 1 or 2; a row that one receiver
-- alone may hear does not have the other's label; and the receiver is open.
pub record Allowed (S : Setting) (row : Row) (label : ℕ) : Type 0 where
  pub known : label ≤ 2
  pub must : Must row.mark → label ≢ 0
  pub receiver_1 : Receiver1Only row.mark → label ≢ 2
  pub receiver_2 : Receiver2Only row.mark → label ≢ 1
  pub hours : Open S.kind S.hours row label

-- Two rows cannot be heard by one receiver: their windows overlap or have fewer ticks between them than the gap. `Plan`
-- asks it of different rows alone, so that a window is never too close to itself.
abbrev pub Clash : Setting → Row → Row → Type 0
Clash S row row' = TooClose S.kind S.ticks S.gap row.start row.end row'.start row'.end

-- Labels are a plan of a table: there is one for each row, each row may have its own, and no two different rows that
-- clash are heard by one receiver.
abbrev pub Plan : Table → List ℕ → Type 0
Plan t =
    Assignment (rows t) (λ i. Allowed t.setting (row_at t i)) (λ i j. Clash t.setting (row_at t i) (row_at t j))

-- ---- what the checks leave known

-- of the setting: checks 4 and 14; no proof needs what check 5 says of the hours
pub record ValidSetting (S : Setting) : Type 0 where
  pub ticks_least : 2 ≤ S.ticks
  pub ticks_most : S.ticks ≤ max_ticks
  pub gap_most : S.gap ≤ max_gap

-- of a row: checks 6 and 7
pub record ValidRow (S : Setting) (row : Row) : Type 0 where
  pub window : Window S.kind S.ticks row.start row.end
  pub mark : row.mark ≤ max_mark

-- of the table: checks 1 and 2 of its own lists, and those of the setting and of each row
pub record Valid (t : Table) : Type 0 where
  pub few : rows t ≤ max_rows
  pub each_end : length t.ends ≡ rows t
  pub each_mark : length t.marks ≡ rows t
  pub setting : ValidSetting t.setting
  pub row : (i : ℕ) → i < rows t → ValidRow t.setting (row_at t i)

-- ---- the test for a plan, clause for clause

abbrev pub is_open : Kind → List (List ℕ) → Row → ℕ → Bool
is_open Round hours row label = true
is_open Run hours row zero = true
is_open Run hours row (suc r) = leb (hour hours r 0) row.start && leb row.end (hour hours r 1)

unfoldable pub is_allowed : Setting → Row → ℕ → Bool
unfolding mark_allows
is_allowed S row label = leb label 2 && mark_allows row.mark label && is_open S.kind S.hours row label

unfoldable pub clashes : Setting → Row → Row → Bool
unfolding too_close
clashes S row row' = too_close S.kind S.ticks S.gap row.start row.end row'.start row'.end

-- two rows with these labels are not on one receiver, or do not clash
unfoldable pub is_apart : Setting → Row → ℕ → Row → ℕ → Bool
unfolding clashes
is_apart S row label row' label' = not (eqb label 0) ⇒ eqb label label' ⇒ not (clashes S row row')

-- row i is apart from row j
abbrev pub apart_at : Table → List ℕ → ℕ → ℕ → Bool
apart_at t labels i j = is_apart t.setting (row_at t i) (at labels i) (row_at t j) (at labels j)

-- the label of row i is allowed, and the row is apart from those before it
unfoldable pub is_fit : Table → List ℕ → ℕ → Bool
unfolding every is_allowed is_apart
is_fit t labels i = is_allowed t.setting (row_at t i) (at labels i) && every i (apart_at t labels i)

-- three lists are equally long
abbrev pub are_even : List ℕ → List ℕ → List ℕ → Bool
are_even starts ends marks = eqb (length ends) (length starts) && eqb (length marks) (length starts)

-- the table's three lists are
abbrev pub is_even : Table → Bool
is_even t = are_even t.starts t.ends t.marks

unfoldable pub is_plan : Table → List ℕ → Bool
unfolding every is_fit
is_plan t labels = is_even t && eqb (length labels) (rows t) && every (rows t) (is_fit t labels)

-- ---- what inner functions are lent

-- row i of equally long lists
pub record RowIn (starts ends marks : List ℕ) (i : ℕ) : Type 0 where
  pub each_end : length ends ≡ length starts
  pub each_mark : length marks ≡ length starts
  pub below : i < length starts

-- and its label
pub record LabelIn (t : Table) (labels : List ℕ) (i : ℕ) : Type 0 where
  pub row : RowIn t.starts t.ends t.marks i
  pub each_label : length labels ≡ rows t

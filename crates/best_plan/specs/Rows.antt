-- Inner: The rows of a checked table as arcs of a circle and permissions: a row's arc has the ticks of its window and
-- of the gap after it, and its permission the labels that a plan allows it.
use Rattle.std.specs.Prelude.{ℕ, zero, suc, ◌+◌, ◌≤◌, ◌<◌, ◌≡◌, cond, List, leb, length, Option, Some, None}
use Rattle.std.proofs.Math.Option.{Option as Maybe, none, some}
use Rattle.line.specs.Cells.{core_bytes}
use Rattle.basics.specs.Limits.{max_rows}
use Rattle.basics.specs.Lists.{at}
use Rattle.labels.specs.Labels.{heard}
use Rattle.labels.specs.Permission.{permission}
use Rattle.window.specs.declared.Kind.{Kind}
use Rattle.window.specs.declared.Kind.TheVariants.{Round, Run}
use Rattle.window.specs.declared.Row.{Row}
use Rattle.window.specs.Windows.{ticks_in}
use Rattle.window.specs.Gaps.{max_gap}
use Rattle.table.specs.declared.Setting.{Setting}
use Rattle.table.specs.Tables.{Table, rows, row_at, is_allowed, ValidSetting, ValidRow, Valid}
use Rattle.table.specs.Changes.{with_row}
use Rattle.best_plan.specs.declared.Arc.{Arc}

-- The ticks of the circle. A run is a circle that no arc crosses: the longest gap fits between its last tick and its
-- first, so that the gap of the last window does not reach the first.
unfoldable pub circle_ticks : Kind → ℕ → ℕ
circle_ticks Round R = R
circle_ticks Run R = R + max_gap

abbrev pub circle_of : Setting → ℕ
circle_of S = circle_ticks S.kind S.ticks

-- an arc of so many ticks, cut off at the circle
unfoldable pub cut_off : ℕ → ℕ → ℕ
cut_off C n = cond (leb n C) n C

-- the ticks that the row's window covers, and g more
unfoldable pub arc_of : Setting → Row → Arc
unfolding circle_ticks cut_off ticks_in
arc_of S row = record { start = row.start; length = cut_off (circle_of S) (ticks_in S.kind S.ticks row.start row.end + S.gap) }

-- what working out an arc is lent: a setting and a row that have passed their checks
pub record HasArc (S : Setting) (row : Row) : Type 0 where
  pub setting : ValidSetting S
  pub valid : ValidRow S row

-- the labels that the row may have
unfoldable pub permission_of : Setting → Row → ℕ
unfolding permission is_allowed
permission_of S row = permission (is_allowed S row 0) (is_allowed S row 1) (is_allowed S row 2)

-- room for n arcs and permissions
pub record ArcRoom (n : ℕ) (starts lengths perms : List ℕ) : Type 0 where
  pub start : n ≤ length starts
  pub ticks : n ≤ length lengths
  pub perm : n ≤ length perms

-- lists as long as the table has rows, for their arcs and permissions
pub record ArcLists (t : Table) (starts lengths perms : List ℕ) : Type 0 where
  pub each_start : length starts ≡ rows t
  pub each_length : length lengths ≡ rows t
  pub each_perm : length perms ≡ rows t

-- lists that begin with the arcs and permissions of the table's rows
pub record ArcsIn (t : Table) (starts lengths perms : List ℕ) : Type 0 where
  pub start : (i : ℕ) → i < rows t → at starts i ≡ (arc_of t.setting (row_at t i)).start
  pub ticks : (i : ℕ) → i < rows t → at lengths i ≡ (arc_of t.setting (row_at t i)).length
  pub perm : (i : ℕ) → i < rows t → at perms i ≡ permission_of t.setting (row_at t i)

-- they hold the arcs and permissions of the table's rows
pub record ArcsOf (t : Table) (starts lengths perms : List ℕ) : Type 0 where
  pub lists : ArcLists t starts lengths perms
  pub each : ArcsIn t starts lengths perms

-- what planning a table that passed its checks is lent
pub record Checked (t : Table) (labels space : List ℕ) : Type 0 where
  pub valid : Valid t
  pub each_label : length labels ≡ rows t
  pub room : core_bytes ≤ length space

-- such a table, and a row more that passed its checks too
pub record ValidWith (t : Table) (row : Row) : Type 0 where
  pub valid : Valid t
  pub new : ValidRow t.setting row
  pub few : rows t < max_rows

-- a table, and a row more where one is given
abbrev pub with_more : Table → Option Row → Table
with_more t None = t
with_more t (Some row) = with_row t row

abbrev pub ValidMore : Table → Option Row → Type 0
ValidMore t None = Valid t
ValidMore t (Some row) = ValidWith t row

-- what counting for them is lent
pub record Countable (t : Table) (more : Option Row) (space : List ℕ) : Type 0 where
  pub valid : ValidMore t more
  pub room : core_bytes ≤ length space

-- the count in an answer that is one more, and 0 where there is none
abbrev pub count_in : ℕ → Option ℕ
count_in zero = None
count_in (suc n) = Some n

-- how many rows a plan hears; none without a plan
unfoldable pub count_of : Maybe (List ℕ) → Option ℕ
unfolding heard
count_of none = None
count_of (some plan) = Some (heard plan)

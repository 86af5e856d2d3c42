-- Believed: Held tables that came from these calls, and what each change of one promises (docs/RULES.md, Held table).
use Rattle.std.specs.Prelude.{ℕ, ◌≤◌, ◌≡◌, List, ltb, length}
use Rattle.basics.specs.Limits.{max_rows, Places}
use Rattle.window.specs.declared.Row.{Row}
use Rattle.refusals.specs.Refusals.{number_of, answered, asked, ◌then◌, Accepted, Rows, NoRow, Outcome}
use Rattle.table.specs.Tables.{Table, rows}
use Rattle.table.specs.Checks.{row_refusal}
use Rattle.table.specs.Planned.{space_bytes, space_refusal, best_plan, answering, given, plan_refusal, planned}
use Rattle.table.specs.Changes.{with_row, without_row}
use Rattle.held_table.specs.Held.{HeldTable, kept, held_table, held_plan, begun, Change, change, added, withdrawn}

-- its lists have 64 places each
pub record HasPlaces (h : HeldTable) : Type 0 where
  pub rows_64 : Places h.starts h.ends h.marks
  pub labels_64 : length h.labels ≡ max_rows

-- A held table that came from these calls: begun in any lists of 64 places, then changed any number of times, with
-- working space of any length. Begin and changes may be accepted or refused; a refused begin counts as the empty table
-- that stands for it.
pub data Came : HeldTable → Type 0 where
  from_begin : (R g : ℕ) {starts ends marks labels : List ℕ} → HasPlaces (kept (begun R g).numbers starts ends marks labels)
      → Came (kept (begun R g).numbers starts ends marks labels)
  from_add : {h : HeldTable} → Came h → (row : Row) (space : ℕ) → Came (added h row space).held
  from_withdraw : {h : HeldTable} → Came h → (k space : ℕ) → Came (withdrawn h k space).held

-- Planning the whole table gives the plan that is held, and its count, whatever the planner's label list held before.
-- So the table passes its checks, and has a plan.
pub record PlanHeld (h : HeldTable) : Type 0 where
  pub places : HasPlaces h
  pub each_row : rows (held_table h) ≡ h.numbers.rows
  pub plan : (before : List ℕ) (space : ℕ) → length before ≡ rows (held_table h) → space_bytes ≤ space
      → planned (held_table h) before space ≡ answering (answered Accepted h.numbers.count) (held_plan h)

-- ---- the refusals of a change, in their order

-- Of an addition: 2 where 64 rows are held, 3, the new row for 6 and then 7, and 8 where the table with it has no plan.
unfoldable pub add_refusal : Table → Row → ℕ → Outcome
unfolding space_refusal row_refusal best_plan given
add_refusal t row space = asked (ltb (rows t) max_rows) Rows then space_refusal space then row_refusal t.setting row then plan_refusal (with_row t row)

-- Of a withdrawal: 3, and 15 for a row that is not held. There is no 8: where a table has a plan, it has one without
-- any of its rows.
unfoldable pub withdraw_refusal : Table → ℕ → ℕ → Outcome
unfolding space_refusal
withdraw_refusal t k space = space_refusal space then asked (ltb k (rows t)) NoRow

-- WHAT IS PROMISED OF A CHANGE c of a held table h: it ends in r, and where that is no refusal it makes the table t
pub record ChangesHeldTable (h : HeldTable) (r : Outcome) (t : Table) (c : Change) : Type 0 where
  -- it ends so
  pub refusal : c.answer.refusal ≡ r
  -- a refused change has count 0, and changes no number and no place of any list
  pub refused : (number_of r ≡ 0 → ⊥) → c ≡ change (answered r 0) h
  -- an accepted one makes the table
  pub accepted : number_of r ≡ 0 → held_table c.held ≡ t
  -- and reports how many rows its plan hears
  pub count : number_of r ≡ 0 → c.answer.count ≡ c.held.numbers.count
  -- after either, the plan that is held is the one that planning the whole table gives
  pub plan : PlanHeld c.held

-- and so of an addition, with working space of so many bytes, and of a withdrawal of row k
abbrev pub AddsRow : HeldTable → Row → ℕ → Change → Type 0
AddsRow h row space = ChangesHeldTable h (add_refusal (held_table h) row space) (with_row (held_table h) row)

abbrev pub WithdrawsRow : HeldTable → ℕ → ℕ → Change → Type 0
WithdrawsRow h k space = ChangesHeldTable h (withdraw_refusal (held_table h) k space) (without_row (held_table h) k)

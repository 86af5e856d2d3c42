-- Believed: A held table (docs/RULES.md, Held table): where it lies, the table and the plan that it holds, and what
-- each call gives, whole, on every input.
use Rattle.std.specs.Prelude.{ℕ, ◌≡◌, cond, ◌&&◌, List, leb, ltb, eqb, length, take, Result, Ok, Err}
use Rattle.basics.specs.Limits.{max_rows, has_places}
use Rattle.basics.specs.Lists.{front}
use Rattle.window.specs.declared.Kind.TheVariants.{Round}
use Rattle.window.specs.declared.Row.{Row}
use Rattle.window.specs.Hours.{no_hours}
use Rattle.refusals.specs.declared.Refusal.{Refusal}
use Rattle.refusals.specs.Refusals.{answered, asked, passes, ◌then◌, Accepted, Lists, Rows, NoRow, Answer, Outcome}
use Rattle.table.specs.Tables.{Table, table, rows, setting_of}
use Rattle.table.specs.Checks.{ticks_refusal, gap_refusal}
use Rattle.table.specs.Planned.{space_refusal, Planned, planned, space_after}
use Rattle.table.specs.Changes.{with_row, without_row}
use Rattle.held_table.specs.declared.Numbers.{Numbers}
use Rattle.held_table.specs.declared.Held.{Held}

-- ---- where it lies

abbrev pub numbers_of : ℕ → ℕ → ℕ → ℕ → Numbers
numbers_of ticks gap rows count = record { ticks = ticks; gap = gap; rows = rows; count = count }

-- a held table as it is kept: its numbers, and four lists, of which the first `rows` places count
pub record HeldTable : Type 0 where
  pub numbers : Numbers
  pub starts : List ℕ
  pub ends : List ℕ
  pub marks : List ℕ
  pub labels : List ℕ

abbrev pub kept : Numbers → List ℕ → List ℕ → List ℕ → List ℕ → HeldTable
kept numbers starts ends marks labels = record { numbers = numbers; starts = starts; ends = ends; marks = marks; labels = labels }

-- the held table that code is lent, with the list of its labels
abbrev pub held : Held → List ℕ → HeldTable
held h labels = kept h.numbers h.starts.now h.ends.now h.marks.now labels

-- it lies in the same lists, changed or not
pub record Same (old new : Held) : Type 0 where
  pub starts : new.starts.ghost_name ≡ old.starts.ghost_name
  pub ends : new.ends.ghost_name ≡ old.ends.ghost_name
  pub marks : new.marks.ghost_name ≡ old.marks.ghost_name

-- the table that is held: the first rows of the lists, of the round whose R and g are kept
abbrev pub held_table : HeldTable → Table
held_table h =
    table (setting_of Round h.numbers.ticks h.numbers.gap no_hours)
    (take h.numbers.rows h.starts) (take h.numbers.rows h.ends) (take h.numbers.rows h.marks)

-- and the labels of its plan
abbrev pub held_plan : HeldTable → List ℕ
held_plan h = take h.numbers.rows h.labels

-- ---- begun

-- what a begin comes to: whether it is refused, and the numbers of an empty table
pub record Begun : Type 0 where
  pub refusal : Outcome
  pub numbers : Numbers

abbrev pub empty : Outcome → ℕ → ℕ → Begun
empty r R g = record { refusal = r; numbers = numbers_of R g 0 0 }

-- a round's R and g are looked at for 4, and then for 14
abbrev pub begin_refusal : ℕ → ℕ → Outcome
begin_refusal R g = ticks_refusal R then gap_refusal g

-- R and g of the empty table that stands for a refused begin
abbrev pub refused_ticks : ℕ
refused_ticks = 2

abbrev pub refused_gap : ℕ
refused_gap = 0

-- a refusal, and that table beside it
abbrev pub refused_begin : Outcome → Begun
refused_begin r = empty r refused_ticks refused_gap

-- THE RIGHT ANSWER of a begin: an empty table of the round, if R and g are not refused
unfoldable pub begun : ℕ → ℕ → Begun
unfolding ticks_refusal gap_refusal
begun R g = cond (passes (begin_refusal R g)) (empty (begin_refusal R g) R g) (refused_begin (begin_refusal R g))

-- What a result comes to. An `Err` has no numbers: here it is given those of the table that stands for it.
abbrev pub begun_as : Result Numbers Refusal → Begun
begun_as (Ok n) = record { refusal = Accepted; numbers = n }
begun_as (Err r) = refused_begin (Err r)

-- ---- changed

-- what a change reports, and what is then held
pub record Change : Type 0 where
  pub answer : Answer
  pub held : HeldTable

abbrev pub change : Answer → HeldTable → Change
change answer h = record { answer = answer; held = h }

-- the table t with its plan in the places of h; the places from its rows on are left alone
abbrev pub holding : HeldTable → Table → ℕ → List ℕ → HeldTable
holding h t count plan =
    kept (numbers_of h.numbers.ticks h.numbers.gap (rows t) count)
    (front t.starts h.starts) (front t.ends h.ends) (front t.marks h.marks) (front plan h.labels)

-- A planner's answer for the table t is taken over where it is a plan. A refused one changes neither table nor plan.
unfoldable pub taken : HeldTable → Table → Planned → Change
taken h t p = cond (passes p.answer.refusal) (change p.answer (holding h t p.answer.count p.labels)) (change p.answer h)

-- Where a check before the planner's refuses, nothing is changed. Else the whole table t is planned, and held if it
-- has a plan. The planner is lent so much working space, and the labels that stood at the places of t's rows.
unfoldable pub changed : Outcome → HeldTable → Table → ℕ → Change
unfolding taken planned
changed r h t space = cond (passes r) (taken h t (planned t (take (rows t) h.labels) space)) (change (answered r 0) h)

-- 1: a list has other than 64 places; by the lengths of starts, ends, marks and labels
unfoldable pub places_refusal : ℕ → ℕ → ℕ → ℕ → Outcome
places_refusal starts ends marks labels = asked (has_places starts ends marks && eqb labels max_rows) Lists

-- an addition: 1, and 2 where there are 64 rows or more; from 3 on the planner looks
unfoldable pub add_checked : ℕ → ℕ → ℕ → ℕ → ℕ → Outcome
unfolding places_refusal
add_checked starts ends marks labels rows = places_refusal starts ends marks labels then asked (ltb rows max_rows) Rows

-- a withdrawal of row k: 1, 3, then 15 where row k is not held; more than 64 rows, which no call leaves, get the
-- planner's 2
unfoldable pub withdraw_checked : ℕ → ℕ → ℕ → ℕ → ℕ → ℕ → ℕ → Outcome
unfolding places_refusal space_refusal
withdraw_checked starts ends marks labels space rows k =
    places_refusal starts ends marks labels then space_refusal space then asked (ltb k rows) NoRow then asked (leb rows max_rows) Rows

-- the same of a held table
abbrev pub add_first : HeldTable → Outcome
add_first h = add_checked (length h.starts) (length h.ends) (length h.marks) (length h.labels) h.numbers.rows

abbrev pub withdraw_first : HeldTable → ℕ → ℕ → Outcome
withdraw_first h k space = withdraw_checked (length h.starts) (length h.ends) (length h.marks) (length h.labels) space h.numbers.rows k

-- A row is added at the end: the table with it is planned.
unfoldable pub added : HeldTable → Row → ℕ → Change
unfolding add_checked changed
added h row space = changed (add_first h) h (with_row (held_table h) row) space

-- A row is withdrawn by its number, and later rows move up one: the table without it is planned.
unfoldable pub withdrawn : HeldTable → ℕ → ℕ → Change
unfolding withdraw_checked changed
withdrawn h k space = changed (withdraw_first h k space) h (without_row (held_table h) k) space

-- ---- a call, whole

-- what a call reports, and what then is held and the working space holds
pub record HeldCall : Type 0 where
  pub answer : Answer
  pub held : HeldTable
  pub space : List ℕ

abbrev pub gave : Answer → HeldTable → List ℕ → HeldCall
gave answer h space = record { answer = answer; held = h; space = space }

-- the working space is left as the planner leaves it: cleared where a change is accepted and on 8, else untouched
abbrev pub called : Change → List ℕ → HeldCall
called c space = gave c.answer c.held (space_after c.answer.refusal space)

-- THE RIGHT ANSWER of an addition and of a withdrawal
unfoldable pub add_call : HeldTable → Row → List ℕ → HeldCall
unfolding added space_after
add_call h row space = called (added h row (length space)) space

unfoldable pub withdraw_call : HeldTable → ℕ → List ℕ → HeldCall
unfolding withdrawn space_after
withdraw_call h k space = called (withdrawn h k (length space)) space

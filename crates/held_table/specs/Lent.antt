-- Inner: What the functions of the crate `held_table` lend each other.
use Rattle.std.specs.Prelude.{ℕ, ◌≤◌, ◌<◌, List, length, take}
use Rattle.basics.specs.Limits.{max_rows, Places}
use Rattle.window.specs.declared.Kind.TheVariants.{Round}
use Rattle.window.specs.Hours.{no_hours}
use Rattle.table.specs.Tables.{Table, table, rows, setting_of}
use Rattle.table.specs.Planned.{planned}
use Rattle.held_table.specs.declared.Held.{Held}
use Rattle.held_table.specs.Held.{HeldTable, taken, HeldCall, called}
use Rattle.held_table.specs.Came.{HasPlaces}

-- the first n rows of a held table, of its round
abbrev pub first_rows : ℕ → Held → Table
first_rows n h = table (setting_of Round h.numbers.ticks h.numbers.gap no_hours) (take n h.starts.now) (take n h.ends.now) (take n h.marks.now)

-- it has places for n rows
pub record FirstRows (n : ℕ) (h : Held) : Type 0 where
  pub places : Places h.starts.now h.ends.now h.marks.now
  pub most : n ≤ max_rows

-- there is a place for a row more
pub record RoomFor (h : HeldTable) : Type 0 where
  pub places : HasPlaces h
  pub below : h.numbers.rows < max_rows

-- row k is held
pub record RowHeld (h : HeldTable) (k : ℕ) : Type 0 where
  pub places : HasPlaces h
  pub below : k < h.numbers.rows
  pub most : h.numbers.rows ≤ max_rows

-- what a call gives once its first checks have passed: the table t is planned
abbrev pub plan_rows : HeldTable → Table → List ℕ → HeldCall
plan_rows h t space = called (taken h t (planned t (take (rows t) h.labels) (length space))) space

-- Inner: Rows that may not be left out, and labels that are added to those found for a row of the table.
use Rattle.std.specs.Prelude.{◌≡◌, false, List, ℕ, ◌+◌, ◌≤◌, ◌<◌, length, set}
use Rattle.basics.specs.Lists.{at}
use Rattle.labels.specs.Permission.{permits, join, restrict}
use Rattle.line.specs.Cells.{found_at, found_from}

-- r is a row from row `from` on that may not be left out, or past the last
pub record NotLeftOut (perms : List ℕ) (from r : ℕ) : Type 0 where
  pub past : from ≤ r
  pub row : r < length perms → permits (at perms r) 0 ≡ false

-- those of some labels that a permission permits
abbrev pub permitted : ℕ → ℕ → ℕ
permitted perm labels = restrict perm (permits labels 0) (permits labels 1) (permits labels 2)

-- they are added to the labels found for row r of the table
pub record Added (perm labels r : ℕ) (space space' : List ℕ) : Type 0 where
  pub written : space' ≡ set space (found_from + r) (join (found_at space r) (permitted perm labels))

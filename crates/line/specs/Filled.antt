-- Inner: What stands in the working space for a line: its next rows, from which row on each receiver can be free, and
-- the cells.
use Rattle.std.specs.Prelude.{◌≡◌, ◌↔◌, true, List, ℕ, ◌≤◌, ◌<◌, min, length, take, drop}
use Rattle.basics.specs.Limits.{max_rows}
use Rattle.basics.specs.Lists.{at}
use Rattle.labels.specs.Permission.{permits}
use Rattle.line.specs.Line.{best_from}
use Rattle.line.specs.Cells.{cell_at, high_at, next_at, next_from, core_bytes}

-- the next rows of the rows of a line: row j starts when row i is over exactly if it is not before row i's next row
pub record NextRows (starts ends space : List ℕ) : Type 0 where
  pub long : core_bytes ≤ length space
  pub within : (i : ℕ) → i < length starts → next_at space i ≤ length starts
  pub over : (i j : ℕ) → i < length starts → j < length starts → (at ends i ≤ at starts j) ↔ (next_at space i ≤ j)

-- the next rows of a line of n rows, as a list
abbrev pub nexts_of : List ℕ → ℕ → List ℕ
nexts_of space n = take n (drop next_from space)

-- what the line program is lent: at most 64 rows, by number, each row's next row after it
pub record Numbered (perms space : List ℕ) : Type 0 where
  pub few : length perms ≤ max_rows
  pub long : core_bytes ≤ length space
  pub later : (j : ℕ) → j < length perms → j < next_at space j
  pub within : (j : ℕ) → j < length perms → next_at space j ≤ length perms

-- receiver x can be free in the turn of row j only from some row up to `high_at space x j` on: no row before row j that
-- may have it is over later
pub record Highs (perms space : List ℕ) (x : ℕ) : Type 0 where
  pub low : (j : ℕ) → j < length perms → j ≤ high_at space x j
  pub within : (j : ℕ) → j < length perms → high_at space x j ≤ length perms
  pub rising : (i j : ℕ) → i ≤ j → j < length perms → high_at space x i ≤ high_at space x j
  pub next : (i j : ℕ) → i < j → j < length perms → permits (at perms i) x ≡ true → next_at space i ≤ high_at space x j

-- the cells that are made: the smaller of x and y is the row whose turn it is, and the other receiver can be free from
-- the larger on
pub record Made (perms space : List ℕ) (x y : ℕ) : Type 0 where
  pub one : x ≤ length perms
  pub two : y ≤ length perms
  pub high_1 : y < x → x ≤ high_at space 1 y
  pub high_2 : x < y → y ≤ high_at space 2 x

-- What the line program leaves: each cell that is made has what is best of the rows from the smaller of x and y on.
pub record Filled (perms space : List ℕ) : Type 0 where
  pub numbered : Numbered perms space
  pub highs_1 : Highs perms space 1
  pub highs_2 : Highs perms space 2
  pub cells : (x y : ℕ) → Made perms space x y → cell_at space x y ≡ best_from (nexts_of space (length perms)) perms (min x y) x y

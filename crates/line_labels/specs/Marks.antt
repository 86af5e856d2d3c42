-- Inner: The pass over the cells that marks those that some labels that hear the most come by: a marked cell has `mark`
-- more than its value.
use Rattle.std.specs.Prelude.{◌≡◌, true, List, ℕ, ◌+◌, ◌-◌, ◌%◌, ◌≤◌, ◌<◌, min, max, length, drop, get_or}
use Rattle.basics.specs.Limits.{max_rows}
use Rattle.labels.specs.Permission.{permits}
use Rattle.line.specs.Cells.{cell_at, cell_bytes}
use Rattle.line_labels.specs.declared.Turn.{Turn}
use Rattle.line_labels.specs.declared.Reached.{Reached}

-- what a marked cell has more than its value, which is less
abbrev pub mark : ℕ
mark = 128

-- a value without its mark
abbrev pub unmarked : ℕ → ℕ
unmarked v = v % mark

-- what stands in a marked cell; its value is not 0
abbrev pub IsMarked : ℕ → Type 0
IsMarked v = mark < v

-- a cell, and bytes for all cells
pub record InCells (x y : ℕ) (space : List ℕ) : Type 0 where
  pub one : x ≤ max_rows
  pub two : y ≤ max_rows
  pub long : cell_bytes ≤ length space

-- from t and r to t' and r': cells are marked, labels are found and stages are reached; none is lost
pub record More (t : List ℕ) (r : Reached) (t' : List ℕ) (r' : Reached) : Type 0 where
  pub values : (i : ℕ) → unmarked (get_or t' i 0) ≡ unmarked (get_or t i 0)
  pub marked : (i : ℕ) → IsMarked (get_or t i 0) → IsMarked (get_or t' i 0)
  pub rest : drop cell_bytes t' ≡ drop cell_bytes t
  pub labels : (x : ℕ) → permits r.labels x ≡ true → permits r'.labels x ≡ true
  pub stage : r.stage ≤ r'.stage

-- A label of the row whose turn it is leads to cell (x, y): the row may have it, the rows from it to the cell's may be
-- left out, and the cell has the value that is needed.
pub record Leads (turn : Turn) (label needed : ℕ) (t : List ℕ) (x y : ℕ) : Type 0 where
  pub permitted : permits turn.perm label ≡ true
  pub some : 0 < needed
  pub near : min x y ≤ turn.must
  pub value : unmarked (cell_at t x y) ≡ needed

-- the label is found, and the cell that it leads to is marked
pub record Taken (label : ℕ) (t : List ℕ) (r : Reached) (x y : ℕ) : Type 0 where
  pub marked : IsMarked (cell_at t x y)
  pub found : permits r.labels label ≡ true
  pub stage : min x y ≤ r.stage

-- Each label that leads from cell (x, y) of t to another is taken: left out, on receiver 1 if it is free, on receiver 2
-- if it is free.
pub record AllTaken (turn : Turn) (t : List ℕ) (x y : ℕ) (t' : List ℕ) (r' : Reached) : Type 0 where
  pub out : Leads turn 0 (unmarked (cell_at t x y)) t (max x (turn.row + 1)) (max y (turn.row + 1)) → Taken 0 t' r' (max x (turn.row + 1)) (max y (turn.row + 1))
  pub one : x ≡ turn.row → Leads turn 1 (unmarked (cell_at t x y) - 1) t turn.next (max y (turn.row + 1)) → Taken 1 t' r' turn.next (max y (turn.row + 1))
  pub two : y ≡ turn.row → Leads turn 2 (unmarked (cell_at t x y) - 1) t (max x (turn.row + 1)) turn.next → Taken 2 t' r' (max x (turn.row + 1)) turn.next

-- the same of the marked ones of the cells (x k, y k) for the numbers k from `from` to before `to`
pub record Marked (turn : Turn) (x y : ℕ → ℕ) (from to : ℕ) (t : List ℕ) (r : Reached) (t' : List ℕ) (r' : Reached) : Type 0 where
  pub more : More t r t' r'
  pub taken : (k : ℕ) → from ≤ k → k < to → IsMarked (cell_at t (x k) (y k)) → AllTaken turn t (x k) (y k) t' r'

-- the cells (row, y) of the turn from y = row to before `to`, and the cells (x, row) from x = row + 1 to before `to`
abbrev pub RowMarked : Turn → ℕ → List ℕ → Reached → List ℕ → Reached → Type 0
RowMarked turn to t r t' r' = Marked turn (λ k. turn.row) (λ k. k) turn.row to t r t' r'

abbrev pub ColumnMarked : Turn → ℕ → List ℕ → Reached → List ℕ → Reached → Type 0
ColumnMarked turn to t r t' r' = Marked turn (λ k. k) (λ k. turn.row) (turn.row + 1) to t r t' r'

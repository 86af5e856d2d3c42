-- Inner: Which labels the rows of a line have in the settled labels that hear the most, added to the labels found.
use Rattle.std.specs.Prelude.{◌≡◌, ◌⊎◌, true, List, ℕ, suc, ◌≤◌, ◌<◌, length, drop, get_or}
use Rattle.basics.specs.Limits.{max_rows}
use Rattle.basics.specs.Lists.{at}
use Rattle.labels.specs.Labels.{heard}
use Rattle.labels.specs.Permission.{permits}
use Rattle.line.specs.Line.{Settled, numbers, best_from}
use Rattle.line.specs.Cells.{found_at, found_from, line_bytes, next_from}
use Rattle.line.specs.Filled.{nexts_of}

-- settled labels of a line of rows by number, of which none hear more
pub record HearsMost (perms nexts labels : List ℕ) : Type 0 where
  pub settled : Settled (numbers (length perms)) nexts perms labels
  pub most : suc (heard labels) ≡ best_from nexts perms 0 0 0

-- From `space` to `space'`: row k of the line is row `order k` of the table, and to the labels found for that row are
-- added those that row k has in some labels that hear the most. What else is added is permitted, so that a row may be
-- given more labels than it has there; none is missed.
pub record LineFound (perms order space space' : List ℕ) : Type 0 where
  pub kept : (i : ℕ) → line_bytes ≤ i → i < found_from → get_or space' i 0 ≡ get_or space i 0
  pub rest : drop next_from space' ≡ drop next_from space
  pub grown : (r x : ℕ) → r < max_rows → permits (found_at space r) x ≡ true → permits (found_at space' r) x ≡ true
  pub small : (r : ℕ) → r < max_rows → found_at space r < 8 → found_at space' r < 8
  pub only : (r x : ℕ) → r < max_rows → permits (found_at space' r) x ≡ true
      → (permits (found_at space r) x ≡ true) ⊎ ((k : ℕ) × (k < length perms) × (at order k ≡ r) × (permits (at perms k) x ≡ true))
  pub labels : (l : List ℕ) → HearsMost perms (nexts_of space (length perms)) l → (k : ℕ) → k < length perms → permits (found_at space' (at order k)) (at l k) ≡ true

-- Inner: How many the best of a class of label lists hears, and what the functions of pairs are lent.
use Rattle.std.specs.Prelude.{ℕ, suc, ◌≤◌, ◌<◌, ◌≡◌, List, length, drop}
use Rattle.basics.specs.Limits.{max_rows}
use Rattle.basics.specs.Lists.{at}
use Rattle.labels.specs.Labels.{heard}
use Rattle.arcs.specs.Order.{InOrder, Crossing}
use Rattle.line.specs.Filled.{NextRows}

-- the most that a list in C hears, and one more; 0 where C is empty
pub record Most (C : List ℕ → Type 0) (r : ℕ) : Type 0 where
  pub reached : 0 < r → (l : List ℕ) × C l × (suc (heard l) ≡ r)
  pub bound : (l : List ℕ) → C l → suc (heard l) ≤ r

-- rows in order, the first m of which cross the cut, and a permission for each row
pub record Rows (positions ends order perms : List ℕ) (m : ℕ) : Type 0 where
  pub few : length positions ≤ max_rows
  pub each_end : length ends ≡ length positions
  pub each_order : length order ≡ length positions
  pub each_perm : length perms ≡ length positions
  pub ordered : InOrder positions ends
  pub crossing : Crossing positions ends m
  pub row : (k : ℕ) → k < length positions → at order k < length positions

-- what the functions of pairs are lent: rows in order, m of them crossing the cut, a permission for each, the next rows
-- of those that do not cross, and room
pub record Ready (positions ends order perms : List ℕ) (m : ℕ) (left space : List ℕ) : Type 0 where
  pub rows : Rows positions ends order perms m
  pub each_left : length left ≡ length positions
  pub next_rows : NextRows (drop m positions) (drop m ends) space

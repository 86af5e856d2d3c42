-- Inner: How labels are found from pair to pair: whether a pair reaches the cap, and which labels are added to those
-- found.
use Rattle.std.specs.Prelude.{◌≡◌, ◌⊎◌, Bool, true, false, List, ℕ, suc, ◌<◌, take, drop}
use Rattle.basics.specs.Limits.{max_rows}
use Rattle.basics.specs.Lists.{at}
use Rattle.labels.specs.Labels.{heard}
use Rattle.labels.specs.Permission.{permits}
use Rattle.line.specs.Cells.{found_at, found_from, next_from}
use Rattle.line_labels.specs.Found.{LineFound}
use Rattle.pairs.specs.Pairs.{PairFit}
use Rattle.pairs.specs.Bounds.{PairValue}

-- Whether labels of the pair (w1, w2) reach the cap, which none passes: then the pair's value is the cap.
pub record Reaching (positions ends perms : List ℕ) (m w1 w2 cap : ℕ) (left space : List ℕ) (r : Bool) : Type 0 where
  pub yes : r ≡ true → PairValue positions ends perms m w1 w2 left space cap
  pub none : r ≡ false → (l : List ℕ) → PairFit positions ends perms m w1 w2 l → suc (heard l) < cap

-- the working space is as it was, but for the labels found
pub record SameButFound (space space' : List ℕ) : Type 0 where
  pub before : take found_from space' ≡ take found_from space
  pub after : drop next_from space' ≡ drop next_from space

-- no label is found for the first n rows of the table
pub record NoneFound (n : ℕ) (space space' : List ℕ) : Type 0 where
  pub others : SameButFound space space'
  pub zero : (r : ℕ) → r < n → found_at space' r ≡ 0

-- What `clear_found` leaves: the labels found before, if a pair has reached the cap, else none.
pub record Begun (reached : Bool) (space space' : List ℕ) : Type 0 where
  pub yes : reached ≡ true → space' ≡ space
  pub none : reached ≡ false → NoneFound max_rows space space'

-- Place k has row `order k` of the table: to the labels found for the rows at the first n places those are added that
-- `left` permits them.
pub record Added (order left : List ℕ) (n : ℕ) (space space' : List ℕ) : Type 0 where
  pub others : SameButFound space space'
  pub grown : (r x : ℕ) → r < max_rows → permits (found_at space r) x ≡ true → permits (found_at space' r) x ≡ true
  pub small : (r : ℕ) → r < max_rows → found_at space r < 8 → found_at space' r < 8
  pub only : (r x : ℕ) → r < max_rows → permits (found_at space' r) x ≡ true
      → (permits (found_at space r) x ≡ true) ⊎ ((k : ℕ) × (k < n) × (at order k ≡ r) × (permits (at left k) x ≡ true))
  pub labels : (k x : ℕ) → k < n → permits (at left k) x ≡ true → permits (found_at space' (at order k)) x ≡ true

-- To the labels found are added those that `left` permits the m crossing rows, and then those of the rows of the line.
pub record PairAdded (order left : List ℕ) (m : ℕ) (space space' : List ℕ) : Type 0 where
  pub between : List ℕ
  pub crossing : Added order left m space between
  pub line : LineFound (drop m left) (drop m order) between space'

-- Inner: Which labels rows have in some assignment that hears as many as can be heard.
use Rattle.std.specs.Prelude.{◌≡◌, Bool, true, false, List, ℕ, suc, ◌<◌}
use Rattle.basics.specs.Limits.{max_rows}
use Rattle.basics.specs.Lists.{at}
use Rattle.labels.specs.Labels.{heard}
use Rattle.labels.specs.Permission.{permits}
use Rattle.line.specs.Cells.{found_at}

-- Place k has row `order k` of the table: for every list of C that reaches the cap, the labels of its n places are
-- found; what is found is permitted.
pub record LabelsFound (order perms : List ℕ) (n cap : ℕ) (C : List ℕ → Type 0) (space : List ℕ) : Type 0 where
  pub labels : (l : List ℕ) → C l → suc (heard l) ≡ cap → (k : ℕ) → k < n → permits (found_at space (at order k)) (at l k) ≡ true
  pub only : (r x : ℕ) → r < n → permits (found_at space r) x ≡ true → permits (at perms r) x ≡ true
  pub small : (r : ℕ) → r < n → found_at space r < 8

-- Whether a list of C reaches the cap, which none passes: if one does, the labels are found; else what stood there is
-- as it was.
pub record Found (order perms : List ℕ) (n cap : ℕ) (C : List ℕ → Type 0) (space space' : List ℕ) (r : Bool) : Type 0 where
  pub yes : r ≡ true → ((l : List ℕ) × C l × (suc (heard l) ≡ cap)) × LabelsFound order perms n cap C space'
  pub none : r ≡ false → (l : List ℕ) → C l → suc (heard l) < cap
  pub kept : r ≡ false → (i : ℕ) → i < max_rows → found_at space' i ≡ found_at space i

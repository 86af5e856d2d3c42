-- Inner: The best two-track assignment of arcs under permissions: what the two public functions promise.
use Rattle.std.specs.Prelude.{◌≡◌, Bool, true, false, List, map, ℕ, suc, ◌≤◌, ◌<◌, length, drop}
use Rattle.labels.specs.Labels.{heard, Best}
use Rattle.labels.specs.Permission.{label_of}
use Rattle.arcs.specs.Arcs.{Arcs}
use Rattle.arcs.specs.Order.{Arranged}
use Rattle.line.specs.Cells.{core_bytes}
use Rattle.line.specs.Filled.{NextRows}
pub use Rattle.pairs.specs.Ready.{Most}

-- what the functions are lent: arcs within their circle, a permission for each, and working space
pub record Lent (C : ℕ) (starts lengths perms space : List ℕ) : Type 0 where
  pub arcs : Arcs C starts lengths
  pub each_perm : length perms ≡ length starts
  pub room : core_bytes ≤ length space

-- The answer of `best_assignment`: 0 where there is no assignment; else the permissions permit one label a row, those
-- of the best assignment, and the answer is its count and one more.
pub record Answered (C : List ℕ → Type 0) (r : ℕ) (perms : List ℕ) : Type 0 where
  pub none : r ≡ 0 → (l : List ℕ) → C l → ⊥
  pub found : 0 < r → Best C (map label_of perms)
  pub count : 0 < r → suc (heard (map label_of perms)) ≡ r

-- the answer of one search for the class C, with the narrowed permissions or without narrowing
pub record Solved (C : List ℕ → Type 0) (narrowing : Bool) (r : ℕ) (perms perms' : List ℕ) : Type 0 where
  pub most : Most C r
  pub answered : narrowing ≡ true → Answered C r perms'
  pub kept : narrowing ≡ false → perms' ≡ perms

-- what the rows are after `prepare`: in order, m of them crossing the cut, with the next rows of the others, and the
-- space after the core's bytes as it was
pub record Prepared (C : ℕ) (starts lengths positions ends order : List ℕ) (m : ℕ) (space space' : List ℕ) : Type 0 where
  pub arranged : Arranged C starts lengths positions ends order m
  pub next_rows : NextRows (drop m positions) (drop m ends) space'
  pub frame : drop core_bytes space' ≡ drop core_bytes space

-- Inner: Narrowing: row after row of the table is left one label, the first of 1, 2, 0 with which the most can still be
-- heard. What is known of the permissions on the way.
use Rattle.std.specs.Prelude.{◌≡◌, ◌⊎◌, Bool, true, false, cond, List, ℕ, suc, ◌≤◌, ◌<◌, length}
use Rattle.basics.specs.Lists.{at}
use Rattle.labels.specs.Labels.{heard, place, Earlier}
use Rattle.labels.specs.Permission.{permits, only, label_of}
use Rattle.line.specs.Cells.{found_at}
use Rattle.pairs.specs.Pairs.{gathered, Cleared}
use Rattle.pairs.specs.Ready.{Ready}

-- the assignments of the rows of a table, of which place k in order has row `order k`, under their permissions
pub record Ordered (positions ends order perms labels : List ℕ) : Type 0 where
  pub each : length labels ≡ length positions
  pub cleared : Cleared positions ends (gathered order perms) (gathered order labels)

-- `order` has each of n rows once: every row has a place, labels of the places are those of some labels of the rows,
-- and they hear as many
pub record Permuted (n : ℕ) (order : List ℕ) : Type 0 where
  pub place : (r : ℕ) → r < n → (k : ℕ) × (k < n) × (at order k ≡ r)
  pub labels : (l : List ℕ) → length l ≡ n → (t : List ℕ) × (length t ≡ n) × (gathered order t ≡ l)
  pub heard_same : (l : List ℕ) → length l ≡ n → heard (gathered order l) ≡ heard l

-- ---- A gives the assignments under permissions

-- some assignment reaches the cap
abbrev pub Reached : (List ℕ → List ℕ → Type 0) → ℕ → List ℕ → Type 0
Reached A cap perms = (l : List ℕ) × A perms l × (suc (heard l) ≡ cap)

-- row j has one label
abbrev pub OneAt : List ℕ → ℕ → Type 0
OneAt perms j = at perms j ≡ only (label_of (at perms j))

-- the rows below i have one label each
abbrev pub OneBelow : List ℕ → ℕ → Type 0
OneBelow perms i = (j : ℕ) → j < i → OneAt perms j

-- From the permissions `perms₀` to `perms`: no assignment is new, each that reaches the cap is still there or one that
-- comes earlier is, and the rows below i have one label each.
pub record Narrowed (A : List ℕ → List ℕ → Type 0) (cap : ℕ) (perms₀ perms : List ℕ) (i : ℕ) : Type 0 where
  pub each : length perms ≡ length perms₀
  pub within : (l : List ℕ) → A perms l → A perms₀ l
  pub covered : (l : List ℕ) → A perms₀ l → suc (heard l) ≡ cap → (k : List ℕ) × A perms k × (suc (heard k) ≡ cap) × ((k ≡ l) ⊎ Earlier k l)
  pub one : OneBelow perms i

-- The labels found are taken for the permissions: each that a row has in some assignment that reaches the cap, and none
-- that was not permitted.
pub record Taken (A : List ℕ → List ℕ → Type 0) (cap : ℕ) (perms perms' : List ℕ) : Type 0 where
  pub each : length perms' ≡ length perms
  pub reached : Reached A cap perms
  pub labels : (l : List ℕ) → A perms l → suc (heard l) ≡ cap → (r : ℕ) → r < length perms → permits (at perms' r) (at l r) ≡ true
  pub permitted : (r x : ℕ) → r < length perms → permits (at perms' r) x ≡ true → permits (at perms r) x ≡ true
  pub small : (r : ℕ) → r < length perms → at perms' r < 8

-- the permissions stand where labels found do
abbrev pub Kept : List ℕ → List ℕ → Type 0
Kept perms space = (r : ℕ) → r < length perms → found_at space r ≡ at perms r

-- The outcome of `take_found`: whether the cap is reached. If it is, the labels found are taken; else the permissions
-- that were kept are.
pub record Outcome (A : List ℕ → List ℕ → Type 0) (cap : ℕ) (perms perms' space : List ℕ) (r : Bool) : Type 0 where
  pub yes : r ≡ true → Taken A cap perms perms'
  pub none : r ≡ false → (l : List ℕ) → A perms l → suc (heard l) < cap
  pub before : r ≡ false → Kept perms' space

-- ---- the first label of a permission

-- the first of the labels 1, 2, 0 that is permitted; 0 where none is
abbrev pub first_in : ℕ → ℕ
first_in p = cond (permits p 1) 1 (cond (permits p 2) 2 0)

-- the rows from i up to row e are left their first label, the others stay
pub record Fixed (perms perms' : List ℕ) (i e : ℕ) : Type 0 where
  pub each : length perms' ≡ length perms
  pub inside : e ≤ length perms
  pub first : (r : ℕ) → i ≤ r → r < e → at perms' r ≡ only (first_in (at perms r))
  pub lower : (r : ℕ) → r < i → at perms' r ≡ at perms r
  pub upper : (r : ℕ) → e ≤ r → at perms' r ≡ at perms r

-- row i and maybe some after it
abbrev pub FixedFrom : List ℕ → List ℕ → ℕ → Type 0
FixedFrom perms perms' i = (e : ℕ) × (i < e) × Fixed perms perms' i e

-- Row i has one label, or only labels that come after the first one that it had.
abbrev pub Advanced : List ℕ → List ℕ → ℕ → Type 0
Advanced perms perms' i = OneAt perms' i ⊎ ((at perms' i < 8) × ((x : ℕ) → permits (at perms' i) x ≡ true → place (first_in (at perms i)) < place x))

-- ---- what is lent

-- what finding labels is lent: rows in order, and a cap that no assignment passes
pub record FindReady (positions ends order perms : List ℕ) (m cap : ℕ) (left space : List ℕ) : Type 0 where
  pub ready : Ready positions ends order perms m left space
  pub permuted : Permuted (length positions) order
  pub most : (l : List ℕ) → Ordered positions ends order perms l → suc (heard l) ≤ cap
  pub some : 1 ≤ cap

-- what narrowing is lent: a cap that some assignment reaches besides
pub record NarrowReady (positions ends order perms : List ℕ) (m cap : ℕ) (left space : List ℕ) : Type 0 where
  pub find : FindReady positions ends order perms m cap left space
  pub reached : Reached (Ordered positions ends order) cap perms

-- what the turn of row i is lent: the rows below have one label each, and the permissions are kept
pub record RowReady (positions ends order perms : List ℕ) (m cap : ℕ) (left space : List ℕ) (i : ℕ) : Type 0 where
  pub narrow : NarrowReady positions ends order perms m cap left space
  pub kept : Kept perms space
  pub one : OneBelow perms i
  pub inside : i < length perms

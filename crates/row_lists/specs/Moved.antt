-- Inner: Entries of a list that move up or down one, and what the functions of the crate `row_lists` are lent.
use Rattle.std.specs.Prelude.{ℕ, ◌+◌, ◌≤◌, ◌<◌, List, drop, take}
use Rattle.std.proofs.lemmas.List.Edits.{sets}
use Rattle.basics.specs.Limits.{max_rows, Places}

-- of the first n entries those after entry k move up one
abbrev pub moved_up : {X : Type 0} → ℕ → ℕ → List X → List X
moved_up k n l = sets l k (drop (k + 1) (take n l))

-- of the first n entries those from entry k on move down one
abbrev pub moved_down : {X : Type 0} → ℕ → ℕ → List X → List X
moved_down k n l = sets l (k + 1) (drop k (take n l))

-- row k is one of n rows in lists of 64 places
pub record RowAmong (k n : ℕ) (starts ends marks : List ℕ) : Type 0 where
  pub places : Places starts ends marks
  pub below : k < n
  pub most : n ≤ max_rows

-- Believed: The limit that every list of rows has, and lists with a place for each row that there can be.
use Rattle.std.specs.Prelude.{ℕ, ◌≡◌, Bool, ◌&&◌, List, eqb, length}

-- a table has at most so many rows
abbrev pub max_rows : ℕ
max_rows = 64

-- the lists of starts, ends and marks have 64 places each
pub record Places (starts ends marks : List ℕ) : Type 0 where
  pub starts_64 : length starts ≡ max_rows
  pub ends_64 : length ends ≡ max_rows
  pub marks_64 : length marks ≡ max_rows

-- the test for it, by their lengths
abbrev pub has_places : ℕ → ℕ → ℕ → Bool
has_places starts ends marks = eqb starts max_rows && eqb ends max_rows && eqb marks max_rows

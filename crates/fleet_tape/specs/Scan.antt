-- Inner: The rows of a tape as pieces of five bytes, and the filling of the lists: what the reader's inner functions
-- promise.
use Rattle.std.specs.Prelude.{ℕ, ◌≤◌, ◌≡◌, Bool, true, List, map, length, get_or}
use Rattle.std.specs.List.{list_all}
use Rattle.std.proofs.Math.Option.{some}
use Rattle.basics.specs.Limits.{max_rows, Places}
use Rattle.window.specs.declared.Row.{Row}
use Rattle.window.specs.Rows.{row}
use Rattle.tape.specs.Words.{word_at}
use Rattle.fleet_tape.specs.Form.{is_row, mark_of, rows_in}

-- each piece begins with a row's command
abbrev pub all_rows : List (List ℕ) → Bool
all_rows = list_all (λ bytes. is_row (get_or bytes 0 0))

-- the row of a command and two words
abbrev pub row_of : List ℕ → Row
row_of bytes = row (word_at bytes 1) (word_at bytes 3) (mark_of (get_or bytes 0 0))

-- the rows of a tape, five bytes each
pub record RowsOf (tape : List ℕ) (rows : List (List ℕ)) : Type 0 where
  pub commands : all_rows rows ≡ true
  pub read : rows_in tape ≡ some (map row_of rows)

-- the lists have places for the rows
pub record Fillable (rows : List (List ℕ)) (starts ends marks : List ℕ) : Type 0 where
  pub commands : all_rows rows ≡ true
  pub few : length rows ≤ max_rows
  pub places : Places starts ends marks

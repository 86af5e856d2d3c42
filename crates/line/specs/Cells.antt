-- Inner: The working space of the core, in the order of who writes it: a square of cells of a byte each, and after them
-- bytes for the rows of the line, the crossing rows and the rows of the table.
use Rattle.std.specs.Prelude.{List, ℕ, ◌+◌, ◌*◌, ◌-◌, get_or}
use Rattle.basics.specs.Limits.{max_rows}

-- the cells stand in rows of so many: one for each row of the line and one for the time after the last
abbrev pub across : ℕ
across = max_rows + 1

-- the bytes of all cells
abbrev pub cell_bytes : ℕ
cell_bytes = across * across

-- what the line program writes: the cells, and for each row of the line and each receiver a byte
abbrev pub line_bytes : ℕ
line_bytes = cell_bytes + 2 * max_rows

-- where the labels found begin; before them stands a byte for each crossing row and for none
abbrev pub found_from : ℕ
found_from = line_bytes + across

-- where the next rows begin
abbrev pub next_from : ℕ
next_from = found_from + max_rows

-- the bytes of working space that the core may use: those of its parts and some to spare
abbrev pub core_bytes : ℕ
core_bytes = 4608

-- cell (x, y): receiver 1 is free from row x on and receiver 2 from row y on
abbrev pub cell_at : List ℕ → ℕ → ℕ → ℕ
cell_at space x y = get_or space (x * across + y) 0

-- for row j of the line: the last row from which on receiver x can be free when the row's turn comes
abbrev pub high_at : List ℕ → ℕ → ℕ → ℕ
high_at space x j = get_or space (cell_bytes + (x - 1) * max_rows + j) 0

-- for the crossing row w, or for none: one more than what receiver 2 could hear with it
abbrev pub worth_at : List ℕ → ℕ → ℕ
worth_at space w = get_or space (line_bytes + w) 0

-- for row r of the table: the labels found, as a permission
abbrev pub found_at : List ℕ → ℕ → ℕ
found_at space r = get_or space (found_from + r) 0

-- for row j of the line: the first row that starts when it is over, or how many rows there are
abbrev pub next_at : List ℕ → ℕ → ℕ
next_at space j = get_or space (next_from + j) 0

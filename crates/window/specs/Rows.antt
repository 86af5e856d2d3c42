-- Believed: Rows, and the lists in which they are lent (docs/RULES.md, Ticks and windows).
use Rattle.std.specs.Prelude.{ℕ, List, map}
use Rattle.window.specs.declared.Row.{Row}

-- a row has a start, an end and a mark
abbrev pub row : ℕ → ℕ → ℕ → Row
row start end mark = record { start = start; end = end; mark = mark }

-- a table is lent as three lists, its starts, its ends and its marks
abbrev pub starts_of : List Row → List ℕ
starts_of rows = map (λ r. r.start) rows

abbrev pub ends_of : List Row → List ℕ
ends_of rows = map (λ r. r.end) rows

abbrev pub marks_of : List Row → List ℕ
marks_of rows = map (λ r. r.mark) rows

-- Believed: A table with a row more, or without one of its rows (docs/RULES.md, Held table).
use Rattle.std.specs.Prelude.{ℕ, [], ◌∷◌, ◌++◌}
use Rattle.basics.specs.Lists.{without}
use Rattle.window.specs.declared.Row.{Row}
use Rattle.table.specs.Tables.{Table, table}

-- the row is added after the others
abbrev pub with_row : Table → Row → Table
with_row t row = table t.setting (t.starts ++ row.start ∷ []) (t.ends ++ row.end ∷ []) (t.marks ++ row.mark ∷ [])

-- row k is taken out, and each row after it moves up one
abbrev pub without_row : Table → ℕ → Table
without_row t k = table t.setting (without k t.starts) (without k t.ends) (without k t.marks)

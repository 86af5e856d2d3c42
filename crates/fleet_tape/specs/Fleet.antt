-- Believed: What a fleet tape is (docs/RULES.md, Fleet tapes): from kind, R, hours and rows to bytes.
use Rattle.std.specs.Prelude.{ℕ, zero, suc, ◌≤◌, ◌<◌, ◌≡◌, List, [], ◌∷◌, ◌++◌, take}
use Rattle.window.specs.declared.Kind.{Kind}
use Rattle.window.specs.declared.Kind.TheVariants.{Round, Run}
use Rattle.window.specs.declared.Row.{Row}
use Rattle.window.specs.Rows.{row}
use Rattle.window.specs.Hours.{hour, hours_from}
use Rattle.tape.specs.Commands.{ROUND, RUN, WINDOW, MUST, WINDOW1, MUST1, WINDOW2, MUST2, HOURS, STOP}
use Rattle.tape.specs.Words.{word}

-- the command of a row with the mark: WINDOW for mark 0, MUST for 1, and 42 to 45 (hexadecimal) for 2 to 5
abbrev pub row_command : ℕ → ℕ
row_command zero = WINDOW
row_command (suc zero) = MUST
row_command (suc (suc zero)) = WINDOW1
row_command (suc (suc (suc zero))) = MUST1
row_command (suc (suc (suc (suc zero)))) = WINDOW2
row_command (suc (suc (suc (suc (suc mark))))) = MUST2

-- a row is its command, and its start and end of 16 bits
abbrev pub row_tape : Row → List ℕ
row_tape row = row_command row.mark ∷ word row.start ++ word row.end

-- the rows, in their order
unfoldable pub rows_tape : List Row → List ℕ
rows_tape [] = []
rows_tape (row ∷ rows) = row_tape row ++ rows_tape rows

-- HOURS has p and q of receiver 1 and then of receiver 2, of 16 bits each
abbrev pub hours_tape : List (List ℕ) → List ℕ
hours_tape hours =
    HOURS ∷ word (hour hours 0 0) ++ word (hour hours 0 1) ++ word (hour hours 1 0) ++ word (hour hours 1 1)

-- ROUND with R, or RUN with R and then HOURS
abbrev pub head_tape : Kind → ℕ → List (List ℕ) → List ℕ
head_tape Round R hours = ROUND ∷ word R
head_tape Run R hours = (RUN ∷ word R) ++ hours_tape hours

-- the head, the rows, and STOP as the last byte
unfoldable pub fleet_tape : Kind → ℕ → List (List ℕ) → List Row → List ℕ
unfolding rows_tape
fleet_tape kind R hours rows = head_tape kind R hours ++ rows_tape rows ++ (STOP ∷ [])

-- ---- what a fleet tape can state

-- start and end have 16 bits, and the mark is 0 to 5
pub record RowFits (row : Row) : Type 0 where
  pub start_16 : row.start < 65536
  pub end_16 : row.end < 65536
  pub mark_5 : row.mark ≤ 5

abbrev pub RowsFit : List Row → Type 0
RowsFit [] = Unit {0}
RowsFit (row ∷ rows) = RowFits row × RowsFit rows

-- the two receivers' open hours are two pairs, from p to q, of 16 bits each
pub record HoursFit (hours : List (List ℕ)) : Type 0 where
  pub p1 : ℕ
  pub q1 : ℕ
  pub p2 : ℕ
  pub q2 : ℕ
  pub pairs : hours ≡ hours_from p1 q1 p2 q2
  pub p1_16 : p1 < 65536
  pub q1_16 : q1 < 65536
  pub p2_16 : p2 < 65536
  pub q2_16 : q2 < 65536

pub record Fits (R : ℕ) (hours : List (List ℕ)) (rows : List Row) : Type 0 where
  pub ticks_16 : R < 65536
  pub hours_fit : HoursFit hours
  pub rows_fit : RowsFit rows

-- ---- rows as they are lent

abbrev pub rows_of_lists : List ℕ → List ℕ → List ℕ → List Row
rows_of_lists [] ends marks = []
rows_of_lists (s ∷ starts) [] marks = []
rows_of_lists (s ∷ starts) (e ∷ ends) [] = []
rows_of_lists (s ∷ starts) (e ∷ ends) (m ∷ marks) = row s e m ∷ rows_of_lists starts ends marks

-- the first n rows that the lists hold
abbrev pub first_rows : ℕ → List ℕ → List ℕ → List ℕ → List Row
first_rows n starts ends marks = rows_of_lists (take n starts) (take n ends) (take n marks)

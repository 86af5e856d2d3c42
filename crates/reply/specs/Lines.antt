-- Believed: The lines that `hubplan` prints (docs/RULES.md, The program), as bytes: one space between words, a newline
-- after every line.
use Rattle.std.specs.Prelude.{ℕ, zero, suc, ◌+◌, ◌/◌, ◌%◌, cond, List, [], ◌∷◌, ◌++◌, ltb, eqb}
use Rattle.refusals.specs.Refusals.{number_of}
use Rattle.table.specs.Planned.{Planned}

-- the digits of n, of which there are at most so many; the digit 0 is byte 48
unfoldable pub digits : ℕ → ℕ → List ℕ
digits zero n = []
digits (suc most) n = cond (ltb n 10) ((48 + n) ∷ []) (digits most (n / 10) ++ ((48 + n % 10) ∷ []))

-- a number in decimal, without leading zeros: it has no more digits than n + 1
unfoldable pub decimal : ℕ → List ℕ
unfolding digits
decimal n = digits (suc n) n

abbrev pub blank : List ℕ
blank = 32 ∷ []

abbrev pub newline : List ℕ
newline = 10 ∷ []

-- "heard"
abbrev pub heard_word : List ℕ
heard_word = 104 ∷ 101 ∷ 97 ∷ 114 ∷ 100 ∷ []

-- "refused"
abbrev pub refused_word : List ℕ
refused_word = 114 ∷ 101 ∷ 102 ∷ 117 ∷ 115 ∷ 101 ∷ 100 ∷ []

-- a word and a number
unfoldable pub word_line : List ℕ → ℕ → List ℕ
unfolding decimal
word_line word n = word ++ blank ++ decimal n ++ newline

-- the line of a row: row number and label
unfoldable pub row_line : ℕ → ℕ → List ℕ
unfolding decimal
row_line row label = decimal row ++ blank ++ decimal label ++ newline

-- the lines of the rows from one row on
unfoldable pub row_lines : ℕ → List ℕ → List ℕ
unfolding row_line
row_lines row [] = []
row_lines row (label ∷ labels) = row_line row label ++ row_lines (suc row) labels

-- of an accepted call "heard" and the count, and then a line for each row; of a refused one "refused" and the number
unfoldable pub printed : Planned → List ℕ
unfolding word_line row_lines
printed p =
    cond (eqb (number_of p.answer.refusal) 0)
    (word_line heard_word p.answer.count ++ row_lines 0 p.labels)
    (word_line refused_word (number_of p.answer.refusal))

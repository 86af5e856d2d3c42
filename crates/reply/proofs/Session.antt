-- Replies by computing: to a round of four rows, lines with numbers of two digits, a tape that is too long and an
-- output that is too short.
use Prim.Native.Nat.{ℕ}
use mathlib.Core.Path.{◌≡◌, refl}
use mathlib.Core.List.{List, [], ◌∷◌, ◌++◌}
use lib.ListN.{replicate}
use Rattle.window.specs.declared.Kind.{Kind}
use Rattle.window.specs.declared.Kind.TheVariants.{Round, Run}
use Rattle.window.specs.Hours.{no_hours}
use Rattle.window.specs.Rows.{row}
use Rattle.table.specs.Planned.{answering}
use Rattle.refusals.specs.Refusals.{answered, Rows, Form, Buffer}
use Rattle.fleet_tape.specs.Fleet.{fleet_tape}
use Rattle.fleet_tape.proofs.Session.{session}
use Rattle.reply.specs.Lines.{heard_word, refused_word, word_line, row_line, printed}
use Rattle.reply.specs.Replied.{refused_with, tape_answer, replying, replied}

-- "heard 3", and the four rows with their labels 1, 2, 0, 1
abbrev pub lines : List ℕ
lines =
    104 ∷ 101 ∷ 97 ∷ 114 ∷ 100 ∷ 32 ∷ 51 ∷ 10
    ∷ 48 ∷ 32 ∷ 49 ∷ 10
    ∷ 49 ∷ 32 ∷ 50 ∷ 10
    ∷ 50 ∷ 32 ∷ 48 ∷ 10
    ∷ 51 ∷ 32 ∷ 49 ∷ 10 ∷ []

pub session_printed : printed (tape_answer session 4608) ≡ lines
unfolding printed tape_answer
session_printed = refl

-- a count and a row number of two different digits, and a refusal of two digits
pub two_digit_lines :
    (word_line heard_word 12 ≡ 104 ∷ 101 ∷ 97 ∷ 114 ∷ 100 ∷ 32 ∷ 49 ∷ 50 ∷ 10 ∷ [])
    × (row_line 63 2 ≡ 54 ∷ 51 ∷ 32 ∷ 50 ∷ 10 ∷ [])
    × (printed (answering (answered Buffer 0) []) ≡ 114 ∷ 101 ∷ 102 ∷ 117 ∷ 115 ∷ 101 ∷ 100 ∷ 32 ∷ 49 ∷ 48 ∷ 10 ∷ [])
unfolding word_line row_line printed
two_digit_lines = (refl, refl, refl)

-- a tape of so many rows
abbrev many : Kind → ℕ → List ℕ
many kind n = fleet_tape kind 100 no_hours (replicate n (row 1 2 0))

-- a round of 79 rows, 399 bytes, is read and refused 2; one of 80 and a run of 78, 404 and 403 bytes, are refused 11
pub longest :
    (tape_answer (many Round 79) 4608 ≡ refused_with Rows)
    × (tape_answer (many Round 80) 4608 ≡ refused_with Form)
    × (tape_answer (many Run 78) 4608 ≡ refused_with Form)
unfolding tape_answer fleet_tape
longest = (refl, refl, refl)

-- an output of 399 bytes is left as it was; in one of 400 the reply stands in front of what was there, here "refused 3"
-- without working space
pub outputs :
    (replied session (replicate 399 9) [] ≡ replying 0 (replicate 399 9) [])
    × (replied session (replicate 400 9) [] ≡ replying 10 (refused_word ++ (32 ∷ 51 ∷ 10 ∷ []) ++ replicate 390 9) [])
unfolding replied
outputs = (refl, refl)

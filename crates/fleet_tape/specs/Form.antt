-- Believed: The form of a fleet tape, read from its bytes: what a tape of the form states, and nothing of any other
-- bytes.
use Rattle.std.specs.Prelude.{ℕ, ◌-◌, Bool, cond, ◌&&◌, List, [], ◌∷◌, leb, eqb}
use Rattle.std.proofs.Math.Option.{Option, none, some, map}
use Rattle.window.specs.declared.Kind.{Kind}
use Rattle.window.specs.declared.Kind.TheVariants.{Round, Run}
use Rattle.window.specs.Rows.{row}
use Rattle.window.specs.Hours.{hours_from, no_hours}
use Rattle.tape.specs.Commands.{ROUND, RUN, WINDOW, MUST2, HOURS, STOP, operand_bytes, begins, after}
use Rattle.tape.specs.Words.{joined, word_at}
use Rattle.window.specs.declared.Row.{Row}

-- ---- rows

-- a row's command: 40 to 45
abbrev pub is_row : ℕ → Bool
is_row command = leb WINDOW command && leb command MUST2

-- the mark that a row's command gives: 0 to 5, in the order of the commands
abbrev pub mark_of : ℕ → ℕ
mark_of command = command - WINDOW

-- a row before the others
abbrev pub put : Row → Option (List Row) → Option (List Row)
put row = map (λ rows. row ∷ rows)

-- bytes are rows and then STOP: a row is a command, 40 to 45, and four bytes, and what is left at the end is STOP alone
unfoldable pub rows_in : List ℕ → Option (List Row)
rows_in [] = none
rows_in (command ∷ []) = cond (eqb command STOP) (some []) none
rows_in (command ∷ a ∷ []) = none
rows_in (command ∷ a ∷ b ∷ []) = none
rows_in (command ∷ a ∷ b ∷ c ∷ []) = none
rows_in (command ∷ a ∷ b ∷ c ∷ d ∷ rest) =
    cond (is_row command) (put (row (joined a b) (joined c d) (mark_of command)) (rows_in rest)) none

-- ---- the whole tape

-- what a fleet tape states
pub record Fleet : Type 0 where
  pub kind : Kind
  pub ticks : ℕ
  pub hours : List (List ℕ)
  pub rows : List Row

abbrev pub fleet : Kind → ℕ → List (List ℕ) → List Row → Fleet
fleet kind R hours rows = record { kind = kind; ticks = R; hours = hours; rows = rows }

abbrev pub stated : Kind → ℕ → List (List ℕ) → Option (List Row) → Option Fleet
stated kind R hours none = none
stated kind R hours (some rows) = some (fleet kind R hours rows)

-- the operands of HOURS, which stands first
abbrev pub hours_of : List ℕ → List (List ℕ)
hours_of s = hours_from (word_at s 1) (word_at s 3) (word_at s 5) (word_at s 7)

-- in a round the hours are all 0
abbrev pub hours_in : Kind → List (List ℕ) → List (List ℕ)
hours_in Round hours = no_hours
hours_in Run hours = hours

-- ROUND, or RUN and then HOURS, and then the rows
unfoldable pub fleet_of : List ℕ → Option Fleet
unfolding rows_in begins operand_bytes
fleet_of s =
    cond (begins ROUND s) (stated Round (word_at s 1) no_hours (rows_in (after ROUND s)))
    (cond (begins RUN s && begins HOURS (after RUN s))
    (stated Run (word_at s 1) (hours_of (after RUN s)) (rows_in (after HOURS (after RUN s))))
    none)

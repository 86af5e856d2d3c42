-- Believed: The commands of tapes, each of one byte, how many bytes of operands each has, and a command with its
-- operands at the front of bytes (docs/RULES.md, Plan tapes, Fleet tapes).
use Rattle.std.specs.Prelude.{ℕ, ◌+◌, Bool, cond, ◌&&◌, List, ltb, eqb, length, get_or, drop}

-- the commands' bytes
abbrev pub ROUND : ℕ
ROUND = 0x10

abbrev pub RUN : ℕ
RUN = 0x11

abbrev pub RECEIVER : ℕ
RECEIVER = 0x20

abbrev pub LISTEN : ℕ
LISTEN = 0x30

abbrev pub WINDOW : ℕ
WINDOW = 0x40

abbrev pub MUST : ℕ
MUST = 0x41

-- rows that only receiver 1 can hear, may and must: laid out as WINDOW
abbrev pub WINDOW1 : ℕ
WINDOW1 = 0x42

abbrev pub MUST1 : ℕ
MUST1 = 0x43

-- rows that only receiver 2 can hear, may and must
abbrev pub WINDOW2 : ℕ
WINDOW2 = 0x44

abbrev pub MUST2 : ℕ
MUST2 = 0x45

abbrev pub HOURS : ℕ
HOURS = 0x50

abbrev pub STOP : ℕ
STOP = 0x7F

-- The bytes of a command's operands: a 16-bit operand has two, an 8-bit operand one. Any other byte is no command and
-- has none.
unfoldable pub operand_bytes : ℕ → ℕ
operand_bytes b =
    cond (eqb b ROUND) 2
    (cond (eqb b RUN) 2
    (cond (eqb b RECEIVER) 1
    (cond (eqb b LISTEN) 5
    (cond (eqb b WINDOW) 4
    (cond (eqb b MUST) 4
    (cond (eqb b WINDOW1) 4
    (cond (eqb b MUST1) 4
    (cond (eqb b WINDOW2) 4
    (cond (eqb b MUST2) 4
    (cond (eqb b HOURS) 8
    (cond (eqb b STOP) 0 0)))))))))))

-- how many bytes a command takes with its operands
abbrev pub command_bytes : ℕ → ℕ
command_bytes command = 1 + operand_bytes command

-- the command stands first, and all bytes of its operands follow
unfoldable pub begins : ℕ → List ℕ → Bool
unfolding operand_bytes
begins command s = ltb (operand_bytes command) (length s) && eqb (get_or s 0 0) command

-- STOP is all that is left
abbrev pub stop_last : List ℕ → Bool
stop_last s = begins STOP s && eqb (length s) 1

-- what follows a command with its operands
abbrev pub after : ℕ → List ℕ → List ℕ
after command s = drop (command_bytes command) s

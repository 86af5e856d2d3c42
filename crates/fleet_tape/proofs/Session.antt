-- Reader calls by computing: a round of four rows, a run with a must window, a tape with each command of a row, and the
-- refusals in their order.
use Prim.Native.Nat.{ℕ}
use mathlib.Core.Path.{◌≡◌, refl}
use mathlib.Core.List.{List, [], ◌∷◌, ◌++◌}
use lib.ListN.{replicate}
use Rattle.window.specs.declared.Kind.TheVariants.{Round, Run}
use Rattle.refusals.specs.Refusals.{Outcome, Accepted, Lists, Rows, Form}
use Rattle.window.specs.Rows.{row}
use Rattle.fleet_tape.specs.Fleet.{fleet_tape}
use Rattle.window.specs.Hours.{no_hours}
use Rattle.fleet_tape.specs.Reading.{Reading, reading, fleet_read}

-- a round of 100 ticks and four rows
abbrev pub session : List ℕ
session =
    0x10 ∷ 0x00 ∷ 0x64
    ∷ 0x40 ∷ 0x00 ∷ 0x0A ∷ 0x00 ∷ 0x1E
    ∷ 0x40 ∷ 0x00 ∷ 0x14 ∷ 0x00 ∷ 0x28
    ∷ 0x40 ∷ 0x00 ∷ 0x19 ∷ 0x00 ∷ 0x32
    ∷ 0x40 ∷ 0x00 ∷ 0x5A ∷ 0x00 ∷ 0x0A
    ∷ 0x7F ∷ []

pub session_tape : fleet_tape Round 100 no_hours (row 10 30 0 ∷ row 20 40 0 ∷ row 25 50 0 ∷ row 90 10 0 ∷ []) ≡ session
unfolding fleet_tape
session_tape = refl

-- lists of 64 places that hold 7
abbrev before : List ℕ
before = replicate 64 7

pub session_read : fleet_read session before before before
    ≡ reading (record { refusal = Accepted; kind = Round; ticks = 100; hours = no_hours; rows = 4 })
    ((10 ∷ 20 ∷ 25 ∷ 90 ∷ []) ++ replicate 60 7)
    ((30 ∷ 40 ∷ 50 ∷ 10 ∷ []) ++ replicate 60 7)
    ((0 ∷ 0 ∷ 0 ∷ 0 ∷ []) ++ replicate 60 7)
unfolding fleet_read
session_read = refl

abbrev run : List ℕ
run =
    0x11 ∷ 0x00 ∷ 0x64
    ∷ 0x50 ∷ 0x00 ∷ 0x00 ∷ 0x00 ∷ 0x32 ∷ 0x00 ∷ 0x28 ∷ 0x00 ∷ 0x64
    ∷ 0x40 ∷ 0x00 ∷ 0x2D ∷ 0x00 ∷ 0x3C
    ∷ 0x41 ∷ 0x00 ∷ 0x32 ∷ 0x00 ∷ 0x3C
    ∷ 0x40 ∷ 0x00 ∷ 0x00 ∷ 0x00 ∷ 0x32
    ∷ 0x7F ∷ []

abbrev hours : List (List ℕ)
hours = (0 ∷ 50 ∷ []) ∷ (40 ∷ 100 ∷ []) ∷ []

pub run_tape : fleet_tape Run 100 hours (row 45 60 0 ∷ row 50 60 1 ∷ row 0 50 0 ∷ []) ≡ run
unfolding fleet_tape
run_tape = refl

pub run_read : fleet_read run before before before
    ≡ reading (record { refusal = Accepted; kind = Run; ticks = 100; hours = hours; rows = 3 })
    ((45 ∷ 50 ∷ 0 ∷ []) ++ replicate 61 7)
    ((60 ∷ 60 ∷ 50 ∷ []) ++ replicate 61 7)
    ((0 ∷ 1 ∷ 0 ∷ []) ++ replicate 61 7)
unfolding fleet_read
run_read = refl

-- a refusal reports kind round and zeros, and the lists, which hold 7, 8 and 9, are untouched
abbrev none : Outcome → ℕ → ℕ → ℕ → Reading
none r n m l = reading (record { refusal = r; kind = Round; ticks = 0; hours = (0 ∷ 0 ∷ []) ∷ (0 ∷ 0 ∷ []) ∷ []; rows = 0 }) (replicate n 7) (replicate m 8) (replicate l 9)

-- the call, with lists of so many places
abbrev call : List ℕ → ℕ → ℕ → ℕ → Reading
call tape n m l = fleet_read tape (replicate n 7) (replicate m 8) (replicate l 9)

-- a tape of 65 rows
abbrev many : List ℕ
many = fleet_tape Round 100 no_hours (replicate 65 (row 1 2 0))

-- The order is 1, 11, 2: a list of other than 64 places, each of them, before bytes that are no tape; no tape before
-- too many rows; 65 rows.
pub refusals :
    (call [] 63 64 64 ≡ none Lists 63 64 64)
    × (call [] 64 65 64 ≡ none Lists 64 65 64)
    × (call [] 64 64 63 ≡ none Lists 64 64 63)
    × (call [] 64 64 64 ≡ none Form 64 64 64)
    × (call (many ++ (0x7F ∷ [])) 64 64 64 ≡ none Form 64 64 64)
    × (call many 64 64 64 ≡ none Rows 64 64 64)
unfolding fleet_read fleet_tape
refusals = (refl, refl, refl, refl, refl, refl)

-- a tape of six rows, with the command of the first and of the last
abbrev six : ℕ → ℕ → List ℕ
six first last =
    0x10 ∷ 0x00 ∷ 0x64
    ∷ first ∷ 0x00 ∷ 0x0A ∷ 0x00 ∷ 0x1E
    ∷ 0x41 ∷ 0x00 ∷ 0x14 ∷ 0x00 ∷ 0x28
    ∷ 0x42 ∷ 0x00 ∷ 0x19 ∷ 0x00 ∷ 0x32
    ∷ 0x43 ∷ 0x00 ∷ 0x5A ∷ 0x00 ∷ 0x0A
    ∷ 0x44 ∷ 0x00 ∷ 0x00 ∷ 0x00 ∷ 0x01
    ∷ last ∷ 0x01 ∷ 0x02 ∷ 0xFF ∷ 0xFE
    ∷ 0x7F ∷ []

-- the commands 40 to 45 give the marks 0 to 5
pub six_tape : fleet_tape Round 100 no_hours (row 10 30 0 ∷ row 20 40 1 ∷ row 25 50 2 ∷ row 90 10 3 ∷ row 0 1 4 ∷ row 258 65534 5 ∷ []) ≡ six 0x40 0x45
unfolding fleet_tape
six_tape = refl

pub six_read : fleet_read (six 0x40 0x45) before before before
    ≡ reading (record { refusal = Accepted; kind = Round; ticks = 100; hours = no_hours; rows = 6 })
    ((10 ∷ 20 ∷ 25 ∷ 90 ∷ 0 ∷ 258 ∷ []) ++ replicate 58 7)
    ((30 ∷ 40 ∷ 50 ∷ 10 ∷ 1 ∷ 65534 ∷ []) ++ replicate 58 7)
    ((0 ∷ 1 ∷ 2 ∷ 3 ∷ 4 ∷ 5 ∷ []) ++ replicate 58 7)
unfolding fleet_read
six_read = refl

-- the bytes before 40 and after 45 are no commands of rows
pub no_row : (call (six 0x3F 0x45) 64 64 64 ≡ none Form 64 64 64) × (call (six 0x40 0x46) 64 64 64 ≡ none Form 64 64 64)
unfolding fleet_read
no_row = (refl, refl)

-- Worked examples: what stands at each place of a tape; tapes that are taken and tapes that are not, at each limit; and
-- a table, labels and a buffer from which the writer makes a tape.
use Prim.Native.Nat.{ℕ}
use mathlib.Core.Path.{◌≡◌, refl}
use mathlib.Core.Bool.{true, false}
use mathlib.Core.List.{List, [], ◌∷◌, ◌++◌}
use lib.ListN.{replicate}
use Rattle.window.specs.Hours.{no_hours}
use Rattle.window.specs.declared.Kind.TheVariants.{Round, Run}
use Rattle.table.specs.Tables.{setting_of, table}
use Rattle.plan_tape.specs.Written.{written}
use Rattle.plan_tape.proofs.Sample.{session_tape}
use Rattle.plan_reader.specs.declared.Item.TheVariants.{Head, Receiver, Listen, Stop}
use Rattle.plan_reader.specs.Items.{head_of, read_of, item_of, after_item, item_at}
use Rattle.plan_reader.specs.Judged.{is_plan_tape}
use Rattle.plan_reader.specs.Taken.{WriterMakes}
use Rattle.std.specs.Prelude.{Some, None, drop}

-- ROUND or RUN with R, the LISTENs of receivers 1 and 2, and STOP
abbrev tape : List ℕ → List ℕ → List ℕ → List ℕ
tape head first second = head ++ (0x20 ∷ 0x01 ∷ first) ++ (0x20 ∷ 0x02 ∷ second) ++ (0x7F ∷ [])

abbrev round : List ℕ → List ℕ → List ℕ
round = tape (0x10 ∷ 0x00 ∷ 0x64 ∷ [])

abbrev run : List ℕ → List ℕ → List ℕ
run = tape (0x11 ∷ 0x00 ∷ 0x64 ∷ [])

-- one LISTEN
abbrev listen : ℕ → ℕ → ℕ → List ℕ
listen row start end = 0x30 ∷ row ∷ 0x00 ∷ start ∷ 0x00 ∷ end ∷ []

-- Taken: no LISTEN at all; row numbers with holes, up to 63; touching windows; an end at tick 0; in a run an end at R;
-- in a round, windows of beacons that send all day, one on each receiver.
pub taken :
    (is_plan_tape (round [] []) ≡ true)
    × (is_plan_tape (round (listen 63 0 9) (listen 5 1 8)) ≡ true)
    × (is_plan_tape (round (listen 1 10 30 ++ listen 0 30 10) []) ≡ true)
    × (is_plan_tape (round (listen 0 99 0) []) ≡ true)
    × (is_plan_tape (run (listen 0 0 100) []) ≡ true)
    × (is_plan_tape (round (listen 0 9 9) []) ≡ true)
    × (is_plan_tape (round (listen 0 99 99) (listen 1 0 0)) ≡ true)
unfolding is_plan_tape
taken = (refl, refl, refl, refl, refl, refl, refl)

-- Not taken: row 64; a row twice, on one receiver and on both; in a run, a start that is the end; in a round an end at
-- R, a start and end at R, a window of a beacon that sends all day and another one on its receiver; in a run an end
-- before the start; starts that do not rise; windows that overlap, also over tick 0; receivers exchanged; RECEIVER 0 in
-- the place of 1; a LISTEN cut short; STOP early; no STOP; a byte after STOP.
pub not_taken :
    (is_plan_tape (round (listen 64 0 9) []) ≡ false)
    × (is_plan_tape (round (listen 5 0 9 ++ listen 5 20 30) []) ≡ false)
    × (is_plan_tape (round (listen 5 0 9) (listen 5 20 30)) ≡ false)
    × (is_plan_tape (run (listen 0 9 9) []) ≡ false)
    × (is_plan_tape (round (listen 0 9 100) []) ≡ false)
    × (is_plan_tape (round (listen 0 100 100) []) ≡ false)
    × (is_plan_tape (round (listen 0 9 9 ++ listen 1 50 51) []) ≡ false)
    × (is_plan_tape (round [] (listen 0 8 9 ++ listen 1 9 9)) ≡ false)
    × (is_plan_tape (run (listen 0 90 10) []) ≡ false)
    × (is_plan_tape (round (listen 0 20 30 ++ listen 1 0 9) []) ≡ false)
    × (is_plan_tape (round (listen 0 0 20 ++ listen 1 19 30) []) ≡ false)
    × (is_plan_tape (round (listen 0 5 9 ++ listen 1 90 6) []) ≡ false)
    × (is_plan_tape ((0x10 ∷ 0x00 ∷ 0x64 ∷ []) ++ (0x20 ∷ 0x02 ∷ 0x20 ∷ 0x01 ∷ 0x7F ∷ [])) ≡ false)
    × (is_plan_tape ((0x10 ∷ 0x00 ∷ 0x64 ∷ []) ++ (0x20 ∷ 0x00 ∷ 0x20 ∷ 0x02 ∷ 0x7F ∷ [])) ≡ false)
    × (is_plan_tape (round (0x30 ∷ 0x00 ∷ []) []) ≡ false)
    × (is_plan_tape (round (0x7F ∷ []) []) ≡ false)
    × (is_plan_tape ((0x10 ∷ 0x00 ∷ 0x64 ∷ []) ++ (0x20 ∷ 0x01 ∷ 0x20 ∷ 0x02 ∷ [])) ≡ false)
    × (is_plan_tape (round [] [] ++ (0x7F ∷ [])) ≡ false)
unfolding is_plan_tape
not_taken = (refl, refl, refl, refl, refl, refl, refl, refl, refl, refl, refl, refl, refl, refl, refl, refl, refl, refl)

-- R is 2 to 43,200
abbrev rounds : ℕ → ℕ → List ℕ
rounds high low = tape (0x10 ∷ high ∷ low ∷ []) [] []

pub limits :
    (is_plan_tape (rounds 0x00 0x01) ≡ false)
    × (is_plan_tape (rounds 0x00 0x02) ≡ true)
    × (is_plan_tape (rounds 0xA8 0xC0) ≡ true)
    × (is_plan_tape (rounds 0xA8 0xC1) ≡ false)
unfolding is_plan_tape
limits = (refl, refl, refl, refl)

-- What stands at each place of a tape and what is left after it, and places where nothing can be read: a command of a
-- fleet tape, a LISTEN that is cut short, past the end.
abbrev heard : List ℕ
heard = run (listen 7 2 4) []

abbrev fleet : List ℕ
fleet = 0x40 ∷ 0x00 ∷ 0x01 ∷ 0x00 ∷ 0x02 ∷ []

abbrev short : List ℕ
short = 0x30 ∷ 0x00 ∷ 0x00 ∷ 0x01 ∷ 0x00 ∷ []

pub items :
    (item_at heard 0 ≡ (Some (Head (head_of Run 100)), drop 3 heard))
    × (item_at (round [] []) 0 ≡ (Some (Head (head_of Round 100)), drop 3 (round [] [])))
    × (item_at heard 3 ≡ (Some (Receiver 1), drop 5 heard))
    × (item_at heard 5 ≡ (Some (Listen (read_of 7 2 4)), drop 11 heard))
    × (item_at heard 11 ≡ (Some (Receiver 2), drop 13 heard))
    × (item_at heard 13 ≡ (Some Stop, drop 14 heard))
    × (item_at heard 14 ≡ (None, drop 14 heard))
    × (item_at fleet 0 ≡ (None, fleet))
    × (item_at short 0 ≡ (None, short))
unfolding item_of after_item
items = (refl, refl, refl, refl, refl, refl, refl, refl, refl)

-- On this tape receiver 1 hears two rows whose windows touch at tick 10: the writer makes it from a table with a gap
-- of 0, which is that of plan tapes, and with a longer gap it has no such plan.
pub made : WriterMakes session_tape
unfolding written
made =
    record {
      table = table (setting_of Round 100 0 no_hours) (10 ∷ 20 ∷ 25 ∷ 90 ∷ []) (30 ∷ 40 ∷ 50 ∷ 10 ∷ []) (replicate 4 0);
      labels = 1 ∷ 2 ∷ 0 ∷ 1 ∷ [];
      buffer = replicate 26 9;
      gap = refl;
      hours = tt;
      accepted = refl;
      bytes = refl;
    }

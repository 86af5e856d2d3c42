-- Inner: The plain test for a tape that the writer can make, clause for clause: its form, R, and each LISTEN beside the
-- others. proofs/Taken.antt has that it says the same.
use Rattle.std.specs.Prelude.{ℕ, Bool, true, not, ◌&&◌, ◌||◌, List, [], ◌∷◌, ltb, eqb, get_or}
use Rattle.std.specs.List.{list_all}
use Rattle.basics.specs.Limits.{max_rows}
use Rattle.window.specs.declared.Kind.{Kind}
use Rattle.window.specs.Windows.{is_window, overlaps}
use Rattle.refusals.specs.Refusals.{passes}
use Rattle.table.specs.Checks.{ticks_refusal}
use Rattle.tape.specs.Commands.{ROUND, RUN, RECEIVER, begins, stop_last}
use Rattle.plan_reader.specs.declared.judged.Listens.{Listens}
use Rattle.plan_tape.specs.Stated.{Listen, Stated, listens_in, after_head, after_part, stated}

-- RECEIVER with this number stands first
unfoldable pub is_receiver : ℕ → List ℕ → Bool
unfolding begins
is_receiver number s = begins RECEIVER s && eqb (get_or s 1 0) number

-- ROUND or RUN comes first, then receiver 1 with its LISTENs, receiver 2 with its own, and STOP as the last byte
unfoldable pub is_formed : List ℕ → Bool
unfolding begins is_receiver after_head after_part
is_formed tape =
    (begins ROUND tape || begins RUN tape)
    && is_receiver 1 (after_head tape)
    && is_receiver 2 (after_part (after_head tape))
    && stop_last (after_part (after_part (after_head tape)))

-- the LISTENs that a walk has left
abbrev pub listens_left : Listens → List Listen
listens_left l = listens_in l.rest.now

-- a row of a table, with a window that passes check 6
abbrev pub is_listen : Kind → ℕ → Listen → Bool
is_listen kind R w = ltb w.row max_rows && is_window kind R w.start w.end

abbrev pub is_other : ℕ → Listen → Bool
is_other row w = not (eqb row w.row)

-- one receiver's LISTEN before another: it starts earlier, does not overlap it, and is of another row
abbrev pub is_before : Listen → Listen → Bool
is_before w w' = ltb w.start w'.start && not (overlaps w.start w.end w'.start w'.end) && is_other w.row w'

-- the LISTENs of one receiver
unfoldable pub is_part : Kind → ℕ → List Listen → Bool
unfolding overlaps
is_part kind R [] = true
is_part kind R (w ∷ ws) = is_listen kind R w && list_all (is_before w) ws && is_part kind R ws

-- no row under both receivers
unfoldable pub are_other : List Listen → List Listen → Bool
are_other [] us = true
are_other (w ∷ ws) us = list_all (is_other w.row) us && are_other ws us

-- R, which passes check 4, and the LISTENs of receivers 1 and 2
unfoldable pub are_parts : Kind → ℕ → List Listen → List Listen → Bool
unfolding ticks_refusal is_part are_other
are_parts kind R first second =
    passes (ticks_refusal R) && is_part kind R first && is_part kind R second && are_other first second

abbrev pub is_judged : Stated → Bool
is_judged s = are_parts s.kind s.ticks s.first s.second

unfoldable pub is_plan_tape : List ℕ → Bool
unfolding is_formed stated are_parts
is_plan_tape tape = is_formed tape && is_judged (stated tape)

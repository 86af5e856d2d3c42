-- Worked examples of what C is handed. Each definition of Handed.antt has a whole answer in which every field holds
-- another number, so that no two can be exchanged, and then what is handed on refusals, with the values that stand
-- beside the refusal's number. The right sides are records of C's structs, and cite none of those definitions.
use Prim.Native.Nat.{ℕ}
use mathlib.Core.Path.{◌≡◌, refl}
use mathlib.Core.Bool.{Bool, true, false}
use mathlib.Core.List.{List, [], ◌∷◌}
use lib.Count.{ones}
use lib.ListN.{replicate}
use Rattle.std.specs.Prelude.{Ok, Err}
use Rattle.window.specs.declared.Kind.TheVariants.{Round, Run}
use Rattle.window.specs.Rows.{row}
use Rattle.window.specs.Hours.{hours_from, no_hours}
use Rattle.refusals.specs.declared.Refusal.TheVariants as refusal
use Rattle.refusals.specs.Refusals.{answered, answer_of, Accepted, Lists, Window, NotPlan, Gap, NoRow}
use Rattle.table.specs.Tables.{Table, setting_of, table}
use Rattle.table.specs.Checks.{looked}
use Rattle.table.specs.Planned.{called, plan_call}
use Rattle.plan_tape.specs.Written.{writing, written}
use Rattle.fleet_tape.specs.Reading.{Reading, reading, report_of, fleet_read}
use Rattle.player.specs.declared.Receiver.TheVariants.{Idle, Listening}
use Rattle.player.specs.Played.{player_at, state_of, stepped_to, stepped, started_of, started}
use Rattle.held_table.specs.Held.{HeldTable, numbers_of, kept, begun_as, begun, gave, add_call, withdraw_call}
use Rattle.candidates.specs.Tried.{candidates, called as tried_called, candidates_call}
use Rattle.bit_words.specs.Words.{label_words, words_given, words_call, labels_given, labels_call}
use Rattle.bit_words.specs.Words.{must_word, must_given, must_call}
use Rattle.bit_words.specs.Clashes.{windows_of, clash_given, clash_call}
use Rattle.hub_c.specs.declared.HubAnswer.{HubAnswer}
use Rattle.hub_c.specs.declared.HubReport.{HubReport}
use Rattle.hub_c.specs.declared.HubPlayer.{HubPlayer}
use Rattle.hub_c.specs.declared.HubReceiver.{HubReceiver}
use Rattle.hub_c.specs.declared.HubHeldNumbers.{HubHeldNumbers}
use Rattle.hub_c.specs.declared.HubHeldBegun.{HubHeldBegun}
use Rattle.hub_c.specs.declared.HubHeldChange.{HubHeldChange}
use Rattle.hub_c.specs.declared.words.HubLabelWords.{HubLabelWords}
use Rattle.hub_c.specs.Handed.{handed, handed_report, plan_gave, handed_plan, tape_gave, handed_tape, read_gave}
use Rattle.hub_c.specs.Handed.{handed_read, handed_player, handed_started, handed_receiver, handed_stepped}
use Rattle.hub_c.specs.Handed.{handed_numbers, numbers_from, handed_begun, held_gave, handed_change, handed_held}
use Rattle.hub_c.specs.Handed.{handed_looked, tried_gave, handed_tried, handed_words, handed_must, labels_gave}
use Rattle.hub_c.specs.Handed.{handed_labels, clash_gave, handed_clash}

-- ---- C's structs that stand below more than once, by their fields in the order of include/hubplan.h

abbrev answer : ℕ → ℕ → HubAnswer
answer r n = record { refusal = r; count = n }

abbrev report : ℕ → Bool → ℕ → ℕ → ℕ → ℕ → ℕ → ℕ → HubReport
report r is_run ticks p1 q1 p2 q2 n =
    record { refusal = r; run = is_run; ticks = ticks; p1 = p1; q1 = q1; p2 = p2; q2 = q2; rows = n }

abbrev player : ℕ → HubPlayer
player tick = record { tick = tick }

abbrev receiver : Bool → ℕ → ℕ → HubReceiver
receiver listening n end = record { listening = listening; row = n; until = end }

abbrev held_numbers : ℕ → ℕ → ℕ → ℕ → HubHeldNumbers
held_numbers R g n m = record { ticks = R; gap = g; rows = n; count = m }

abbrev held_begun : ℕ → HubHeldNumbers → HubHeldBegun
held_begun r n = record { refusal = r; numbers = n }

abbrev held_change : ℕ → ℕ → HubHeldNumbers → HubHeldChange
held_change r count n = record { refusal = r; count = count; numbers = n }

abbrev two_words : ℕ → ℕ → ℕ → ℕ → HubLabelWords
two_words r n a b = record { refusal = r; count = n; heard = a; receiver = b }

-- ---- answers

-- a count, and a refusal with count 0
pub answers :
    (handed (answered Accepted 7) ≡ answer 0 7)
    × (handed (answered Gap 7) ≡ answer 14 7)
    × (handed (answer_of (Ok 7)) ≡ answer 0 7)
    × (handed (answer_of (Err refusal.Gap)) ≡ answer 14 0)
answers = (refl, refl, refl, refl)

-- ---- the planner and the writer of plan tapes

pub plans :
    (handed_plan (called (answered Gap 2) (3 ∷ []) (4 ∷ []))
    ≡ record { answer = answer 14 2; labels = 3 ∷ []; space = 4 ∷ [] })
    × (plan_gave (answer 1 2) (3 ∷ []) (4 ∷ []) ≡ record { answer = answer 1 2; labels = 3 ∷ []; space = 4 ∷ [] })
    × (handed_tape (writing (answered Gap 2) (3 ∷ [])) ≡ record { answer = answer 14 2; buffer = 3 ∷ [] })
    × (tape_gave (answer 1 2) (3 ∷ []) ≡ record { answer = answer 1 2; buffer = 3 ∷ [] })
plans = (refl, refl, refl, refl)

-- a round with a gap, and a row that must be heard
abbrev one_row : ℕ → Table
one_row gap = table (setting_of Round 100 gap no_hours) (10 ∷ []) (30 ∷ []) (1 ∷ [])

-- a gap of 601: count 0, and labels and working space as they were
pub plan_refused :
    handed_plan (plan_call (one_row 601) (9 ∷ []) (replicate 4608 7))
    ≡ record { answer = answer 14 0; labels = 9 ∷ []; space = replicate 4608 7 }
unfolding plan_call
plan_refused = refl

-- labels that leave out the row: count 0, and the buffer as it was
pub tape_refused :
    handed_tape (written (one_row 0) (0 ∷ []) (5 ∷ 6 ∷ [])) ≡ record { answer = answer 9 0; buffer = 5 ∷ 6 ∷ [] }
unfolding written
tape_refused = refl

-- ---- fleet tapes

-- a tape of a run, and of a round; a refused one is of kind round, with zeros
pub reports :
    (handed_report (record { refusal = Gap; kind = Run; ticks = 1; hours = hours_from 2 3 4 5; rows = 6 })
    ≡ report 14 true 1 2 3 4 5 6)
    × (handed_report (record { refusal = Accepted; kind = Round; ticks = 1; hours = no_hours; rows = 6 })
    ≡ report 0 false 1 0 0 0 0 6)
    × (handed_report (report_of (Err refusal.Form)) ≡ report 11 false 0 0 0 0 0 0)
reports = (refl, refl, refl)

-- three lists that are lent
abbrev read_into : List ℕ → List ℕ → List ℕ → Reading
read_into starts ends marks = reading (report_of (Err refusal.Rows)) starts ends marks

pub reads :
    (handed_read (read_into (1 ∷ []) (2 ∷ []) (3 ∷ []))
    ≡ record { report = report 2 false 0 0 0 0 0 0; starts = 1 ∷ []; ends = 2 ∷ []; marks = 3 ∷ [] })
    × (read_gave (report 11 true 1 2 3 4 5 6) (7 ∷ []) (8 ∷ []) (9 ∷ [])
    ≡ record { report = report 11 true 1 2 3 4 5 6; starts = 7 ∷ []; ends = 8 ∷ []; marks = 9 ∷ [] })
reads = (refl, refl)

-- no tape at all: kind round and zeros, and the lists as they were
pub read_refused :
    handed_read (fleet_read [] (replicate 64 7) (replicate 64 8) (replicate 64 9))
    ≡ record {
      report = report 11 false 0 0 0 0 0 0;
      starts = replicate 64 7;
      ends = replicate 64 8;
      marks = replicate 64 9;
    }
unfolding fleet_read
read_refused = refl

-- ---- the player

pub players :
    (handed_player (player_at 8) ≡ player 8)
    × (handed_started (started_of (Ok (player_at 8))) ≡ record { refusal = 0; player = player 8 })
    × (handed_started (started_of (Err refusal.FirstTick)) ≡ record { refusal = 13; player = player 65535 })
    × (handed_receiver Idle ≡ receiver false 0 0)
    × (handed_receiver (Listening 3 40) ≡ receiver true 3 40)
players = (refl, refl, refl, refl, refl)

-- a tape of a round of 100 ticks in which no row is heard
abbrev silent : List ℕ
silent = 0x10 ∷ 0 ∷ 100 ∷ 0x20 ∷ 1 ∷ 0x20 ∷ 2 ∷ 0x7F ∷ []

-- a start that is refused gives a player that is finished on every tape
pub starts :
    (handed_started (started silent 99) ≡ record { refusal = 0; player = player 99 })
    × (handed_started (started silent 100) ≡ record { refusal = 13; player = player 65535 })
    × (handed_started (started [] 0) ≡ record { refusal = 12; player = player 65535 })
unfolding started
starts = (refl, refl, refl)

pub steps :
    (handed_stepped (stepped_to (state_of false (Listening 3 40) (Listening 5 60)) (player_at 7))
    ≡ record {
      finished = false;
      receiver1 = receiver true 3 40;
      receiver2 = receiver true 5 60;
      player = player 7;
    })
    × (handed_stepped (stepped silent (player_at 65535))
    ≡ record {
      finished = true;
      receiver1 = receiver false 0 0;
      receiver2 = receiver false 0 0;
      player = player 65535;
    })
unfolding stepped
steps = (refl, refl)

-- ---- a held table

pub numbers :
    (handed_numbers (numbers_of 1 2 3 4) ≡ held_numbers 1 2 3 4)
    × (numbers_from (held_numbers 1 2 3 4) ≡ record { ticks = 1; gap = 2; rows = 3; count = 4 })
numbers = (refl, refl)

-- a begin that is refused gives the numbers of an empty table of R 2 and g 0
pub begins :
    (handed_begun (record { refusal = Gap; numbers = numbers_of 1 2 3 4 }) ≡ held_begun 14 (held_numbers 1 2 3 4))
    × (handed_begun (begun_as (Ok (numbers_of 1 2 3 4))) ≡ held_begun 0 (held_numbers 1 2 3 4))
    × (handed_begun (begun_as (Err refusal.Gap)) ≡ held_begun 14 (held_numbers 2 0 0 0))
    × (handed_begun (begun 100 7) ≡ held_begun 0 (held_numbers 100 7 0 0))
    × (handed_begun (begun 1 7) ≡ held_begun 4 (held_numbers 2 0 0 0))
    × (handed_begun (begun 100 601) ≡ held_begun 14 (held_numbers 2 0 0 0))
unfolding begun
begins = (refl, refl, refl, refl, refl, refl)

-- lists of one place
abbrev short : HeldTable
short = kept (numbers_of 1 2 3 4) (6 ∷ []) (7 ∷ []) (8 ∷ []) (9 ∷ [])

pub changes :
    (handed_change (answered Accepted 5) (numbers_of 1 2 3 4) ≡ held_change 0 5 (held_numbers 1 2 3 4))
    × (handed_change (answer_of (Err refusal.NoRow)) (numbers_of 1 2 3 4) ≡ held_change 15 0 (held_numbers 1 2 3 4))
    × (handed_held (gave (answered NoRow 5) short (10 ∷ []))
    ≡ record {
      change = held_change 15 5 (held_numbers 1 2 3 4);
      starts = 6 ∷ [];
      ends = 7 ∷ [];
      marks = 8 ∷ [];
      labels = 9 ∷ [];
      space = 10 ∷ [];
    })
    × (held_gave (held_change 15 5 (held_numbers 1 2 3 4)) (6 ∷ []) (7 ∷ []) (8 ∷ []) (9 ∷ []) (10 ∷ [])
    ≡ record {
      change = held_change 15 5 (held_numbers 1 2 3 4);
      starts = 6 ∷ [];
      ends = 7 ∷ [];
      marks = 8 ∷ [];
      labels = 9 ∷ [];
      space = 10 ∷ [];
    })
changes = (refl, refl, refl, refl)

-- lists of one place: refused 1 with count 0, and numbers, lists and working space as they were
pub changes_refused :
    (handed_held (add_call short (row 11 12 1) (10 ∷ []))
    ≡ record {
      change = held_change 1 0 (held_numbers 1 2 3 4);
      starts = 6 ∷ [];
      ends = 7 ∷ [];
      marks = 8 ∷ [];
      labels = 9 ∷ [];
      space = 10 ∷ [];
    })
    × (handed_held (withdraw_call short 1 (10 ∷ []))
    ≡ record {
      change = held_change 1 0 (held_numbers 1 2 3 4);
      starts = 6 ∷ [];
      ends = 7 ∷ [];
      marks = 8 ∷ [];
      labels = 9 ∷ [];
      space = 10 ∷ [];
    })
unfolding add_call withdraw_call
changes_refused = (refl, refl)

-- ---- candidates

pub tries :
    (handed_looked (looked Accepted 9) ≡ record { refusal = 0; rows = 9 })
    × (handed_looked (looked Window 9) ≡ record { refusal = 6; rows = 9 })
    × (handed_tried (tried_called (looked Window 9) (1 ∷ []) (2 ∷ []) (3 ∷ []))
    ≡ record {
      reports = record { refusal = 6; rows = 9 };
      numbers = 1 ∷ [];
      counts = 2 ∷ [];
      space = 3 ∷ [];
    })
    × (tried_gave (record { refusal = 6; rows = 9 }) (1 ∷ []) (2 ∷ []) (3 ∷ [])
    ≡ record {
      reports = record { refusal = 6; rows = 9 };
      numbers = 1 ∷ [];
      counts = 2 ∷ [];
      space = 3 ∷ [];
    })
tries = (refl, refl, refl, refl)

-- a table of lists of unequal length
abbrev uneven : Table
uneven = table (setting_of Round 100 0 no_hours) (10 ∷ []) [] (0 ∷ [])

-- no row is looked at, and answers and working space are as they were
pub tries_refused :
    handed_tried (candidates_call uneven (candidates (1 ∷ []) (2 ∷ []) (0 ∷ [])) (5 ∷ []) (6 ∷ []) (7 ∷ []))
    ≡ record {
      reports = record { refusal = 1; rows = 0 };
      numbers = 5 ∷ [];
      counts = 6 ∷ [];
      space = 7 ∷ [];
    }
unfolding candidates_call
tries_refused = refl

-- ---- words of bits

-- 13 is 1 + 4 + 8: rows 0, 2 and 3 are heard, row 2 by receiver 2; a refusal has count and words of 0
pub words :
    (handed_words (label_words NotPlan 1 2 3) ≡ two_words 9 1 2 3)
    × (handed_words (words_given (Ok (record { heard = 13; receiver = 4 }))) ≡ two_words 0 3 13 4)
    × (handed_words (words_given (Err refusal.NotPlan)) ≡ two_words 9 0 0 0)
    × (handed_words (words_call (1 ∷ 0 ∷ 2 ∷ 1 ∷ [])) ≡ two_words 0 3 13 4)
    × (handed_words (words_call (1 ∷ 3 ∷ [])) ≡ two_words 9 0 0 0)
    × (handed_words (words_call (replicate 65 1)) ≡ two_words 2 0 0 0)
unfolding words_call ones
words = (refl, refl, refl, refl, refl, refl)

pub musts :
    (handed_must (must_word Window 5) ≡ record { refusal = 6; word = 5 })
    × (handed_must (must_given (Ok 5)) ≡ record { refusal = 0; word = 5 })
    × (handed_must (must_given (Err refusal.Rows)) ≡ record { refusal = 2; word = 0 })
    × (handed_must (must_call (1 ∷ 0 ∷ 3 ∷ [])) ≡ record { refusal = 0; word = 5 })
    × (handed_must (must_call (replicate 65 1)) ≡ record { refusal = 2; word = 0 })
unfolding must_call
musts = (refl, refl, refl, refl, refl)

-- at last a receiver bit of a row that is not heard: count 0, and the labels as they were
pub labels :
    (handed_labels (labels_given (answered Gap 2) (3 ∷ [])) ≡ record { answer = answer 14 2; labels = 3 ∷ [] })
    × (labels_gave (answer 1 2) (3 ∷ []) ≡ record { answer = answer 1 2; labels = 3 ∷ [] })
    × (handed_labels (labels_call 0 1 (7 ∷ 8 ∷ [])) ≡ record { answer = answer 9 0; labels = 7 ∷ 8 ∷ [] })
unfolding labels_call
labels = (refl, refl, refl)

-- at last a start without an end: the words as they were
pub clashes :
    (handed_clash (clash_given Lists (3 ∷ [])) ≡ record { refusal = 1; words = 3 ∷ [] })
    × (clash_gave 2 (3 ∷ []) ≡ record { refusal = 2; words = 3 ∷ [] })
    × (handed_clash (clash_call (windows_of (setting_of Run 100 0 no_hours) (10 ∷ []) []) (3 ∷ []))
    ≡ record { refusal = 1; words = 3 ∷ [] })
unfolding clash_call
clashes = (refl, refl, refl)

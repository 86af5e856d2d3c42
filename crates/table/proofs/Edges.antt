-- Worked examples at both sides of each limit, and of calls with two faults, each with its whole answer: what only
-- the definitions' own text would say otherwise.
use Prim.Native.Nat.{ℕ, zero, suc}
use mathlib.Core.Path.{◌≡◌, refl}
use mathlib.Core.List.{List, [], ◌∷◌}
use native.Mathlib.Omega.{arith}
use lib.ListN.{replicate}
use Rattle.basics.specs.Lists.{at}
use Rattle.window.specs.declared.Kind.{Kind}
use Rattle.window.specs.declared.Kind.TheVariants.{Round, Run}
use Rattle.window.specs.declared.Row.{Row}
use Rattle.window.specs.Rows.{row}
use Rattle.window.specs.Hours.{hours_from, no_hours}
use Rattle.refusals.specs.Refusals.{answered, Accepted, Lists, Rows, Space, Ticks, Hours, Gap, Window, Mark, NoPlan, Outcome}
use Rattle.table.specs.Tables.{setting_of, Table, table, table_of}
use Rattle.table.specs.Checks.{looked, table_looked}
use Rattle.table.specs.Planned.{answering, planned, space_after}
use Rattle.table.proofs.Plain.{NoGap, NoneAllDay, OnlyMarks01}

-- the call with these labels and so many bytes of working space is refused so, and its labels are untouched
abbrev Refused : Outcome → Table → List ℕ → ℕ → Type 0
Refused r t before space = planned t before space ≡ answering (answered r 0) before

-- the call is accepted, with this count and these labels
abbrev Plans : ℕ → List ℕ → Table → List ℕ → ℕ → Type 0
Plans count labels t before space = planned t before space ≡ answering (answered Accepted count) labels

abbrev round : ℕ → List Row → Table
round R = table_of (setting_of Round R 0 no_hours)

-- a run of 100 ticks with these hours
abbrev run : ℕ → ℕ → ℕ → ℕ → List Row → Table
run p1 q1 p2 q2 = table_of (setting_of Run 100 0 (hours_from p1 q1 p2 q2))

-- a round or a run of 100 ticks with this gap, both receivers open all the time
abbrev gapped : Kind → ℕ → List Row → Table
gapped kind g = table_of (setting_of kind 100 g (hours_from 0 100 0 100))

-- a round or a run has from 2 to 43,200 ticks
pub ticks :
    Refused Ticks (round 0 []) [] 4608
    × Refused Ticks (round 1 []) [] 4608
    × Plans 0 [] (round 2 []) [] 4608
    × Plans 0 [] (round 43200 []) [] 4608
    × Refused Ticks (round 43201 []) [] 4608
    × Refused Ticks (table_of (setting_of Run 1 0 no_hours) []) [] 4608
    × Plans 0 [] (table_of (setting_of Run 2 0 no_hours) []) [] 4608
    × Plans 0 [] (table_of (setting_of Run 43200 0 no_hours) []) [] 4608
    × Refused Ticks (table_of (setting_of Run 43201 0 no_hours) []) [] 4608
unfolding planned
ticks = (refl, refl, refl, refl, refl, refl, refl, refl, refl)

-- 64 rows come to the check of the rows, where each has mark 9, and 65 do not
pub rows :
    Refused Mark (round 100 (replicate 64 (row 1 2 9))) (replicate 64 5) 4608
    × Refused Rows (round 100 (replicate 65 (row 1 2 9))) (replicate 65 5) 4608
unfolding planned
rows = (refl, refl)

-- 4,607 bytes of working space are too few, 4,608 and more are enough
pub space :
    Refused Space (round 100 (row 1 2 0 ∷ [])) (5 ∷ []) 4607
    × Plans 1 (1 ∷ []) (round 100 (row 1 2 0 ∷ [])) (5 ∷ []) 4608
    × Plans 1 (1 ∷ []) (round 100 (row 1 2 0 ∷ [])) (5 ∷ []) 65535
unfolding planned
space = (refl, refl, refl)

-- a receiver opens no later than it closes, and closes no later than R; one that opens when it closes is closed:
-- either receiver
pub hours :
    Plans 1 (2 ∷ []) (run 50 50 0 100 (row 10 20 0 ∷ [])) (5 ∷ []) 4608
    × Plans 1 (1 ∷ []) (run 0 100 100 100 (row 10 20 0 ∷ [])) (5 ∷ []) 4608
    × Refused Hours (run 51 50 0 100 []) [] 4608
    × Refused Hours (run 0 100 51 50 []) [] 4608
    × Refused Hours (run 0 101 0 100 []) [] 4608
    × Refused Hours (run 0 100 0 101 []) [] 4608
unfolding planned
hours = (refl, refl, refl, refl, refl, refl)

-- in a round hours are not looked at: those that would be wrong in a run are taken
pub round_hours :
    Plans 1 (1 ∷ []) (table_of (setting_of Round 100 0 (hours_from 9 8 200 300)) (row 10 20 1 ∷ [])) (5 ∷ []) 4608
unfolding planned
round_hours = refl

-- a window may end at R in a run, and in a round not
pub ends :
    Plans 1 (1 ∷ []) (run 0 100 0 100 (row 90 100 0 ∷ [])) (5 ∷ []) 4608
    × Refused Window (round 100 (row 90 100 0 ∷ [])) (5 ∷ []) 4608
    × Refused Window (run 0 100 0 100 (row 90 101 0 ∷ [])) (5 ∷ []) 4608
unfolding planned
ends = (refl, refl, refl)

-- start equal to end: in a round both must be below R, and a run refuses it
pub all_day :
    Plans 1 (1 ∷ []) (round 100 (row 0 0 0 ∷ [])) (5 ∷ []) 4608
    × Plans 1 (1 ∷ []) (round 100 (row 99 99 0 ∷ [])) (5 ∷ []) 4608
    × Refused Window (round 100 (row 100 100 0 ∷ [])) (5 ∷ []) 4608
    × Refused Window (run 0 100 0 100 (row 0 0 0 ∷ [])) (5 ∷ []) 4608
    × Refused Window (run 0 100 0 100 (row 90 90 0 ∷ [])) (5 ∷ []) 4608
    × Refused Window (run 0 100 0 100 (row 100 100 0 ∷ [])) (5 ∷ []) 4608
unfolding planned
all_day = (refl, refl, refl, refl, refl, refl)

-- mark 5 is taken and 6 refused, in a round and in a run; a mark has eight bits
pub marks :
    Plans 1 (2 ∷ []) (round 100 (row 10 20 5 ∷ [])) (9 ∷ []) 4608
    × Refused Mark (round 100 (row 10 20 6 ∷ [])) (9 ∷ []) 4608
    × Refused Mark (round 100 (row 10 20 255 ∷ [])) (9 ∷ []) 4608
    × Plans 1 (2 ∷ []) (run 0 100 0 100 (row 10 20 5 ∷ [])) (9 ∷ []) 4608
    × Refused Mark (run 0 100 0 100 (row 10 20 6 ∷ [])) (9 ∷ []) 4608
unfolding planned
marks = (refl, refl, refl, refl, refl)

-- a gap of 600 is taken and 601 refused, in a round and in a run; a gap has 16 bits
pub gaps :
    Plans 1 (1 ∷ []) (gapped Round 600 (row 10 20 0 ∷ [])) (9 ∷ []) 4608
    × Refused Gap (gapped Round 601 (row 10 20 0 ∷ [])) (9 ∷ []) 4608
    × Refused Gap (gapped Round 65535 (row 10 20 0 ∷ [])) (9 ∷ []) 4608
    × Plans 1 (1 ∷ []) (gapped Run 600 (row 10 20 0 ∷ [])) (9 ∷ []) 4608
    × Refused Gap (gapped Run 601 (row 10 20 0 ∷ [])) (9 ∷ []) 4608
    × Refused Gap (gapped Round 601 []) [] 4608
unfolding planned
gaps = (refl, refl, refl, refl, refl, refl)

-- The checks are made in the order 1, 2, 3, 4, 5, 14, and then the rows from row 0 on, each for 6 and then 7: of two
-- faults the first is reported.
pub order :
    Refused Lists (table (setting_of Round 1 601 no_hours) (replicate 65 1) (replicate 64 2) (replicate 65 9)) (replicate 65 5) 0
    × Refused Rows (table_of (setting_of Round 1 601 no_hours) (replicate 65 (row 3 100 9))) (replicate 65 5) 0
    × Refused Space (table_of (setting_of Round 1 601 no_hours) (row 3 100 9 ∷ [])) (5 ∷ []) 0
    × Refused Ticks (table_of (setting_of Run 1 601 (hours_from 9 8 0 0)) (row 3 3 9 ∷ [])) (5 ∷ []) 4608
    × Refused Ticks (table_of (setting_of Round 1 601 no_hours) (row 3 3 9 ∷ [])) (5 ∷ []) 4608
    × Refused Hours (table_of (setting_of Run 100 601 (hours_from 9 8 0 0)) (row 3 3 9 ∷ [])) (5 ∷ []) 4608
    × Refused Gap (gapped Run 601 (row 3 3 9 ∷ [])) (5 ∷ []) 4608
    × Refused Gap (gapped Round 601 (row 3 100 9 ∷ [])) (5 ∷ []) 4608
    × Refused Gap (gapped Round 601 (row 3 4 9 ∷ [])) (5 ∷ []) 4608
    × Refused Gap (gapped Round 601 (row 3 4 3 ∷ row 3 4 3 ∷ [])) (5 ∷ 5 ∷ []) 4608
    × Refused Window (round 100 (row 3 100 9 ∷ [])) (5 ∷ []) 4608
    × Refused Mark (round 100 (row 3 4 9 ∷ row 3 100 0 ∷ [])) (5 ∷ 5 ∷ []) 4608
unfolding planned
order = (refl, refl, refl, refl, refl, refl, refl, refl, refl, refl, refl, refl)

-- lists of unequal length, each of them
pub lists :
    Refused Lists (table (setting_of Round 100 0 no_hours) (1 ∷ []) [] (0 ∷ [])) (5 ∷ []) 4608
    × Refused Lists (table (setting_of Round 100 0 no_hours) (1 ∷ []) (2 ∷ []) []) (5 ∷ []) 4608
    × Refused Lists (round 100 (row 1 2 0 ∷ [])) [] 4608
    × Refused Lists (round 100 (row 1 2 0 ∷ [])) (5 ∷ 5 ∷ []) 4608
unfolding planned
lists = (refl, refl, refl, refl)

-- how many rows the checks look at: k + 1 if they stop at row k, all if they pass, none before the rows
pub rows_looked_sample :
    (table_looked (round 100 (row 1 2 0 ∷ row 3 100 0 ∷ row 1 2 0 ∷ [])) ≡ looked Window 2)
    × (table_looked (round 100 (row 1 2 9 ∷ row 3 100 0 ∷ [])) ≡ looked Mark 1)
    × (table_looked (round 100 (row 1 2 0 ∷ row 3 4 1 ∷ [])) ≡ looked Accepted 2)
    × (table_looked (round 1 (row 1 2 0 ∷ [])) ≡ looked Ticks 0)
    × (table_looked (gapped Round 601 (row 1 2 0 ∷ [])) ≡ looked Gap 0)
unfolding table_looked
rows_looked_sample = (refl, refl, refl, refl, refl)

-- the working space after a call: cleared where it is accepted and by 8, else untouched
pub space_after_sample :
    (at (space_after Accepted (5 ∷ [])) 0 ≡ 0)
    × (at (space_after NoPlan (5 ∷ [])) 0 ≡ 0)
    × (space_after Mark (5 ∷ []) ≡ 5 ∷ [])
    × (space_after Space (5 ∷ []) ≡ 5 ∷ [])
    × (space_after Lists (5 ∷ []) ≡ 5 ∷ [])
    × (space_after Gap (5 ∷ []) ≡ 5 ∷ [])
unfolding space_after
space_after_sample = (refl, refl, refl, refl, refl, refl)

-- the last byte that is cleared, and the first that is not
pub space_edges :
    (at (space_after Accepted (replicate 4610 5)) 4607 ≡ 0)
    × (at (space_after Accepted (replicate 4610 5)) 4608 ≡ 5)
    × (at (space_after NoPlan (replicate 4610 5)) 4607 ≡ 0)
    × (at (space_after NoPlan (replicate 4610 5)) 4608 ≡ 5)
unfolding space_after
space_edges = (refl, refl, refl, refl)

-- ---- which tables are plain: one is in all three ways, and a gap of 1, a window that sends all day and mark 2 are not

abbrev pub plain : Table
plain = round 10 (row 8 2 1 ∷ [])

pub is_plain : NoGap plain × NoneAllDay plain × OnlyMarks01 plain
is_plain = (refl, differ, marks_01)
  where
    differ : NoneAllDay plain
    differ zero h e = absurd (omega arith)
    differ (suc i) h e = absurd (omega arith)

    marks_01 : OnlyMarks01 plain
    marks_01 zero h = omega arith
    marks_01 (suc i) h = absurd (omega arith)

pub not_plain :
    (NoGap (gapped Round 1 []) → ⊥)
    × (NoneAllDay (round 10 (row 7 7 0 ∷ [])) → ⊥)
    × (OnlyMarks01 (round 10 (row 1 2 2 ∷ [])) → ⊥)
not_plain = (λ e. omega (arith, e), λ f. f 0 (omega arith) refl, λ f. omega (arith, f 0 (omega arith)))

-- Worked examples: calls of the planner, and the whole answer to each. First twelve of rounds and runs, P1 to P12,
-- then others of marks, of beacons that send all day and of gaps.
use Prim.Native.Nat.{ℕ, ◌-◌}
use mathlib.Core.Path.{◌≡◌, refl}
use mathlib.Core.List.{List, [], ◌∷◌, map}
use Rattle.window.specs.declared.Kind.{Kind}
use Rattle.window.specs.declared.Kind.TheVariants.{Round, Run}
use Rattle.window.specs.declared.Row.{Row}
use Rattle.window.specs.Rows.{row}
use Rattle.window.specs.Hours.{hours_from, no_hours}
use Rattle.refusals.specs.Refusals.{answered, Accepted, Ticks, Hours, Gap, Window, Mark, NoPlan, Outcome}
use Rattle.table.specs.Tables.{setting_of, Table, table_of}
use Rattle.table.specs.Planned.{Planned, answering, planned}

-- a call: the table, the labels before it, and what it gives
pub record Case : Type 0 where
  pub lent : Table
  pub before : List ℕ
  pub gives : Planned

-- in the label list stand nines before the call
nines : List Row → List ℕ
nines rows = map (λ r. 9) rows

on : Kind → ℕ → ℕ → List (List ℕ) → List Row → Planned → Case
on kind R g hours rows gives =
    record {
      lent = table_of (setting_of kind R g hours) rows;
      before = nines rows;
      gives = gives;
    }

round : ℕ → List Row → Planned → Case
round R = on Round R 0 no_hours

run : ℕ → List (List ℕ) → List Row → Planned → Case
run R = on Run R 0

-- a round of 20 ticks with this gap
round_20 : ℕ → List Row → Planned → Case
round_20 g = on Round 20 g no_hours

-- a run of 100 ticks with this gap, both receivers open all the time
run_100 : ℕ → List Row → Planned → Case
run_100 g = on Run 100 g (hours_from 0 100 0 100)

plan : ℕ → List ℕ → Planned
plan count labels = answering (answered Accepted count) labels

refused : Outcome → List Row → Planned
refused r rows = answering (answered r 0) (nines rows)

p2 : ℕ → ℕ → ℕ → List Row
p2 a b c = row 10 30 a ∷ row 20 40 b ∷ row 25 50 c ∷ row 90 10 0 ∷ []

p5 : ℕ → List Row
p5 m = row 0 4 m ∷ row 3 8 m ∷ row 7 1 m ∷ []

p9_hours : List (List ℕ)
p9_hours = hours_from 0 50 40 100

p9 : ℕ → List Row
p9 m = row 45 60 0 ∷ row 50 60 m ∷ row 0 50 0 ∷ []

-- the first row has no mark that there is, the second sends all day
p12 : List Row
p12 = row 1 2 9 ∷ row 3 3 0 ∷ []

-- the middle row overlaps both others, which do not overlap
middle : ℕ → ℕ → ℕ → List Row
middle a b c = row 0 2 a ∷ row 1 4 b ∷ row 3 6 c ∷ []

-- the last row overlaps both others, which do not overlap
last : ℕ → ℕ → ℕ → List Row
last a b c = row 0 2 a ∷ row 4 6 b ∷ row 1 5 c ∷ []

-- three equal windows
equal : ℕ → ℕ → ℕ → List Row
equal a b c = row 4 5 a ∷ row 4 5 b ∷ row 4 5 c ∷ []

-- receiver 1 is closed
closed_1 : List (List ℕ)
closed_1 = hours_from 0 0 0 100

alone : ℕ → List Row
alone m = row 10 20 m ∷ []

-- a beacon that sends all day, and two rows that do not overlap
all_day : ℕ → ℕ → ℕ → List Row
all_day a b c = row 7 7 a ∷ row 0 2 b ∷ row 4 6 c ∷ []

-- a beacon that sends all day, and two rows for each receiver
pairs : ℕ → List Row
pairs m = row 7 7 m ∷ row 0 2 0 ∷ row 0 2 0 ∷ row 4 6 0 ∷ row 4 6 0 ∷ []

-- two beacons that send all day, and a row of one tick
two : ℕ → ℕ → ℕ → List Row
two a b c = row 7 7 a ∷ row 3 3 b ∷ row 0 1 c ∷ []

-- a beacon that sends all day and a row of one tick, which only receiver 1 can hear; the first must be heard
on_1 : ℕ → ℕ → List Row
on_1 start end = row 7 7 3 ∷ row start end 2 ∷ []

-- the second window starts where the first ends
touching : ℕ → ℕ → List Row
touching a b = row 2 8 a ∷ row 8 14 b ∷ []

-- 3 ticks lie between the end of the first and the start of the second, and so many between the end of the second and
-- the start of the first
sides : ℕ → List Row
sides n = row 0 5 0 ∷ row 8 (20 - n) 0 ∷ []

-- three rows of one tick, in a round of 20 with 6, 6 and 5 ticks between them
far : ℕ → List Row
far m = row 0 1 m ∷ row 7 8 m ∷ row 14 15 m ∷ []

-- from the first tick of a run to the last; in a round they would be 0 ticks apart
both_ends : List Row
both_ends = row 0 10 0 ∷ row 90 100 0 ∷ []

-- P1 to P12, and then marks 2 to 5: 2 may and 3 must be heard by receiver 1 alone, 4 may and 5 must by receiver 2 alone
pub cases : List Case
cases =
    round 100 [] (plan 0 [])
    ∷ round 100 (p2 0 0 0) (plan 3 (1 ∷ 2 ∷ 0 ∷ 1 ∷ []))
    ∷ round 100 (p2 0 0 1) (plan 3 (1 ∷ 0 ∷ 2 ∷ 1 ∷ []))
    ∷ round 100 (p2 1 1 1) (refused NoPlan (p2 1 1 1))
    ∷ round 10 (p5 0) (plan 2 (1 ∷ 2 ∷ 0 ∷ []))
    ∷ round 10 (p5 1) (refused NoPlan (p5 1))
    ∷ round 10 (row 8 2 0 ∷ row 2 8 0 ∷ []) (plan 2 (1 ∷ 1 ∷ []))
    ∷ round 10 (row 4 5 0 ∷ row 4 5 0 ∷ row 4 5 0 ∷ []) (plan 2 (1 ∷ 2 ∷ 0 ∷ []))
    ∷ run 100 p9_hours (p9 0) (plan 2 (2 ∷ 0 ∷ 1 ∷ []))
    ∷ run 100 p9_hours (p9 1) (plan 2 (0 ∷ 2 ∷ 1 ∷ []))
    ∷ round 2 (row 0 1 0 ∷ row 1 0 0 ∷ []) (plan 2 (1 ∷ 1 ∷ []))
    ∷ round 10 p12 (refused Mark p12)
    -- mark 2 on row 1 changes the labels and not the count; so do mark 4 on row 0, and a must on receiver 2 that
    -- moves other rows
    ∷ round 10 (middle 0 0 0) (plan 3 (1 ∷ 2 ∷ 1 ∷ []))
    ∷ round 10 (middle 0 2 0) (plan 3 (2 ∷ 1 ∷ 2 ∷ []))
    ∷ round 10 (middle 4 0 0) (plan 3 (2 ∷ 1 ∷ 2 ∷ []))
    ∷ round 10 (middle 0 0 5) (plan 3 (2 ∷ 1 ∷ 2 ∷ []))
    -- a row that may be heard on one receiver only is left out for one that must; of two such rows the first is heard
    ∷ round 10 (middle 0 2 3) (plan 2 (1 ∷ 0 ∷ 1 ∷ []))
    ∷ round 10 (middle 2 2 0) (plan 2 (1 ∷ 0 ∷ 1 ∷ []))
    -- marks 3 and 5 leave no plan where 1 and 1 do, by a third must row that overlaps both
    ∷ round 10 (last 1 1 1) (plan 3 (1 ∷ 1 ∷ 2 ∷ []))
    ∷ round 10 (last 3 5 1) (refused NoPlan (last 3 5 1))
    -- equal windows, a must on each receiver, and two on one
    ∷ round 10 (equal 0 5 3) (plan 2 (0 ∷ 2 ∷ 1 ∷ []))
    ∷ round 10 (equal 0 4 4) (plan 2 (1 ∷ 2 ∷ 0 ∷ []))
    ∷ round 10 (equal 3 0 3) (refused NoPlan (equal 3 0 3))
    -- in a run whose receiver 1 is closed
    ∷ run 100 closed_1 (alone 0) (plan 1 (2 ∷ []))
    ∷ run 100 closed_1 (alone 2) (plan 0 (0 ∷ []))
    ∷ run 100 closed_1 (alone 3) (refused NoPlan (alone 3))
    ∷ run 100 closed_1 (alone 4) (plan 1 (2 ∷ []))
    ∷ run 100 closed_1 (alone 5) (plan 1 (2 ∷ []))
    -- mark 6 is refused
    ∷ round 10 (equal 2 4 6) (refused Mark (equal 2 4 6))
    -- beacons that send all day: three of them alone have the labels 1, 2 and 0, wherever they start
    ∷ round 100 (row 0 0 0 ∷ row 0 0 0 ∷ row 0 0 0 ∷ []) (plan 2 (1 ∷ 2 ∷ 0 ∷ []))
    ∷ round 100 (row 70 70 0 ∷ row 0 0 0 ∷ row 99 99 0 ∷ []) (plan 2 (1 ∷ 2 ∷ 0 ∷ []))
    -- one of them has a receiver to itself; it is left out where it would cost two rows, unless it must be heard
    ∷ round 10 (all_day 1 0 0) (plan 3 (1 ∷ 2 ∷ 2 ∷ []))
    ∷ round 10 (all_day 5 0 0) (plan 3 (2 ∷ 1 ∷ 1 ∷ []))
    ∷ round 10 (all_day 1 3 5) (refused NoPlan (all_day 1 3 5))
    ∷ round 10 (pairs 0) (plan 4 (0 ∷ 1 ∷ 2 ∷ 1 ∷ 2 ∷ []))
    ∷ round 10 (pairs 1) (plan 3 (1 ∷ 2 ∷ 0 ∷ 2 ∷ 0 ∷ []))
    -- two of them that must be heard leave no receiver to any other row
    ∷ round 10 (two 1 1 0) (plan 2 (1 ∷ 2 ∷ 0 ∷ []))
    ∷ round 10 (two 1 1 1) (refused NoPlan (two 1 1 1))
    ∷ round 10 (two 3 3 0) (refused NoPlan (two 3 3 0))
    -- such a beacon covers every tick: its own start, the tick before its end, and tick 0
    ∷ round 10 (on_1 7 8) (plan 1 (1 ∷ 0 ∷ []))
    ∷ round 10 (on_1 6 7) (plan 1 (1 ∷ 0 ∷ []))
    ∷ round 10 (on_1 0 1) (plan 1 (1 ∷ 0 ∷ []))
    -- the shortest round
    ∷ round 2 (row 1 1 0 ∷ row 0 1 0 ∷ row 1 0 0 ∷ []) (plan 3 (1 ∷ 2 ∷ 2 ∷ []))
    -- its start must be below R, and a run refuses it
    ∷ round 10 (row 10 10 0 ∷ []) (refused Window (row 10 10 0 ∷ []))
    ∷ run 100 p9_hours (row 45 45 0 ∷ []) (refused Window (row 45 45 0 ∷ []))
    -- gaps: windows that touch have 0 ticks between them; a gap of 1 forbids it on one receiver, and between the
    -- receivers nothing is owed
    ∷ round_20 0 (touching 0 0) (plan 2 (1 ∷ 1 ∷ []))
    ∷ round_20 1 (touching 0 0) (plan 2 (1 ∷ 2 ∷ []))
    ∷ run_100 0 (touching 0 0) (plan 2 (1 ∷ 1 ∷ []))
    ∷ run_100 1 (touching 0 0) (plan 2 (1 ∷ 2 ∷ []))
    -- labels that break the gap are no plan: both must be on receiver 1, and the call is refused 8
    ∷ round_20 0 (touching 3 3) (plan 2 (1 ∷ 1 ∷ []))
    ∷ round_20 1 (touching 3 3) (refused NoPlan (touching 3 3))
    -- in a round the gap is counted round the circle, and is owed on both sides: exactly g on both, g − 1 on one,
    -- either way round
    ∷ round_20 3 (sides 3) (plan 2 (1 ∷ 1 ∷ []))
    ∷ round_20 3 (sides 2) (plan 2 (1 ∷ 2 ∷ []))
    ∷ round_20 4 (sides 4) (plan 2 (1 ∷ 2 ∷ []))
    ∷ round_20 3 (row 8 18 0 ∷ row 0 5 0 ∷ []) (plan 2 (1 ∷ 2 ∷ []))
    ∷ round_20 3 (row 18 5 0 ∷ row 8 15 0 ∷ []) (plan 2 (1 ∷ 1 ∷ []))
    ∷ round_20 3 (row 18 5 0 ∷ row 8 16 0 ∷ []) (plan 2 (1 ∷ 2 ∷ []))
    -- a gap that all three keep, that two of them keep and that none keeps; a gap of R and more
    ∷ round_20 5 (far 0) (plan 3 (1 ∷ 1 ∷ 1 ∷ []))
    ∷ round_20 6 (far 0) (plan 3 (1 ∷ 1 ∷ 2 ∷ []))
    ∷ round_20 7 (far 0) (plan 2 (1 ∷ 2 ∷ 0 ∷ []))
    ∷ round_20 20 (far 0) (plan 2 (1 ∷ 2 ∷ 0 ∷ []))
    ∷ round_20 600 (far 0) (plan 2 (1 ∷ 2 ∷ 0 ∷ []))
    ∷ round_20 600 (far 1) (refused NoPlan (far 1))
    -- a run does not come back: nothing is owed from its last window to its first, to tick 0, to R or to the hours
    ∷ run_100 80 both_ends (plan 2 (1 ∷ 1 ∷ []))
    ∷ run_100 81 both_ends (plan 2 (1 ∷ 2 ∷ []))
    ∷ run_100 600 (row 0 100 1 ∷ []) (plan 1 (1 ∷ []))
    ∷ on Run 100 20 p9_hours (row 0 50 0 ∷ row 40 100 0 ∷ []) (plan 2 (1 ∷ 2 ∷ []))
    -- a window is never too close to itself: one alone with fewer than g ticks from its end to its start; equal
    -- windows of two rows are two windows
    ∷ round_20 5 (row 3 19 1 ∷ []) (plan 1 (1 ∷ []))
    ∷ round_20 600 (row 3 2 1 ∷ []) (plan 1 (1 ∷ []))
    ∷ round_20 600 (row 7 7 1 ∷ []) (plan 1 (1 ∷ []))
    ∷ round_20 1 (row 4 5 0 ∷ row 4 5 0 ∷ row 4 5 0 ∷ []) (plan 2 (1 ∷ 2 ∷ 0 ∷ []))
    -- a gap of 601 is refused 14, after 4 and 5 and before the rows
    ∷ round_20 601 (far 0) (refused Gap (far 0))
    ∷ run_100 601 both_ends (refused Gap both_ends)
    ∷ on Run 100 601 (hours_from 9 8 0 100) both_ends (refused Hours both_ends)
    ∷ on Round 1 601 no_hours (far 0) (refused Ticks (far 0))
    ∷ round_20 601 p12 (refused Gap p12)
    ∷ []

-- each call gives what stands in the table, with 4,608 bytes of working space
abbrev pub Holds : List Case → Type 0
Holds [] = Unit {0}
Holds (c ∷ cs) = (planned c.lent c.before 4608 ≡ c.gives) × Holds cs

pub bench : Holds cases
unfolding planned cases on round run plan refused nines p2 p5 p9_hours p9 p12 middle last equal closed_1 alone all_day pairs two on_1 round_20 run_100 touching sides far both_ends
bench = (refl, (refl, (refl, (refl, (refl, (refl, (refl, (refl, (refl, (refl, (refl, (refl, (refl, (refl, (refl, (refl, (refl, (refl, (refl, (refl, (refl, (refl, (refl, (refl, (refl, (refl, (refl, (refl, (refl, (refl, (refl, (refl, (refl, (refl, (refl, (refl, (refl, (refl, (refl, (refl, (refl, (refl, (refl, (refl, (refl, (refl, (refl, (refl, (refl, (refl, (refl, (refl, (refl, (refl, (refl, (refl, (refl, (refl, (refl, (refl, (refl, (refl, (refl, (refl, (refl, (refl, (refl, (refl, (refl, (refl, (refl, (refl, (refl, (refl, (refl, (refl, tt))))))))))))))))))))))))))))))))))))))))))))))))))))))))))))))))))))))))))))

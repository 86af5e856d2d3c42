-- Worked examples of held tables: calls, and for each the answer and what is then held, every place of every list.
-- And the edges: each refusal, two faults at once, and tables that no call leaves.
use Prim.Native.Nat.{ℕ, ◌-◌}
use mathlib.Core.Path.{◌≡◌, refl}
use mathlib.Core.List.{List, [], ◌∷◌, ◌++◌}
use lib.ListN.{length, replicate}
use Rattle.basics.specs.Lists.{without}
use Rattle.window.specs.Rows.{row}
use Rattle.refusals.specs.Refusals.{answered, Accepted, Lists, Rows, Space, Ticks, Gap, Window, Mark, NoPlan, NoRow, Outcome}
use Rattle.held_table.specs.Held.{HeldTable, numbers_of, kept, held_table, empty, begun, Change, change, added, withdrawn}
use Rattle.held_table.specs.Came.{HasPlaces, Came, from_begin, from_add, from_withdraw, add_refusal, withdraw_refusal}

-- 64 places that begin so
abbrev places : List ℕ → ℕ → List ℕ
places l fill = l ++ replicate (64 - length l) fill

-- n rows of a round of R ticks with the gap g, of which the plan hears `count`, in lists that begin so and then hold
-- what no call has stored
abbrev held : ℕ → ℕ → ℕ → ℕ → List ℕ → List ℕ → List ℕ → List ℕ → HeldTable
held R g n count starts ends marks labels = kept (numbers_of R g n count) (places starts 7777) (places ends 8888) (places marks 77) (places labels 9)

abbrev h0 : HeldTable
h0 = held 100 0 0 0 [] [] [] []

abbrev h1 : HeldTable
h1 = held 100 0 1 1 (10 ∷ []) (30 ∷ []) (0 ∷ []) (1 ∷ [])

abbrev h2 : HeldTable
h2 = held 100 0 2 2 (10 ∷ 20 ∷ []) (30 ∷ 40 ∷ []) (0 ∷ 0 ∷ []) (1 ∷ 2 ∷ [])

abbrev h3 : HeldTable
h3 = held 100 0 3 2 (10 ∷ 20 ∷ 25 ∷ []) (30 ∷ 40 ∷ 50 ∷ []) (0 ∷ 0 ∷ 1 ∷ []) (1 ∷ 0 ∷ 2 ∷ [])

abbrev h4 : HeldTable
h4 = held 100 0 4 3 (10 ∷ 20 ∷ 25 ∷ 90 ∷ []) (30 ∷ 40 ∷ 50 ∷ 10 ∷ []) (0 ∷ 0 ∷ 1 ∷ 0 ∷ []) (1 ∷ 0 ∷ 2 ∷ 1 ∷ [])

-- two rows that must be heard and overlap
abbrev musts : HeldTable
musts = held 100 0 2 2 (10 ∷ 20 ∷ []) (30 ∷ 40 ∷ []) (1 ∷ 1 ∷ []) (1 ∷ 2 ∷ [])

-- accepted, with the plan's count, and then held
abbrev pub Plans : ℕ → HeldTable → Change → Type 0
Plans count h c = c ≡ change (answered Accepted count) h

-- refused, and what was held is held
abbrev pub Refused : Outcome → HeldTable → Change → Type 0
Refused r h c = c ≡ change (answered r 0) h

-- rows are added at the end, and the labels of other rows may change
pub adds :
    Plans 1 h1 (added h0 (row 10 30 0) 4608)
    × Plans 2 h2 (added h1 (row 20 40 0) 4608)
    × Plans 2 h3 (added h2 (row 25 50 1) 4608)
    × Plans 3 h4 (added h3 (row 90 10 0) 4608)
unfolding added
adds = (refl, refl, refl, refl)

-- a row is withdrawn by number and later rows move up one; the place that falls free holds what it held
pub withdraws :
    Plans 3 (held 100 0 3 3 (20 ∷ 25 ∷ 90 ∷ 90 ∷ []) (40 ∷ 50 ∷ 10 ∷ 10 ∷ []) (0 ∷ 1 ∷ 0 ∷ 0 ∷ []) (1 ∷ 2 ∷ 1 ∷ 1 ∷ [])) (withdrawn h4 0 4608)
    × Plans 3 (held 100 0 3 3 (10 ∷ 20 ∷ 90 ∷ 90 ∷ []) (30 ∷ 40 ∷ 10 ∷ 10 ∷ []) (0 ∷ 0 ∷ 0 ∷ 0 ∷ []) (1 ∷ 2 ∷ 1 ∷ 1 ∷ [])) (withdrawn h4 2 4608)
    × Plans 2 (held 100 0 3 2 (10 ∷ 20 ∷ 25 ∷ 90 ∷ []) (30 ∷ 40 ∷ 50 ∷ 10 ∷ []) (0 ∷ 0 ∷ 1 ∷ 0 ∷ []) (1 ∷ 0 ∷ 2 ∷ 1 ∷ [])) (withdrawn h4 3 4608)
    × Plans 0 (held 100 0 0 0 (10 ∷ []) (30 ∷ []) (0 ∷ []) (1 ∷ [])) (withdrawn h1 0 4608)
unfolding withdrawn without
withdraws = (refl, refl, refl, refl)

-- an addition that meets 3, 6, 7 or 8 changes neither table nor plan: each, and the first of two
pub add_refusals :
    Refused Space h4 (added h4 (row 60 70 0) 4607)
    × Refused Space h4 (added h4 (row 100 5 9) 4607)
    × Refused Window h4 (added h4 (row 100 5 0) 4608)
    × Refused Window h4 (added h4 (row 5 100 9) 4608)
    × Refused Mark h4 (added h4 (row 60 70 6) 4608)
    × Refused Mark musts (added musts (row 25 30 6) 4608)
    × Refused NoPlan musts (added musts (row 25 30 1) 4608)
    × Plans 2 (held 100 0 3 2 (10 ∷ 20 ∷ 25 ∷ []) (30 ∷ 40 ∷ 30 ∷ []) (1 ∷ 1 ∷ 4 ∷ []) (1 ∷ 2 ∷ 0 ∷ [])) (added musts (row 25 30 4) 4608)
unfolding added
add_refusals = (refl, refl, refl, refl, refl, refl, refl, refl)

-- 15 for a row that is not held, which is looked at after 3
pub withdraw_refusals :
    Refused NoRow h4 (withdrawn h4 4 4608)
    × Refused NoRow h0 (withdrawn h0 0 4608)
    × Refused Space h4 (withdrawn h4 4 4607)
    × Refused Space h4 (withdrawn h4 3 4607)
unfolding withdrawn without
withdraw_refusals = (refl, refl, refl, refl)

-- begun empty; a refused begin is looked at for 4 and then 14, and stands for an empty table of R 2 and g 0
pub begins :
    (begun 2 0 ≡ empty Accepted 2 0)
    × (begun 43200 600 ≡ empty Accepted 43200 600)
    × (begun 1 0 ≡ empty Ticks 2 0)
    × (begun 43201 600 ≡ empty Ticks 2 0)
    × (begun 100 601 ≡ empty Gap 2 0)
    × (begun 1 601 ≡ empty Ticks 2 0)
unfolding begun
begins = (refl, refl, refl, refl, refl, refl)

-- g is kept: the same row fits beside the other or not
pub gaps :
    Plans 2 (held 20 3 2 2 (0 ∷ 8 ∷ []) (5 ∷ 17 ∷ []) (0 ∷ 0 ∷ []) (1 ∷ 1 ∷ [])) (added (held 20 3 1 1 (0 ∷ []) (5 ∷ []) (0 ∷ []) (1 ∷ [])) (row 8 17 0) 4608)
    × Plans 2 (held 20 4 2 2 (0 ∷ 8 ∷ []) (5 ∷ 17 ∷ []) (0 ∷ 0 ∷ []) (1 ∷ 2 ∷ [])) (added (held 20 4 1 1 (0 ∷ []) (5 ∷ []) (0 ∷ []) (1 ∷ [])) (row 8 17 0) 4608)
unfolding added
gaps = (refl, refl)

-- ---- held tables that came from these calls

begun_places : (R g : ℕ) → HasPlaces (kept (begun R g).numbers (places [] 7777) (places [] 8888) (places [] 77) (places [] 9))
begun_places R g = record { rows_64 = record { starts_64 = refl; ends_64 = refl; marks_64 = refl }; labels_64 = refl }

-- a begin; four additions; a refused one and a withdrawal after them; and an addition after a begin that is refused
pub came :
    Came h0
    × Came h4
    × Came (held 100 0 3 2 (10 ∷ 20 ∷ 25 ∷ 90 ∷ []) (30 ∷ 40 ∷ 50 ∷ 10 ∷ []) (0 ∷ 0 ∷ 1 ∷ 0 ∷ []) (1 ∷ 0 ∷ 2 ∷ 1 ∷ []))
    × Came (held 2 0 1 1 (0 ∷ []) (1 ∷ []) (0 ∷ []) (1 ∷ []))
unfolding begun added withdrawn without
came = (
  from_0,
  from_4,
  from_withdraw (from_add from_4 (row 60 70 0) 4607) 3 4608,
  from_add (from_begin 1 601 (begun_places 1 601)) (row 0 1 0) 4608,
)
  where
    from_0 : Came h0
    from_0 = from_begin 100 0 (begun_places 100 0)

    from_4 : Came h4
    from_4 = from_add (from_add (from_add (from_add from_0 (row 10 30 0) 4608) (row 20 40 0) 4608) (row 25 50 1) 4608) (row 90 10 0) 4608

-- ---- lists of other than 64 places: 1, before anything else

-- h4 with lists of so many places
abbrev of_places : ℕ → ℕ → ℕ → ℕ → HeldTable
of_places s e m l = kept (numbers_of 100 0 4 3) (replicate s 1) (replicate e 2) (replicate m 0) (replicate l 1)

pub lists :
    Refused Lists (of_places 63 64 64 64) (added (of_places 63 64 64 64) (row 100 5 9) 4607)
    × Refused Lists (of_places 64 65 64 64) (added (of_places 64 65 64 64) (row 100 5 9) 4607)
    × Refused Lists (of_places 64 64 63 64) (added (of_places 64 64 63 64) (row 100 5 9) 4607)
    × Refused Lists (of_places 64 64 64 65) (added (of_places 64 64 64 65) (row 100 5 9) 4607)
    × Refused Lists (of_places 65 64 64 64) (withdrawn (of_places 65 64 64 64) 9 4607)
    × Refused Lists (of_places 64 63 64 64) (withdrawn (of_places 64 63 64 64) 9 4607)
    × Refused Lists (of_places 64 64 65 64) (withdrawn (of_places 64 64 65 64) 9 4607)
    × Refused Lists (of_places 64 64 64 63) (withdrawn (of_places 64 64 64 63) 9 4607)
    × Refused Space (of_places 64 64 64 64) (withdrawn (of_places 64 64 64 64) 9 4607)
unfolding added withdrawn without
lists = (refl, refl, refl, refl, refl, refl, refl, refl, refl)

-- ---- tables that no call leaves get the planner's number

-- so many rows, each of mark 9
abbrev nines : ℕ → HeldTable
nines n = kept (numbers_of 100 0 n 0) (replicate 64 1) (replicate 64 2) (replicate 64 9) (replicate 64 0)

-- 63, 64 and 65 rows: the 64th place is free, and there is no 65th
pub rows :
    Refused Mark (nines 63) (added (nines 63) (row 1 2 0) 4608)
    × Refused Rows (nines 64) (added (nines 64) (row 1 2 0) 4607)
    × Refused Rows (nines 65) (added (nines 65) (row 1 2 0) 4608)
    × Refused Mark (nines 64) (withdrawn (nines 64) 63 4608)
    × Refused NoRow (nines 64) (withdrawn (nines 64) 64 4608)
    × Refused Rows (nines 65) (withdrawn (nines 65) 64 4608)
    × Refused NoRow (nines 65) (withdrawn (nines 65) 65 4608)
unfolding added withdrawn without
rows = (refl, refl, refl, refl, refl, refl, refl)

-- the orders that are promised of tables that came from the calls: of two faults and more the first, each alone, and none
pub orders :
    (add_refusal (held_table (nines 64)) (row 100 5 9) 4607 ≡ Rows)
    × (add_refusal (held_table h4) (row 100 5 9) 4607 ≡ Space)
    × (add_refusal (held_table h4) (row 100 5 9) 4608 ≡ Window)
    × (add_refusal (held_table musts) (row 25 30 6) 4608 ≡ Mark)
    × (add_refusal (held_table musts) (row 25 30 1) 4608 ≡ NoPlan)
    × (add_refusal (held_table h4) (row 60 70 0) 4608 ≡ Accepted)
    × (withdraw_refusal (held_table h4) 4 4607 ≡ Space)
    × (withdraw_refusal (held_table h4) 4 4608 ≡ NoRow)
    × (withdraw_refusal (held_table h4) 3 4608 ≡ Accepted)
unfolding add_refusal withdraw_refusal
orders = (refl, refl, refl, refl, refl, refl, refl, refl, refl)

-- two rows in a round that is not one; three rows that clash and must be heard, and one that does not
abbrev bad : ℕ → ℕ → HeldTable
bad R g = held R g 2 2 (10 ∷ 20 ∷ []) (30 ∷ 40 ∷ []) (0 ∷ 0 ∷ []) (1 ∷ 2 ∷ [])

abbrev clash : HeldTable
clash = held 100 0 4 0 (10 ∷ 11 ∷ 12 ∷ 50 ∷ []) (20 ∷ 20 ∷ 20 ∷ 60 ∷ []) (1 ∷ 1 ∷ 1 ∷ 0 ∷ []) (0 ∷ 0 ∷ 0 ∷ 0 ∷ [])

pub damaged :
    Refused Ticks (bad 1 601) (added (bad 1 601) (row 0 1 0) 4608)
    × Refused Gap (bad 100 601) (added (bad 100 601) (row 0 1 0) 4608)
    × Refused Window (bad 35 0) (added (bad 35 0) (row 0 1 9) 4608)
    × Refused Gap (bad 100 601) (withdrawn (bad 100 601) 0 4608)
    × Refused Window (bad 35 0) (withdrawn (bad 35 0) 0 4608)
    × Refused NoPlan clash (withdrawn clash 3 4608)
    × Plans 3 (held 100 0 3 3 (10 ∷ 12 ∷ 50 ∷ 50 ∷ []) (20 ∷ 20 ∷ 60 ∷ 60 ∷ []) (1 ∷ 1 ∷ 0 ∷ 0 ∷ []) (1 ∷ 2 ∷ 1 ∷ 0 ∷ [])) (withdrawn clash 1 4608)
unfolding added withdrawn without
damaged = (refl, refl, refl, refl, refl, refl, refl)

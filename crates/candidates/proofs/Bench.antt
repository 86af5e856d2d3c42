-- Worked examples of candidates: what each candidate is answered, and which rows a call looks at. And the edges:
-- each refusal of a call with the rows looked at, and of two faults the one that is reported.
use Rattle.refusals.specs.Refusals.{Accepted, Lists, Rows, Space, Ticks, Hours, Window, Mark, NoPlan, Gap, Candidates, Outcome}
use Prim.Native.Nat.{ℕ}
use mathlib.Core.Path.{◌≡◌, refl}
use mathlib.Core.List.{List, [], ◌∷◌}
use lib.ListN.{replicate}
use Rattle.basics.specs.Lists.{list_of}
use Rattle.window.specs.declared.Kind.TheVariants.{Round, Run}
use Rattle.window.specs.declared.Row.{Row}
use Rattle.window.specs.Rows.{row, starts_of, ends_of, marks_of}
use Rattle.window.specs.Hours.{hours_from, no_hours}
use Rattle.table.specs.Tables.{Table, rows, setting_of, table, table_of}
use Rattle.table.specs.Checks.{looked, row_check}
use Rattle.candidates.specs.Tried.{tried, CandidateLists, candidates, numbers_tried, counts_tried, TableRow, Candidate, Seen, saw, ends_in, visit_rows, candidates_visit, visit, report}
use Rattle.candidates.proofs.Trying.{answer}

-- a round of R ticks with the gap g
abbrev round : ℕ → ℕ → List Row → Table
round R g = table_of (setting_of Round R g no_hours)

-- rows 0, 1 and 2 overlap one another; their marks
abbrev three_deep : ℕ → ℕ → ℕ → Table
three_deep a b c = round 100 0 (row 10 30 a ∷ row 20 40 b ∷ row 25 50 c ∷ row 90 10 0 ∷ [])

-- a run in which the receivers are open at different hours
abbrev hours_apart : Table
hours_apart = table_of (setting_of Run 100 0 (hours_from 0 50 40 100)) (row 45 60 0 ∷ row 50 60 0 ∷ row 0 50 0 ∷ [])

-- two rows for each receiver, which all are heard
abbrev four : Table
four = round 10 0 (row 0 2 0 ∷ row 0 2 0 ∷ row 4 6 0 ∷ row 4 6 0 ∷ [])

-- one row, with this mark
abbrev one : ℕ → ℕ → Table
one g mark = round 20 g (row 2 8 mark ∷ [])

-- a candidate is answered so
abbrev pub Gives : Table → Row → ℕ → ℕ → Type 0
Gives t candidate number count = tried t candidate ≡ answer number count

-- the candidate is heard and, where it costs nothing, one row more is; without it three rows of `three_deep` are heard
pub fitting :
    Gives (three_deep 0 0 0) (row 60 70 0) 0 4
    × Gives (three_deep 0 0 0) (row 12 28 0) 0 3
    × Gives (three_deep 0 0 0) (row 7 7 0) 0 3
    × Gives (round 100 0 []) (row 90 10 0) 0 1
    × Gives (round 100 0 []) (row 7 7 1) 0 1
    × Gives hours_apart (row 50 60 0) 0 2
    × Gives hours_apart (row 60 99 0) 0 3
unfolding tried
fitting = (refl, refl, refl, refl, refl, refl, refl)

-- the candidate is heard though fewer rows are then; as a row that may be heard it would leave the count at 4
pub must_be_heard :
    Gives four (row 1 5 0) 0 3
    × Gives four (row 1 5 1) 0 3
    × Gives four (row 7 7 0) 0 3
    × Gives four (row 6 0 0) 0 5
unfolding tried
must_be_heard = (refl, refl, refl, refl)

-- a mark that asks for a receiver still does: the candidate is heard by receiver 2, or by receiver 1, or not at all
pub receiver_stays :
    Gives (one 0 5) (row 5 9 4) 8 0
    × Gives (one 0 5) (row 5 9 5) 8 0
    × Gives (one 0 5) (row 5 9 0) 0 2
    × Gives (one 0 5) (row 5 9 1) 0 2
    × Gives (one 0 5) (row 5 9 2) 0 2
    × Gives (one 0 3) (row 5 9 2) 8 0
    × Gives (one 0 3) (row 5 9 3) 8 0
    × Gives (one 0 3) (row 5 9 4) 0 2
    × Gives (one 0 2) (row 5 9 2) 0 1
    × Gives (one 0 2) (row 8 14 2) 0 2
    × Gives (one 1 2) (row 8 14 2) 0 1
unfolding tried
receiver_stays = (refl, refl, refl, refl, refl, refl, refl, refl, refl, refl, refl)

-- a candidate that fails 6 or 7 is answered that number, one that cannot be placed 8, both with the count 0; a mark
-- above 5 is not raised first
pub not_fitting :
    Gives (three_deep 0 0 0) (row 100 5 0) 6 0
    × Gives (three_deep 0 0 0) (row 5 100 9) 6 0
    × Gives (three_deep 0 0 0) (row 60 70 6) 7 0
    × Gives (three_deep 1 1 0) (row 25 30 6) 7 0
    × Gives (three_deep 1 1 0) (row 25 30 0) 8 0
    × Gives (three_deep 1 1 0) (row 40 45 0) 0 4
    × Gives hours_apart (row 0 60 0) 8 0
    × Gives hours_apart (row 7 7 0) 6 0
    × Gives hours_apart (row 60 101 0) 6 0
    × Gives hours_apart (row 60 100 0) 0 3
unfolding tried
not_fitting = (refl, refl, refl, refl, refl, refl, refl, refl, refl, refl)

-- candidates in three lists
abbrev of : List Row → CandidateLists
of rows = candidates (starts_of rows) (ends_of rows) (marks_of rows)

abbrev some : CandidateLists
some = of (row 60 70 0 ∷ row 100 5 0 ∷ row 12 28 0 ∷ row 60 70 6 ∷ row 60 70 0 ∷ [])

-- each alone: the same window twice is answered alike, and no answer is that of another candidate
pub each_alone : (numbers_tried (three_deep 0 0 0) some ≡ 0 ∷ 6 ∷ 0 ∷ 7 ∷ 0 ∷ []) × (counts_tried (three_deep 0 0 0) some ≡ 4 ∷ 0 ∷ 3 ∷ 0 ∷ 4 ∷ [])
unfolding tried list_of
each_alone = (refl, refl)

-- a full table, and one with a place
abbrev full : ℕ → Table
full n = round 100 0 (replicate n (row 10 20 0))

-- beside a full table each candidate is answered 2 with the count 0, and none is looked at; beside 63 rows each is
pub beside_full :
    Gives (full 64) (row 60 70 0) 2 0
    × Gives (full 64) (row 100 5 9) 2 0
    × (candidates_visit (full 64) some ≡ ends_in Accepted)
    × (candidates_visit (full 64) (of []) ≡ ends_in Accepted)
    × ((candidates_visit (full 63) some).rows ≡ 5)
unfolding tried candidates_visit
beside_full = (refl, refl, refl, refl, refl)

-- so many rows are looked at of a table that has a plan, and then of the candidates
abbrev looked_at : Table → CandidateLists → ℕ
looked_at t c = (visit_rows (row_check t) 0 (rows t) (candidates_visit t c)).rows

-- of a full table its 64 rows alone, with candidates or with none; of 63 rows these and the candidates
pub counted_beside :
    (looked_at (full 64) some ≡ 64)
    × (looked_at (full 64) (of []) ≡ 64)
    × (looked_at (full 63) some ≡ 68)
    × (looked_at (full 63) (of []) ≡ 63)
unfolding visit_rows candidates_visit
counted_beside = (refl, refl, refl, refl)

-- a call with lists of answers so long and so many bytes of working space reports so
abbrev pub Reports : Table → CandidateLists → ℕ → ℕ → ℕ → Outcome → ℕ → Type 0
Reports t c numbers counts space r n = report (visit t c numbers counts space) ≡ looked r n

-- accepted: the table's rows and the candidates; none of either; 64 candidates
pub accepted :
    Reports (three_deep 0 0 0) some 5 5 4608 Accepted 9
    × Reports (three_deep 0 0 0) (of []) 0 0 4608 Accepted 4
    × Reports (round 100 0 []) some 5 5 4609 Accepted 5
    × Reports (round 100 0 []) (of []) 0 0 4608 Accepted 0
    × Reports (round 100 0 []) (of (replicate 64 (row 1 2 0))) 64 64 4608 Accepted 64
unfolding visit
accepted = (refl, refl, refl, refl, refl)

-- the table stops at row k: k + 1; it is refused sooner: 0; it has no plan: 8, with its rows alone
pub stopped :
    Reports (round 100 0 (row 1 1 9 ∷ row 100 1 0 ∷ [])) some 5 5 4608 Mark 1
    × Reports (round 100 0 (row 100 1 9 ∷ row 100 1 0 ∷ [])) some 5 5 4608 Window 1
    × Reports (three_deep 0 0 6) some 5 5 4608 Mark 3
    × Reports (round 50 0 (row 10 30 0 ∷ row 20 40 0 ∷ row 25 50 0 ∷ [])) some 5 5 4608 Window 3
    × Reports (round 1 601 (row 10 30 0 ∷ [])) some 5 5 4608 Ticks 0
    × Reports (round 43201 0 []) some 5 5 4608 Ticks 0
    × Reports (table_of (setting_of Run 100 601 (hours_from 0 101 0 100)) (row 1 1 0 ∷ [])) some 5 5 4608 Hours 0
    × Reports (round 100 601 (row 100 1 0 ∷ [])) some 5 5 4608 Gap 0
    × Reports (three_deep 1 1 1) some 5 5 4608 NoPlan 4
    × Reports (three_deep 1 1 1) (of []) 0 0 4608 NoPlan 4
unfolding visit
stopped = (refl, refl, refl, refl, refl, refl, refl, refl, refl, refl)

-- a table whose lists differ in length
abbrev uneven : Table
uneven = table (setting_of Round 1 0 no_hours) (1 ∷ []) (2 ∷ 3 ∷ []) (0 ∷ [])

-- 1, 2, 3, and then 16, of lists of unequal length or longer than 64; of two faults the first
pub lent_wrong :
    Reports uneven (candidates (1 ∷ []) [] []) 5 5 0 Lists 0
    × Reports (full 65) (candidates (1 ∷ []) [] []) 5 5 4607 Rows 0
    × Reports (three_deep 0 0 0) (candidates (1 ∷ []) [] []) 1 1 4607 Space 0
    × Reports (three_deep 0 0 0) some 5 5 4607 Space 0
    × Reports (three_deep 0 0 0) (candidates (1 ∷ []) [] (0 ∷ [])) 1 1 4608 Candidates 0
    × Reports (three_deep 0 0 0) (candidates (1 ∷ []) (2 ∷ []) []) 1 1 4608 Candidates 0
    × Reports (three_deep 0 0 0) some 4 5 4608 Candidates 0
    × Reports (three_deep 0 0 0) some 5 6 4608 Candidates 0
    × Reports (three_deep 0 0 0) some 4 4 4608 Candidates 0
    × Reports (three_deep 0 0 0) (of (replicate 65 (row 1 2 0))) 65 65 4608 Candidates 0
    × Reports (round 1 0 []) some 5 4 4608 Candidates 0
    × Reports (three_deep 1 1 1) some 5 4 4608 Candidates 0
unfolding visit
lent_wrong = (refl, refl, refl, refl, refl, refl, refl, refl, refl, refl, refl, refl)

-- ---- which rows are visited

-- a call with a place for each candidate's answer and enough working space visits these rows
abbrev Visits : Table → CandidateLists → ℕ → List Seen → Type 0
Visits t c n rows = (visit t c n n 4608).visited ≡ rows

-- each row of the table and then each candidate, once; a candidate that is refused stops nothing, a row of the table
-- does
pub visited :
    Visits (three_deep 0 0 0) some 5
    (saw (TableRow 0) Accepted
    ∷ saw (TableRow 1) Accepted
    ∷ saw (TableRow 2) Accepted
    ∷ saw (TableRow 3) Accepted
    ∷ saw (Candidate 0) Accepted
    ∷ saw (Candidate 1) Window
    ∷ saw (Candidate 2) Accepted
    ∷ saw (Candidate 3) Mark
    ∷ saw (Candidate 4) Accepted
    ∷ [])
    × Visits (three_deep 0 7 8) some 5 (saw (TableRow 0) Accepted ∷ saw (TableRow 1) Mark ∷ [])
    × Visits (round 100 0 (row 1 1 9 ∷ row 100 1 0 ∷ [])) some 5 (saw (TableRow 0) Mark ∷ [])
    × Visits (round 1 0 (row 1 1 9 ∷ [])) some 5 []
    × Visits (three_deep 0 0 0) some 4 []
    × Visits (round 100 0 (row 1 1 1 ∷ row 1 1 1 ∷ row 2 3 1 ∷ [])) some 5 (saw (TableRow 0) Accepted ∷ saw (TableRow 1) Accepted ∷ saw (TableRow 2) Accepted ∷ [])
unfolding visit
visited = (refl, refl, refl, refl, refl, refl)

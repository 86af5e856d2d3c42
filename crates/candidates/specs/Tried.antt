-- Believed: Candidate windows tried against a table: what each is answered, which rows are looked at, and what a call
-- gives, whole, on every input (docs/RULES.md, Candidates).
use Rattle.std.specs.Prelude.{ℕ, zero, suc, ◌+◌, cond, ◌&&◌, List, [], ◌∷◌, leb, eqb, length, replicate}
use Rattle.basics.specs.Limits.{max_rows}
use Rattle.basics.specs.Lists.{list_of}
use Rattle.marks.specs.Marks.{raised}
use Rattle.window.specs.declared.Row.{Row}
use Rattle.window.specs.Rows.{row}
use Rattle.refusals.specs.Refusals.{number_of, asked, passes, ◌then◌, Accepted, Candidates, Answer, Outcome}
use Rattle.table.specs.declared.Looked.{Looked}
use Rattle.table.specs.declared.Rows.{Rows}
use Rattle.table.specs.Tables.{Table, rows, row_of}
use Rattle.table.specs.Checks.{lengths_refusal, setting_refusal, row_refusal, looked, row_check}
use Rattle.table.specs.Planned.{space_bytes, space_refusal, best_plan, given, plan_refusal, planned, space_after}
use Rattle.table.specs.Changes.{with_row}

-- ---- one candidate

-- the candidate as a row that must be heard, by the receivers that its mark allows
abbrev pub must_row : Row → Row
must_row r = row r.start r.end (raised r.mark)

-- the table with the candidate added at its end as such a row
abbrev pub table_with : Table → Row → Table
table_with t candidate = with_row t (must_row candidate)

-- what planning a table answers, lent a label for each row and the working space that it needs
unfoldable pub planning : Table → Answer
unfolding planned
planning t = (planned t (replicate (rows t) 0) space_bytes).answer

-- what a candidate is answered: a refusal's number, 0 for accepted, and a count, 0 on a refusal
pub record Tried : Type 0 where
  pub number : ℕ
  pub count : ℕ

-- a candidate gets the number and the count that planning the table with it gives
unfoldable pub tried : Table → Row → Tried
unfolding planning raised
tried t candidate =
    record {
      number = number_of (planning (table_with t candidate)).refusal;
      count = (planning (table_with t candidate)).count;
    }

-- ---- all of them

-- how many candidates a call takes
abbrev pub max_candidates : ℕ
max_candidates = 64

-- candidates are lent in three lists, as a table's rows are
pub record CandidateLists : Type 0 where
  pub starts : List ℕ
  pub ends : List ℕ
  pub marks : List ℕ

abbrev pub candidates : List ℕ → List ℕ → List ℕ → CandidateLists
candidates starts ends marks = record { starts = starts; ends = ends; marks = marks }

-- the candidates that code is lent
abbrev pub offered : Rows → CandidateLists
offered c = candidates c.starts.now c.ends.now c.marks.now

abbrev pub size : CandidateLists → ℕ
size c = length c.starts

abbrev pub candidate_at : CandidateLists → ℕ → Row
candidate_at c = row_of c.starts c.ends c.marks

-- the two lists of answers, one place a candidate: numbers and counts
abbrev pub numbers_tried : Table → CandidateLists → List ℕ
numbers_tried t c = list_of (size c) (λ j. (tried t (candidate_at c j)).number)

abbrev pub counts_tried : Table → CandidateLists → List ℕ
counts_tried t c = list_of (size c) (λ j. (tried t (candidate_at c j)).count)

-- ---- the checks of what is lent

-- 16: the three lists of candidates and the two of answers are not all equally long, or longer than `max_candidates`
unfoldable pub candidates_refusal : ℕ → ℕ → ℕ → ℕ → ℕ → Outcome
candidates_refusal starts ends marks numbers counts =
    asked
    (eqb ends starts && eqb marks starts && eqb numbers starts && eqb counts starts && leb starts max_candidates)
    Candidates

-- of these candidates and lists of answers that are so long
abbrev pub answers_refusal : CandidateLists → ℕ → ℕ → Outcome
answers_refusal c numbers counts = candidates_refusal (size c) (length c.ends) (length c.marks) numbers counts

-- 1 and 2 of a table for which no labels are lent
abbrev pub table_refusal : Table → Outcome
table_refusal t = lengths_refusal (rows t) (length t.ends) (length t.marks) (rows t)

-- 1, 2, 3 and then 16
unfoldable pub lent_refusal : Table → CandidateLists → ℕ → ℕ → ℕ → Outcome
unfolding lengths_refusal space_refusal candidates_refusal
lent_refusal t c numbers counts space = table_refusal t then space_refusal space then answers_refusal c numbers counts

-- ---- the visit: which rows a call looks at, in which order

-- row i of the table, or candidate j
pub data Place : Type 0 where
  TableRow : ℕ → Place
  Candidate : ℕ → Place

-- a row that is looked at, and what its own check, for 6 and then 7, found
pub record Seen : Type 0 where
  pub place : Place
  pub check : Outcome

abbrev pub saw : Place → Outcome → Seen
saw place check = record { place = place; check = check }

-- what the visit ends in, how many rows were looked at, and which, in order
pub record Visit : Type 0 where
  pub refusal : Outcome
  pub rows : ℕ
  pub visited : List Seen

-- no row more is looked at
abbrev pub ends_in : Outcome → Visit
ends_in r = record { refusal = r; rows = 0; visited = [] }

-- a row is looked at, and then the rest: the count is one more
abbrev pub sees : Seen → Visit → Visit
sees row rest = record { refusal = rest.refusal; rows = rest.rows + 1; visited = row ∷ rest.visited }

infixr 20 ◌before◌
-- where the check refuses, no row after it is looked at
abbrev pub ◌before◌ : Outcome → Visit → Visit
r before rest = cond (passes r) rest (ends_in r)

-- n rows of the table from row i on, each looked at once, as far as the first that is refused
unfoldable pub visit_rows : (ℕ → Outcome) → ℕ → ℕ → Visit → Visit
visit_rows check i zero rest = rest
visit_rows check i (suc n) rest = sees (saw (TableRow i) (check i)) (check i before visit_rows check (i + 1) n rest)

-- m candidates from candidate j on, each looked at once: a candidate that is refused stops nothing
unfoldable pub visit_candidates : (ℕ → Outcome) → ℕ → ℕ → Visit
visit_candidates check j zero = ends_in Accepted
visit_candidates check j (suc m) = sees (saw (Candidate j) (check j)) (visit_candidates check (j + 1) m)

-- candidate j by itself, its mark as it is lent
abbrev pub candidate_check : Table → CandidateLists → ℕ → Outcome
candidate_check t c j = row_refusal t.setting (candidate_at c j)

-- the candidates from 0; beside a full table none is looked at
unfoldable pub candidates_visit : Table → CandidateLists → Visit
unfolding visit_candidates row_refusal
candidates_visit t c =
    cond (eqb (rows t) max_rows) (ends_in Accepted) (visit_candidates (candidate_check t c) 0 (size c))

-- 4, 5 and 14, the table's rows from 0, 8 where the table has no plan, and then the candidates
unfoldable pub table_visit : Table → CandidateLists → Visit
unfolding setting_refusal visit_rows row_refusal best_plan given candidates_visit
table_visit t c =
    setting_refusal t.setting
    before visit_rows (row_check t) 0 (rows t) (plan_refusal t before candidates_visit t c)

-- THE VISIT of a call, lent lists of answers so long and so many bytes of working space
unfoldable pub visit : Table → CandidateLists → ℕ → ℕ → ℕ → Visit
unfolding lent_refusal table_visit
visit t c numbers counts space = lent_refusal t c numbers counts space before table_visit t c

-- what a call reports of its visit: the refusal, and how many rows were looked at
abbrev pub report : Visit → Looked
report v = looked v.refusal v.rows

-- ---- a call, whole

-- what a call reports, and what the two lists of answers and the working space then hold
pub record CandidatesCalled : Type 0 where
  pub reports : Looked
  pub numbers : List ℕ
  pub counts : List ℕ
  pub space : List ℕ

abbrev pub called : Looked → List ℕ → List ℕ → List ℕ → CandidatesCalled
called reports numbers counts space = record { reports = reports; numbers = numbers; counts = counts; space = space }

-- an accepted call answers each candidate, a refused one leaves the answers; the working space fares as in planning the
-- table
unfoldable pub answers : Table → CandidateLists → Looked → List ℕ → List ℕ → List ℕ → CandidatesCalled
unfolding list_of tried space_after
answers t c reports numbers counts space =
    cond (passes reports.refusal)
    (called reports (numbers_tried t c) (counts_tried t c) (space_after reports.refusal space))
    (called reports numbers counts (space_after reports.refusal space))

-- THE RIGHT ANSWER of a call, for a table, candidates, lists of answers and working space as they are lent
unfoldable pub candidates_call : Table → CandidateLists → List ℕ → List ℕ → List ℕ → CandidatesCalled
unfolding visit answers
candidates_call t c numbers counts space =
    answers t c (report (visit t c (length numbers) (length counts) (length space))) numbers counts space

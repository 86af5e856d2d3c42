-- Believed: The right answer of a planner call, whole: refusal, count, labels and working space, on every input. It
-- speaks of plans, and says nothing of how one is found (docs/RULES.md, What the planner promises).
use Rattle.std.specs.Prelude.{ℕ, ◌≡◌, ◌↔◌, cond, ◌||◌, List, [], ◌++◌, leb, eqb, length, drop, replicate}
use Rattle.std.proofs.Math.Option.{Option, none, some}
use Rattle.labels.specs.Labels.{heard, Best, first_best}
use Rattle.refusals.specs.Refusals.{number_of, answered, asked, passes, ◌then◌, Accepted, Space, NoPlan, Answer, Outcome}
use Rattle.table.specs.Tables.{Table, rows, Plan, is_plan}
use Rattle.table.specs.Checks.{lengths_refusal, lists_refusal, table_looked}

-- the working space that the planner needs and clears, in bytes
abbrev pub space_bytes : ℕ
space_bytes = 4608

-- check 3: the working space is long enough
unfoldable pub space_refusal : ℕ → Outcome
space_refusal n = asked (leb space_bytes n) Space

-- All checks before 8: 1, 2, 3, 4, 5, 14, and then the rows from row 0 on, each for 6 and then 7. The first that
-- applies counts.
unfoldable pub checked : Table → List ℕ → ℕ → Outcome
unfolding lengths_refusal space_refusal table_looked
checked t labels space = lists_refusal t labels then space_refusal space then (table_looked t).refusal

-- of all plans that hear the most rows the first in the order of label lists; none where there is no plan
unfoldable pub best_plan : Table → Option (List ℕ)
unfolding first_best is_plan
best_plan t = first_best (rows t) (is_plan t)

-- what a call answers, and what the label list then holds
pub record Planned : Type 0 where
  pub answer : Answer
  pub labels : List ℕ

abbrev pub answering : Answer → List ℕ → Planned
answering answer labels = record { answer = answer; labels = labels }

-- a plan fills the labels, and the count is how many rows it hears; without one the call is refused 8, and the labels
-- stay
unfoldable pub given : Option (List ℕ) → List ℕ → Planned
unfolding heard
given none before = answering (answered NoPlan 0) before
given (some plan) before = answering (answered Accepted (heard plan)) plan

-- what planning a table that passes its checks ends in: accepted, or 8 where there is no plan
abbrev pub plan_refusal : Table → Outcome
plan_refusal t = (given (best_plan t) []).answer.refusal

-- What the planner gives for a table, a label list that held `before`, and working space of so many bytes. A check that
-- does not pass is reported with the count 0, and the labels stay.
unfoldable pub planned : Table → List ℕ → ℕ → Planned
unfolding checked best_plan given
planned t before space =
    cond (passes (checked t before space))
    (given (best_plan t) before)
    (answering (answered (checked t before space) 0) before)

-- What the working space holds after a call that ends so: after a plan and after 8 its first 4,608 bytes are 0, and
-- those beyond are as they were; after any other refusal all are.
unfoldable pub space_after : Outcome → List ℕ → List ℕ
space_after r space =
    cond (passes r || eqb (number_of r) 8) (replicate space_bytes 0 ++ drop space_bytes space) space

-- what a call gives, whole: its answer, and what the label list and the working space then hold
pub record PlanCalled : Type 0 where
  pub answer : Answer
  pub labels : List ℕ
  pub space : List ℕ

abbrev pub called : Answer → List ℕ → List ℕ → PlanCalled
called answer labels space = record { answer = answer; labels = labels; space = space }

-- THE RIGHT ANSWER of a call, for a table, a label list and working space as they are lent
unfoldable pub plan_call : Table → List ℕ → List ℕ → PlanCalled
unfolding planned space_after
plan_call t labels space =
    called (planned t labels (length space)).answer (planned t labels (length space)).labels
    (space_after (planned t labels (length space)).answer.refusal space)

-- ---- the best plan

-- What the planner promises of its answer and labels, for a table that passes all checks before 8. A rival is any
-- list of labels, one a row, that is a plan of the same table, and so of its ticks, gap, marks and hours.
pub record IsBestPlan (t : Table) (answer : Answer) (labels : List ℕ) : Type 0 where
  -- A plan is given exactly if there is a rival,
  pub given : (answer.refusal ≡ Accepted) ↔ ((rival : List ℕ) × Plan t rival)
  -- and refusal 8 exactly if there is none.
  pub refused : (answer.refusal ≡ NoPlan) ↔ ((rival : List ℕ) → Plan t rival → ⊥)
  -- Where a plan is given, every rival hears at most as many rows, and every rival that hears as many and differs
  -- from it comes later in the order of label lists;
  pub best : answer.refusal ≡ Accepted → Best (Plan t) labels
  -- and the count is how many of its labels are 1 or 2.
  pub count : answer.refusal ≡ Accepted → answer.count ≡ heard labels

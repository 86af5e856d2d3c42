-- Believed: The right answer of a writer call, whole: refusal, count and what the tape buffer then holds, on every
-- input; and what is promised of a call whose checks before 9 pass (docs/RULES.md, Refusals, Plan tapes).
use Rattle.std.specs.Prelude.{ℕ, ◌≤◌, ◌<◌, ◌≡◌, ◌≢◌, ◌↔◌, cond, List, ◌++◌, leb, length, take, drop}
use Rattle.basics.specs.Lists.{at, front}
use Rattle.refusals.specs.Refusals.{answered, asked, passes, ◌then◌, Accepted, NotPlan, Buffer, Answer, Outcome}
use Rattle.table.specs.Tables.{Table, Plan, is_plan}
use Rattle.table.specs.Checks.{lengths_refusal, lists_refusal, table_looked}
use Rattle.plan_tape.specs.PlanTapes.{plan_tape, tape_bytes}

-- the plan tape of a table and labels
unfoldable pub tape_of : Table → List ℕ → List ℕ
unfolding plan_tape
tape_of t labels = plan_tape t.setting.kind t.setting.ticks t.starts t.ends labels

-- the checks before 9: 1, 2, 4, 5, 14, and then each row for 6 and 7
unfoldable pub labelled : Table → List ℕ → Outcome
unfolding lengths_refusal table_looked
labelled t labels = lists_refusal t labels then (table_looked t).refusal

-- all checks: those before 9, then 9, the labels are no plan, then 10, the buffer is shorter than the tape
unfoldable pub write_refusal : Table → List ℕ → ℕ → Outcome
unfolding labelled is_plan tape_of
write_refusal t labels buffer =
    labelled t labels
    then asked (is_plan t labels) NotPlan
    then asked (leb (length (tape_of t labels)) buffer) Buffer

-- what a call gives: its answer, and what the tape buffer then holds
pub record Written : Type 0 where
  pub answer : Answer
  pub buffer : List ℕ

abbrev pub writing : Answer → List ℕ → Written
writing answer buffer = record { answer = answer; buffer = buffer }

-- The writer's answer for a table, labels and a tape buffer that held `before`. An accepted call counts the bytes of
-- the tape and leaves the bytes after it untouched; a refused one has count 0 and leaves the whole buffer untouched.
unfoldable pub written : Table → List ℕ → List ℕ → Written
unfolding write_refusal tape_of
written t labels before =
    cond (passes (write_refusal t labels (length before)))
    (writing (answered Accepted (length (tape_of t labels))) (front (tape_of t labels) before))
    (writing (answered (write_refusal t labels (length before)) 0) before)

-- the tape that an accepted call wrote: as many bytes of the buffer as it counts
abbrev pub tape_in : Written → List ℕ
tape_in w = take w.answer.count w.buffer

-- The labels of two tables, of as many rows or not, are the same plan: kind and R, at every row number the label, and
-- of every heard row the window. A row that a table does not have counts as label 0.
pub record SamePlan (t : Table) (labels : List ℕ) (u : Table) (labels' : List ℕ) : Type 0 where
  pub kind : t.setting.kind ≡ u.setting.kind
  pub ticks : t.setting.ticks ≡ u.setting.ticks
  pub label : (i : ℕ) → at labels i ≡ at labels' i
  pub window : (i : ℕ) → at labels i ≢ 0 → (at t.starts i ≡ at u.starts i) × (at t.ends i ≡ at u.ends i)

-- What is promised of a call whose checks before 9 pass, of which `w` is what it gives.
pub record WritesPlanTape (t : Table) (labels before : List ℕ) (w : Written) : Type 0 where
  -- exactly the plans for which the buffer is long enough are accepted,
  pub accepted : (w.answer.refusal ≡ Accepted) ↔ (Plan t labels × (tape_bytes labels ≤ length before))
  -- exactly the labels that are no plan are refused 9,
  pub refused : (w.answer.refusal ≡ NotPlan) ↔ (Plan t labels → ⊥)
  -- and exactly the plans for which it is shorter 10.
  pub short : (w.answer.refusal ≡ Buffer) ↔ (Plan t labels × (length before < tape_bytes labels))
  -- An accepted call's buffer begins with the tape, and the bytes after it are as they were;
  pub tape : w.answer.refusal ≡ Accepted → w.buffer ≡ tape_of t labels ++ drop (tape_bytes labels) before
  -- the count is how long the tape is;
  pub count : w.answer.refusal ≡ Accepted → w.answer.count ≡ tape_bytes labels
  -- and the tape states exactly the plan: whatever other call is accepted wrote the same tape exactly if it has the
  -- same plan.
  pub states : w.answer.refusal ≡ Accepted
      → (u : Table) (labels' before' : List ℕ) → (written u labels' before').answer.refusal ≡ Accepted
      → (tape_in w ≡ tape_in (written u labels' before')) ↔ SamePlan t labels u labels'

-- What laws of plain tables are about: plans and checks said without the gap, without beacons that send all day, and
-- with marks 0 and 1 alone. No contract cites these definitions, so they are neither Believed nor Inner definitions
-- of specs/: each is part of what a law says, and stands beside the laws (PlainPlans.antt). Those of windows are in
-- the crate `window`, proofs/PartDay.antt.
use Rattle.std.specs.Prelude.{ℕ, zero, suc, ◌≤◌, ◌<◌, ◌≡◌, ◌≢◌, List, leb}
use Rattle.std.proofs.Math.Option.{none, some}
use Rattle.labels.specs.Labels.{Assignment, Best}
use Rattle.window.specs.declared.Kind.{Kind}
use Rattle.window.specs.declared.Kind.TheVariants.{Round, Run}
use Rattle.window.specs.declared.Row.{Row}
use Rattle.window.specs.Hours.{hour}
use Rattle.window.specs.Windows.{Overlap}
use Rattle.window.proofs.PartDay.{OverlapPartDay, is_part_day_window}
use Rattle.marks.specs.Marks.{max_mark}
use Rattle.refusals.specs.Refusals.{asked, ◌then◌, Window, Mark, Outcome}
use Rattle.table.specs.declared.Setting.{Setting}
use Rattle.table.specs.Tables.{Table, rows, row_at, Allowed, Clash}
use Rattle.table.specs.Checks.{ticks_refusal, hours_refusal}
use Rattle.table.specs.Planned.{Planned, given}

-- What a call gives, whole, that passes all checks before 8, where the plans of its table are C: the best of them,
-- and refusal 8 where there is none.
pub record PlannedBy (C : List ℕ → Type 0) (before : List ℕ) (gave : Planned) : Type 0 where
  pub best : (labels : List ℕ) → Best C labels → gave ≡ given (some labels) before
  pub none : ((rival : List ℕ) → C rival → ⊥) → gave ≡ given none before

-- ---- tables with a gap of 0

abbrev pub NoGap : Table → Type 0
NoGap t = t.setting.gap ≡ 0

-- two rows cannot be heard by one receiver: some tick lies in both windows
abbrev pub ClashWithoutGap : Setting → Row → Row → Type 0
ClashWithoutGap S row row' = Overlap S.kind S.ticks row.start row.end row'.start row'.end

-- labels are a plan, the gap left out of account
abbrev pub PlanWithoutGap : Table → List ℕ → Type 0
PlanWithoutGap t =
    Assignment (rows t) (λ i. Allowed t.setting (row_at t i))
    (λ i j. ClashWithoutGap t.setting (row_at t i) (row_at t j))

-- the checks of the setting, 4 and 5, without that of the gap
unfoldable pub setting_refusal_without_gap : Setting → Outcome
unfolding ticks_refusal hours_refusal
setting_refusal_without_gap S = ticks_refusal S.ticks then hours_refusal S.kind S.ticks S.hours

-- ---- tables in which no beacon sends all day

abbrev pub NoneAllDay : Table → Type 0
NoneAllDay t = (i : ℕ) → i < rows t → (row_at t i).start ≢ (row_at t i).end

-- two rows cannot be heard by one receiver: some tick lies in both windows, each of which has its ticks from its
-- start to before its end
abbrev pub ClashPartDay : Setting → Row → Row → Type 0
ClashPartDay S row row' = OverlapPartDay S.kind S.ticks row.start row.end row'.start row'.end

-- labels are a plan, the gap left out of account, and no window sending all day
abbrev pub PlanPartDay : Table → List ℕ → Type 0
PlanPartDay t =
    Assignment (rows t) (λ i. Allowed t.setting (row_at t i))
    (λ i j. ClashPartDay t.setting (row_at t i) (row_at t j))

-- checks 6 and 7 of one row, check 6 asking in a round too that start and end differ
unfoldable pub row_refusal_part_day : Setting → Row → Outcome
row_refusal_part_day S row =
    asked (is_part_day_window S.kind S.ticks row.start row.end) Window then asked (leb row.mark max_mark) Mark

-- ---- tables in which every mark is 0 or 1

abbrev pub OnlyMarks01 : Table → Type 0
OnlyMarks01 t = (i : ℕ) → i < rows t → (row_at t i).mark ≤ 1

-- the receiver is open for the whole window
abbrev pub OpenMarks01 : Kind → List (List ℕ) → Row → ℕ → Type 0
OpenMarks01 Round hours row label = Unit {0}
OpenMarks01 Run hours row zero = Unit {0}
OpenMarks01 Run hours row (suc r) = (hour hours r 0 ≤ row.start) × (row.end ≤ hour hours r 1)

-- What a plan asks of a row's label: it is 0, 1 or 2; a row of mark 1 has 1 or 2; and the receiver is open.
pub record AllowedMarks01 (S : Setting) (row : Row) (label : ℕ) : Type 0 where
  pub known : label ≤ 2
  pub must : row.mark ≡ 1 → label ≢ 0
  pub hours : OpenMarks01 S.kind S.hours row label

-- labels are a plan in which mark 1 alone asks for a receiver, with the gap and all windows as they are
abbrev pub PlanMustAlone : Table → List ℕ → Type 0
PlanMustAlone t =
    Assignment (rows t) (λ i. AllowedMarks01 t.setting (row_at t i)) (λ i j. Clash t.setting (row_at t i) (row_at t j))

-- labels are a plan, the gap left out of account, no window sending all day, and mark 1 alone asking for a receiver
abbrev pub PlanMarks01 : Table → List ℕ → Type 0
PlanMarks01 t =
    Assignment (rows t) (λ i. AllowedMarks01 t.setting (row_at t i))
    (λ i j. ClashPartDay t.setting (row_at t i) (row_at t j))

-- checks 6 and 7 of one row, check 7 asking for a mark of at most 1
unfoldable pub row_refusal_marks_01 : Setting → Row → Outcome
row_refusal_marks_01 S row =
    asked (is_part_day_window S.kind S.ticks row.start row.end) Window then asked (leb row.mark 1) Mark

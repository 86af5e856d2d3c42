-- Laws of plain tables. (a) With a gap of 0 two rows clash exactly if their windows overlap. (b) Where, besides, no
-- beacon sends all day, a window has its ticks from its start to before its end. (c) Where, besides, every mark is 0
-- or 1, mark 1 alone asks something of a label. Each is said of plans, of the checks and of the whole answer of a
-- call: it gives the best of these plans or refusal 8, and nothing else does. The definitions are in Plain.antt.
use Prim.Native.Nat.{ℕ}
use mathlib.Core.Path.{◌≡◌, refl}
use mathlib.Core.Logic.Iff
use mathlib.Core.Logic.{◌≢◌, ◌↔◌}
use mathlib.Core.Bool.{Bool, true, false, ◌&&◌}
use mathlib.Core.List.{List}
use native.Mathlib.Omega.{arith}
use Rattle.labels.proofs.Best.{assignment_iff}
use Rattle.window.specs.declared.Kind.{Kind}
use Rattle.window.specs.declared.Kind.TheVariants.{Round, Run}
use Rattle.window.specs.declared.Row.{Row}
use Rattle.window.specs.Windows.{Window}
use Rattle.window.proofs.AllDay.{window_part_day, overlap_part_day}
use Rattle.window.proofs.Gaps.{too_close_0}
use Rattle.refusals.specs.Refusals.{asked, ◌then◌, Accepted, Hours}
use Rattle.refusals.proofs.Refusals.{Passed}
use Rattle.table.specs.declared.Setting.{Setting}
use Rattle.table.specs.Tables.{Table, rows, row_at, Clash, Plan, Valid}
use Rattle.table.specs.Checks.{is_hours, hours_refusal, gap_refusal, setting_refusal, row_refusal}
use Rattle.table.specs.Planned.{Planned, checked, planned}
use Rattle.table.proofs.Plain.{PlannedBy, ClashWithoutGap, PlanWithoutGap, setting_refusal_without_gap, NoGap, ClashPartDay, PlanPartDay, row_refusal_part_day, NoneAllDay, PlanMarks01, PlanMustAlone, OnlyMarks01}
pub use Rattle.table.proofs.PlainPlanned.{planned_by, planned_only}
pub use Rattle.table.proofs.PlainMarks.{allowed_marks_01, row_check_marks_01}

-- ---- (a) a gap of 0

-- the checks of the setting are 4 and 5
pub setting_check_without_gap : (S : Setting) → S.gap ≡ 0 → setting_refusal S ≡ setting_refusal_without_gap S
unfolding setting_refusal setting_refusal_without_gap gap_refusal hours_refusal
setting_check_without_gap S e = rw (e, hours_last S.kind S.ticks S.hours) refl
  where
    hours_last : (kind : Kind) (R : ℕ) (hours : List (List ℕ))
        → (hours_refusal kind R hours then Accepted) ≡ hours_refusal kind R hours
    hours_last Round R hours = refl
    hours_last Run R hours = go (is_hours hours R 0 && is_hours hours R 1)
      where
        go : (x : Bool) → (asked x Hours then Accepted) ≡ asked x Hours
        go true = refl
        go false = refl

-- two rows clash exactly if their windows overlap
pub clash_without_gap : (S : Setting) → S.gap ≡ 0 → (row row' : Row) → Clash S row row' ↔ ClashWithoutGap S row row'
clash_without_gap S e row row' = rw e (too_close_0 S.kind S.ticks row.start row.end row'.start row'.end)

-- THE PLANS ARE THOSE WITHOUT A GAP, whatever the marks, and with beacons that send all day
pub plans_without_gap : (t : Table) → NoGap t → (l : List ℕ) → Plan t l ↔ PlanWithoutGap t l
plans_without_gap t e =
    assignment_iff (rows t) (λ i x h. Iff.rfl)
    (λ i j h k d. clash_without_gap t.setting e (row_at t i) (row_at t j))

-- ---- (b) no beacon sends all day

module _ (S : Setting) where
  -- checks 6 and 7 of a row that does not send all day,
  pub row_check_part_day : (row : Row) → row.start ≢ row.end → row_refusal S row ≡ row_refusal_part_day S row
  unfolding row_refusal row_refusal_part_day
  row_check_part_day row d = rw (window_part_day S.kind S.ticks row.start row.end d) refl

  -- and of every row of a run, in which no beacon may send all day
  pub row_check_run : (row : Row) → S.kind ≡ Run → row_refusal S row ≡ row_refusal_part_day S row
  unfolding row_refusal row_refusal_part_day
  row_check_run row e = rw e refl

  -- two rows that do not send all day clash, without a gap, exactly if some tick lies in both windows, each from
  -- start to before end
  pub clash_part_day : (row row' : Row) → row.start ≢ row.end → row'.start ≢ row'.end
      → ClashWithoutGap S row row' ↔ ClashPartDay S row row'
  clash_part_day row row' = overlap_part_day S.kind S.ticks row.start row.end row'.start row'.end

-- no row of a run that passes its checks sends all day
pub run_none_all_day : (t : Table) → Valid t → t.setting.kind ≡ Run → NoneAllDay t
run_none_all_day t valid e i h q =
    let w : Window Run t.setting.ticks (row_at t i).start (row_at t i).end = rw e at (valid.row i h).window in
    absurd (omega (arith, w.0))

-- THE PLANS ARE THOSE OF WINDOWS FROM START TO BEFORE END, whatever the marks
pub plans_part_day : (t : Table) → NoneAllDay t → (l : List ℕ) → PlanWithoutGap t l ↔ PlanPartDay t l
plans_part_day t differ =
    assignment_iff (rows t) (λ i x h. Iff.rfl)
    (λ i j h k d. clash_part_day t.setting (row_at t i) (row_at t j) (differ i h) (differ j k))

-- ---- (c) every mark is 0 or 1

-- whatever the gap, and with beacons that send all day
pub plans_must_alone : (t : Table) → OnlyMarks01 t → (l : List ℕ) → Plan t l ↔ PlanMustAlone t l
plans_must_alone t marks =
    assignment_iff (rows t) (λ i x h. allowed_marks_01 t.setting (row_at t i) (marks i h) x) (λ i j h k d. Iff.rfl)

-- THE PLANS ARE THOSE IN WHICH EACH ROW OF MARK 1 IS HEARD
pub plans_marks_01 : (t : Table) → OnlyMarks01 t → (l : List ℕ) → PlanPartDay t l ↔ PlanMarks01 t l
plans_marks_01 t marks =
    assignment_iff (rows t) (λ i x h. allowed_marks_01 t.setting (row_at t i) (marks i h) x) (λ i j h k d. Iff.rfl)

-- ---- the whole answer of a call: the best of these plans or refusal 8, and nothing else is that

module _ (t : Table) (before : List ℕ) (space : ℕ) (p : Passed (checked t before space)) (marks : OnlyMarks01 t) where
  pub planned_must_alone : PlannedBy (PlanMustAlone t) before (planned t before space)
  planned_must_alone = planned_by t before space p (PlanMustAlone t) (plans_must_alone t marks)

  pub only_must_alone : (gave : Planned) → PlannedBy (PlanMustAlone t) before gave → gave ≡ planned t before space
  only_must_alone = planned_only t before space p (PlanMustAlone t) (plans_must_alone t marks)

module _ (t : Table) (zero-gap : NoGap t) (before : List ℕ) (space : ℕ) (p : Passed (checked t before space)) where
  pub planned_without_gap : PlannedBy (PlanWithoutGap t) before (planned t before space)
  planned_without_gap = planned_by t before space p (PlanWithoutGap t) (plans_without_gap t zero-gap)

  pub only_without_gap : (gave : Planned) → PlannedBy (PlanWithoutGap t) before gave → gave ≡ planned t before space
  only_without_gap = planned_only t before space p (PlanWithoutGap t) (plans_without_gap t zero-gap)

  module _ (differ : NoneAllDay t) where
    to_part_day : (l : List ℕ) → Plan t l ↔ PlanPartDay t l
    to_part_day l = Iff.trans (plans_without_gap t zero-gap l) (plans_part_day t differ l)

    pub planned_part_day : PlannedBy (PlanPartDay t) before (planned t before space)
    planned_part_day = planned_by t before space p (PlanPartDay t) to_part_day

    pub only_part_day : (gave : Planned) → PlannedBy (PlanPartDay t) before gave → gave ≡ planned t before space
    only_part_day = planned_only t before space p (PlanPartDay t) to_part_day

    module _ (marks : OnlyMarks01 t) where
      to_marks_01 : (l : List ℕ) → Plan t l ↔ PlanMarks01 t l
      to_marks_01 l = Iff.trans (to_part_day l) (plans_marks_01 t marks l)

      pub planned_marks_01 : PlannedBy (PlanMarks01 t) before (planned t before space)
      planned_marks_01 = planned_by t before space p (PlanMarks01 t) to_marks_01

      pub only_marks_01 : (gave : Planned) → PlannedBy (PlanMarks01 t) before gave → gave ≡ planned t before space
      only_marks_01 = planned_only t before space p (PlanMarks01 t) to_marks_01

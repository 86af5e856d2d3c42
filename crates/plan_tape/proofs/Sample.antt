-- Writer calls by computing: a table of four rows with its plan tape of 26 bytes and a buffer of 25, the order of the
-- refusals, labels on the wrong receiver, windows that last all day, gaps; and which plans are the same.
use Prim.Native.Nat.{ℕ, zero, suc}
use mathlib.Core.Path.{◌≡◌, refl, ap}
use mathlib.Core.Logic.{◌≢◌}
use mathlib.Core.List.{List, [], ◌∷◌, ◌++◌}
use native.Mathlib.Omega.{arith}
use lib.ListN.{replicate}
use Rattle.basics.specs.Lists.{at}
use Rattle.window.specs.Rows.{row}
use Rattle.window.specs.declared.Row.{Row}
use Rattle.window.specs.declared.Kind.{Kind}
use Rattle.window.specs.declared.Kind.TheVariants.{Round, Run}
use Rattle.refusals.specs.Refusals.{answered, Accepted, Lists, Rows, Ticks, Hours, Gap, Window, Mark, NotPlan, Buffer, Outcome}
use Rattle.window.specs.Hours.{hours_from, no_hours}
use Rattle.table.specs.Tables.{setting_of, Table, table, table_of}
use Rattle.plan_tape.specs.PlanTapes.{kind_command, plan_tape}
use Rattle.plan_tape.specs.Written.{tape_of, labelled, Written, writing, written, tape_in, SamePlan, WritesPlanTape}
use Rattle.plan_tape.proofs.Writes.{promised_plan, promised_tape}

abbrev starts : List ℕ
starts = 10 ∷ 20 ∷ 25 ∷ 90 ∷ []

abbrev ends : List ℕ
ends = 30 ∷ 40 ∷ 50 ∷ 10 ∷ []

abbrev labels : List ℕ
labels = 1 ∷ 2 ∷ 0 ∷ 1 ∷ []

abbrev four : Table
four = table (setting_of Round 100 0 no_hours) starts ends (replicate 4 0)

-- their plan tape
abbrev pub session_tape : List ℕ
session_tape =
    0x10 ∷ 0x00 ∷ 0x64
    ∷ 0x20 ∷ 0x01
    ∷ 0x30 ∷ 0x00 ∷ 0x00 ∷ 0x0A ∷ 0x00 ∷ 0x1E
    ∷ 0x30 ∷ 0x03 ∷ 0x00 ∷ 0x5A ∷ 0x00 ∷ 0x0A
    ∷ 0x20 ∷ 0x02
    ∷ 0x30 ∷ 0x01 ∷ 0x00 ∷ 0x14 ∷ 0x00 ∷ 0x28
    ∷ 0x7F
    ∷ []

pub sample : plan_tape Round 100 starts ends labels ≡ session_tape
unfolding plan_tape
sample = refl

-- a call that finds nines in a buffer of so many bytes
abbrev refused : Outcome → ℕ → Written
refused r bytes = writing (answered r 0) (replicate bytes 9)

-- the tape in a buffer of 28 bytes and of 26; 10 for a buffer of 25; a label of 3 gives 9, before the buffer gives 10
pub session :
    (written four labels (replicate 28 9) ≡ writing (answered Accepted 26) (session_tape ++ (9 ∷ 9 ∷ [])))
    × (written four labels (replicate 26 9) ≡ writing (answered Accepted 26) session_tape)
    × (written four labels (replicate 25 9) ≡ refused Buffer 25)
    × (written four (1 ∷ 2 ∷ 3 ∷ 1 ∷ []) (replicate 25 9) ≡ refused NotPlan 25)
unfolding written
session = (refl, refl, refl, refl)

-- of several faults the first is reported, in the order 1, 2, 4, 5, 14, rows for 6 and 7, 9, 10; the buffer is
-- untouched
abbrev faulty : ℕ → ℕ → List (List ℕ) → Row → Table
faulty R g hours r = table_of (setting_of Run R g hours) (r ∷ [])

pub order :
    (written (table (setting_of Run 1 601 no_hours) (replicate 65 3) (replicate 64 3) (replicate 65 9)) (replicate 65 3) (9 ∷ []) ≡ refused Lists 1)
    × (written (table_of (setting_of Run 1 601 no_hours) (replicate 65 (row 3 3 9))) (replicate 65 3) (9 ∷ []) ≡ refused Rows 1)
    × (written (faulty 1 601 (hours_from 9 8 0 0) (row 3 3 9)) (3 ∷ []) (9 ∷ []) ≡ refused Ticks 1)
    × (written (faulty 10 601 (hours_from 9 8 0 0) (row 3 3 9)) (3 ∷ []) (9 ∷ []) ≡ refused Hours 1)
    × (written (faulty 10 601 (hours_from 0 10 0 10) (row 3 3 9)) (3 ∷ []) (9 ∷ []) ≡ refused Gap 1)
    × (written (faulty 10 600 (hours_from 0 10 0 10) (row 3 3 9)) (3 ∷ []) (9 ∷ []) ≡ refused Window 1)
    × (written (faulty 10 600 (hours_from 0 10 0 10) (row 3 4 9)) (3 ∷ []) (9 ∷ []) ≡ refused Mark 1)
    × (written (faulty 10 600 (hours_from 0 10 0 10) (row 3 4 0)) (3 ∷ []) (9 ∷ []) ≡ refused NotPlan 1)
    × (written (faulty 10 600 (hours_from 0 10 0 10) (row 3 4 0)) (2 ∷ []) (9 ∷ []) ≡ refused Buffer 1)
unfolding written
order = (refl, refl, refl, refl, refl, refl, refl, refl, refl)

-- labels on a receiver that the row's mark does not allow are no plan: row 3–4 of a round, by its mark, which is not on
-- the tape
abbrev marked : ℕ → ℕ → Written
marked mark label = written (table_of (setting_of Round 10 0 no_hours) (row 3 4 mark ∷ [])) (label ∷ []) (replicate 14 9)

abbrev heard1 : Written
heard1 = writing (answered Accepted 14) (0x10 ∷ 0x00 ∷ 0x0A ∷ 0x20 ∷ 0x01 ∷ 0x30 ∷ 0x00 ∷ 0x00 ∷ 0x03 ∷ 0x00 ∷ 0x04 ∷ 0x20 ∷ 0x02 ∷ 0x7F ∷ [])

abbrev heard2 : Written
heard2 = writing (answered Accepted 14) (0x10 ∷ 0x00 ∷ 0x0A ∷ 0x20 ∷ 0x01 ∷ 0x20 ∷ 0x02 ∷ 0x30 ∷ 0x00 ∷ 0x00 ∷ 0x03 ∷ 0x00 ∷ 0x04 ∷ 0x7F ∷ [])

pub receivers :
    (marked 2 1 ≡ heard1)
    × (marked 2 2 ≡ refused NotPlan 14)
    × (marked 3 1 ≡ heard1)
    × (marked 3 2 ≡ refused NotPlan 14)
    × (marked 3 0 ≡ refused NotPlan 14)
    × (marked 4 1 ≡ refused NotPlan 14)
    × (marked 4 2 ≡ heard2)
    × (marked 5 1 ≡ refused NotPlan 14)
    × (marked 5 2 ≡ heard2)
    × (marked 5 0 ≡ refused NotPlan 14)
    × (marked 6 2 ≡ refused Mark 14)
unfolding written
receivers = (refl, refl, refl, refl, refl, refl, refl, refl, refl, refl, refl)

-- a window whose end is its start lasts all day in a round, and is none in a run: row 3–3 and a row beside it, by
-- labels
abbrev beside : ℕ → ℕ → Written
beside label label' = written (table_of (setting_of Round 10 0 no_hours) (row 3 3 0 ∷ row 8 9 0 ∷ [])) (label ∷ label' ∷ []) (replicate 20 9)

pub all_day :
    (beside 1 2
    ≡ writing (answered Accepted 20) (0x10 ∷ 0x00 ∷ 0x0A ∷ 0x20 ∷ 0x01 ∷ 0x30 ∷ 0x00 ∷ 0x00 ∷ 0x03 ∷ 0x00 ∷ 0x03 ∷ 0x20 ∷ 0x02 ∷ 0x30 ∷ 0x01 ∷ 0x00 ∷ 0x08 ∷ 0x00 ∷ 0x09 ∷ 0x7F ∷ []))
    × (beside 1 1 ≡ refused NotPlan 20)
    × (beside 2 2 ≡ refused NotPlan 20)
    × (written (table_of (setting_of Round 10 0 no_hours) (row 10 10 0 ∷ [])) (1 ∷ []) (replicate 20 9) ≡ refused Window 20)
    × (written (table_of (setting_of Run 10 0 (hours_from 0 10 0 10)) (row 3 3 0 ∷ [])) (1 ∷ []) (replicate 20 9) ≡ refused Window 20)
unfolding written
all_day = (refl, refl, refl, refl, refl)

-- labels that break the gap are no plan: rows 3–4 and 6–9 of a round, with 2 ticks between them on one side and 4 on
-- the other, by the gap, which is not on the tape, and their labels
abbrev between : ℕ → ℕ → ℕ → Written
between g label label' = written (table_of (setting_of Round 10 g no_hours) (row 3 4 0 ∷ row 6 9 0 ∷ [])) (label ∷ label' ∷ []) (replicate 20 9)

abbrev on_one : Written
on_one = writing (answered Accepted 20) (0x10 ∷ 0x00 ∷ 0x0A ∷ 0x20 ∷ 0x01 ∷ 0x30 ∷ 0x00 ∷ 0x00 ∷ 0x03 ∷ 0x00 ∷ 0x04 ∷ 0x30 ∷ 0x01 ∷ 0x00 ∷ 0x06 ∷ 0x00 ∷ 0x09 ∷ 0x20 ∷ 0x02 ∷ 0x7F ∷ [])

abbrev on_two : Written
on_two = writing (answered Accepted 20) (0x10 ∷ 0x00 ∷ 0x0A ∷ 0x20 ∷ 0x01 ∷ 0x30 ∷ 0x00 ∷ 0x00 ∷ 0x03 ∷ 0x00 ∷ 0x04 ∷ 0x20 ∷ 0x02 ∷ 0x30 ∷ 0x01 ∷ 0x00 ∷ 0x06 ∷ 0x00 ∷ 0x09 ∷ 0x7F ∷ [])

pub gaps :
    (between 0 1 1 ≡ on_one)
    × (between 2 1 1 ≡ on_one)
    × (between 3 1 1 ≡ refused NotPlan 20)
    × (between 3 2 2 ≡ refused NotPlan 20)
    × (between 3 1 2 ≡ on_two)
    × (between 600 1 2 ≡ on_two)
    × (between 601 1 2 ≡ refused Gap 20)
unfolding written
gaps = (refl, refl, refl, refl, refl, refl, refl)

-- ---- the checks before 9: labels that are no plan pass them, and a fault of the lists, the setting or a row does not

pub before_9 :
    (labelled four labels ≡ Accepted)
    × (labelled four (1 ∷ 1 ∷ 1 ∷ 3 ∷ []) ≡ Accepted)
    × (labelled (faulty 10 600 (hours_from 0 10 0 10) (row 3 4 5)) (0 ∷ []) ≡ Accepted)
    × (labelled four (1 ∷ 2 ∷ 0 ∷ []) ≡ Lists)
    × (labelled (table_of (setting_of Round 100 0 no_hours) (replicate 65 (row 3 4 0))) (replicate 65 0) ≡ Rows)
    × (labelled (faulty 1 0 (hours_from 0 1 0 1) (row 3 4 0)) (1 ∷ []) ≡ Ticks)
    × (labelled (faulty 10 0 (hours_from 0 10 0 11) (row 3 4 0)) (1 ∷ []) ≡ Hours)
    × (labelled (faulty 10 601 (hours_from 0 10 0 10) (row 3 4 0)) (1 ∷ []) ≡ Gap)
    × (labelled (faulty 10 0 (hours_from 0 10 0 10) (row 3 3 0)) (1 ∷ []) ≡ Window)
    × (labelled (faulty 10 0 (hours_from 0 10 0 10) (row 3 4 6)) (1 ∷ []) ≡ Mark)
unfolding labelled
before_9 = (refl, refl, refl, refl, refl, refl, refl, refl, refl, refl)

-- ---- the same plan, or not: tables that differ from `four` in one number

abbrev table_4 : Kind → ℕ → List ℕ → List ℕ → Table
table_4 kind R starts ends = table (setting_of kind R 0 no_hours) starts ends (replicate 4 0)

-- row 0, which is heard, ends at 31 in place of 30, or starts at 11 in place of 10: another plan and another tape
abbrev later_end : Table
later_end = table_4 Round 100 starts (31 ∷ 40 ∷ 50 ∷ 10 ∷ [])

abbrev later_start : Table
later_start = table_4 Round 100 (11 ∷ 20 ∷ 25 ∷ 90 ∷ []) ends

pub other_window :
    (SamePlan four labels later_end labels → ⊥)
    × (tape_of four labels ≡ tape_of later_end labels → ⊥)
    × (SamePlan four labels later_start labels → ⊥)
    × (tape_of four labels ≡ tape_of later_start labels → ⊥)
unfolding tape_of
other_window = (
  λ s. let w : ◌≡◌ {A = ℕ} 30 31 = (s.window 0 (λ z. omega (arith, z))).1 in omega (arith, w),
  λ e. let b : ◌≡◌ {A = ℕ} 30 31 = ap (λ (l : List ℕ). at l 10) e in omega (arith, b),
  λ s. let w : ◌≡◌ {A = ℕ} 10 11 = (s.window 0 (λ z. omega (arith, z))).0 in omega (arith, w),
  λ e. let b : ◌≡◌ {A = ℕ} 10 11 = ap (λ (l : List ℕ). at l 8) e in omega (arith, b),
)

-- another R, kind or label: another plan and another tape
pub other_setting :
    (SamePlan four labels (table_4 Round 101 starts ends) labels → ⊥)
    × (tape_of four labels ≡ tape_of (table_4 Round 101 starts ends) labels → ⊥)
    × (SamePlan four labels (table_4 Run 100 starts ends) labels → ⊥)
    × (tape_of four labels ≡ tape_of (table_4 Run 100 starts ends) labels → ⊥)
    × (SamePlan four labels four (1 ∷ 2 ∷ 0 ∷ 0 ∷ []) → ⊥)
    × (tape_of four labels ≡ tape_of four (1 ∷ 2 ∷ 0 ∷ 0 ∷ []) → ⊥)
unfolding tape_of
other_setting = (
  λ s. let R : ◌≡◌ {A = ℕ} 100 101 = s.ticks in omega (arith, R),
  λ e. let b : ◌≡◌ {A = ℕ} 100 101 = ap (λ (l : List ℕ). at l 2) e in omega (arith, b),
  λ s. let c : ◌≡◌ {A = ℕ} 0x10 0x11 = ap kind_command s.kind in omega (arith, c),
  λ e. let b : ◌≡◌ {A = ℕ} 0x10 0x11 = ap (λ (l : List ℕ). at l 0) e in omega (arith, b),
  λ s. let x : ◌≡◌ {A = ℕ} 1 0 = s.label 3 in omega (arith, x),
  λ e. let b : ◌≡◌ {A = ℕ} 0x30 0x20 = ap (λ (l : List ℕ). at l 11) e in omega (arith, b),
)

-- row 2, which is not heard, ends at 51 in place of 50, and there is a row more with label 0: the same plan and one
-- tape
abbrev unheard : Table
unheard = table (setting_of Round 100 0 no_hours) (starts ++ (7 ∷ [])) (30 ∷ 40 ∷ 51 ∷ 10 ∷ 8 ∷ []) (replicate 5 0)

pub same_plan : SamePlan four labels unheard (labels ++ (0 ∷ []))
same_plan = record { kind = refl; ticks = refl; label = label; window = window }
  where
    label : (i : ℕ) → at labels i ≡ at (labels ++ (0 ∷ [])) i
    label zero = refl
    label (suc zero) = refl
    label (suc (suc zero)) = refl
    label (suc (suc (suc zero))) = refl
    label (suc (suc (suc (suc zero)))) = refl
    label (suc (suc (suc (suc (suc i))))) = refl

    window : (i : ℕ) → at labels i ≢ 0 → (at four.starts i ≡ at unheard.starts i) × (at four.ends i ≡ at unheard.ends i)
    window zero n = (refl, refl)
    window (suc zero) n = (refl, refl)
    window (suc (suc zero)) n = absurd (n refl)
    window (suc (suc (suc zero))) n = (refl, refl)
    window (suc (suc (suc (suc i)))) n = absurd (n refl)

pub same_tape : tape_of four labels ≡ tape_of unheard (labels ++ (0 ∷ []))
unfolding tape_of
same_tape = refl

-- a run with the same R, labels and windows, but that row 3 ends with the run
abbrev as_run : Table
as_run = table (setting_of Run 100 0 (hours_from 0 100 0 100)) starts (30 ∷ 40 ∷ 50 ∷ 100 ∷ []) (replicate 4 0)

-- Whatever meets the promise for `four` and is accepted, whatever its buffer held, wrote the tape of the call for
-- `unheard`, and not that of a call for another window, another R, another kind or another label.
abbrev call : Table → List ℕ → Written
call u labels' = written u labels' (replicate 28 9)

module _ (before : List ℕ) (w : Written) (d : WritesPlanTape four labels before w)
    (a : w.answer.refusal ≡ Accepted) where
  pub promised :
      (tape_in w ≡ tape_in (call unheard (labels ++ (0 ∷ []))))
      × (tape_in w ≡ tape_in (call later_end labels) → ⊥)
      × (tape_in w ≡ tape_in (call later_start labels) → ⊥)
      × (tape_in w ≡ tape_in (call (table_4 Round 101 starts ends) labels) → ⊥)
      × (tape_in w ≡ tape_in (call as_run labels) → ⊥)
      × (tape_in w ≡ tape_in (call four (1 ∷ 2 ∷ 0 ∷ 0 ∷ [])) → ⊥)
  unfolding written
  promised = (
    promised_tape four labels before w d unheard (labels ++ (0 ∷ [])) (replicate 28 9) a refl
        refl refl same_plan.label same_plan.window,
    λ e.
        let p = promised_plan four labels before w d later_end labels (replicate 28 9) a refl e in
        let x : ◌≡◌ {A = ℕ} 30 31 = (p.3 0 (λ z. omega (arith, z))).1 in omega (arith, x),
    λ e.
        let p = promised_plan four labels before w d later_start labels (replicate 28 9) a refl e in
        let x : ◌≡◌ {A = ℕ} 10 11 = (p.3 0 (λ z. omega (arith, z))).0 in omega (arith, x),
    λ e.
        let p = promised_plan four labels before w d (table_4 Round 101 starts ends) labels (replicate 28 9) a refl e in
        let x : ◌≡◌ {A = ℕ} 100 101 = p.1 in omega (arith, x),
    λ e.
        let p = promised_plan four labels before w d as_run labels (replicate 28 9) a refl e in
        let x : ◌≡◌ {A = ℕ} 0x10 0x11 = ap kind_command p.0 in omega (arith, x),
    λ e.
        let p = promised_plan four labels before w d four (1 ∷ 2 ∷ 0 ∷ 0 ∷ []) (replicate 28 9) a refl e in
        let x : ◌≡◌ {A = ℕ} 1 0 = p.2 3 in omega (arith, x),
  )

-- The checks before 9, said by what they mean: they pass exactly for a valid table with right hours and a label for
-- each row. Whether the labels are a plan does not matter.
use Prim.Native.Nat.{ℕ, ◌≤◌}
use mathlib.Core.Path.{◌≡◌, refl}
use mathlib.Core.Logic.{◌↔◌}
use mathlib.Core.Bool.{true, ◌&&◌}
use mathlib.Core.List.{List}
use native.Mathlib.Omega.{arith}
use lib.ListN.{length}
use Rattle.basics.proofs.Tests.{leb_iff, and_iff}
use Rattle.window.specs.declared.Kind.{Kind}
use Rattle.window.specs.declared.Kind.TheVariants.{Round, Run}
use Rattle.window.specs.Hours.{hour}
use Rattle.refusals.specs.Refusals.{Outcome, Hours}
use Rattle.refusals.proofs.Refusals.{Passed, then_passes, then_passed, asked_passes, asked_passed}
use Rattle.table.specs.Tables.{Table, rows, Valid}
use Rattle.table.specs.Checks.{is_hours, hours_refusal, ticks_refusal, gap_refusal, setting_refusal}
use Rattle.table.specs.Checks.{lists_refusal, rows_looked, table_looked}
use Rattle.table.proofs.Checked.{then_looked}
use Rattle.table.proofs.Passing.{lists_pass, table_passes}
use Rattle.plan_tape.specs.Written.{labelled}
use Rattle.plan_tape.proofs.Accepted.{labelled_passed}

-- a receiver's hours go from p to a q that is at least p and at most R
abbrev pub RightPair : List (List ℕ) → ℕ → ℕ → Type 0
RightPair hours R r = (hour hours r 0 ≤ hour hours r 1) × (hour hours r 1 ≤ R)

-- in a run both do; in a round no hours are looked at
abbrev pub RightHours : Kind → ℕ → List (List ℕ) → Type 0
RightHours Round R hours = Unit {0}
RightHours Run R hours = RightPair hours R 0 × RightPair hours R 1

pub hours_iff : (kind : Kind) (R : ℕ) (hours : List (List ℕ))
    → Passed (hours_refusal kind R hours) ↔ RightHours kind R hours
unfolding hours_refusal
hours_iff Round R hours = (λ _. tt, λ _. refl)
hours_iff Run R hours = (
  λ p. both.0 (asked_passed (is_hours hours R 0 && is_hours hours R 1) Hours (omega arith) p),
  λ h. asked_passes (is_hours hours R 0 && is_hours hours R 1) Hours (both.1 h),
)
  where
    both : ((is_hours hours R 0 && is_hours hours R 1) ≡ true) ↔ (RightPair hours R 0 × RightPair hours R 1)
    both =
        and_iff
        (and_iff (leb_iff (hour hours 0 0) (hour hours 0 1)) (leb_iff (hour hours 0 1) R))
        (and_iff (leb_iff (hour hours 1 0) (hour hours 1 1)) (leb_iff (hour hours 1 1) R))

-- a valid table with right hours and a label for each row
abbrev pub Right : Table → List ℕ → Type 0
Right t labels = Valid t × RightHours t.setting.kind t.setting.ticks t.setting.hours × (length labels ≡ rows t)

pub labelled_iff : (t : Table) (labels : List ℕ) → Passed (labelled t labels) ↔ Right t labels
unfolding labelled table_looked setting_refusal
labelled_iff t labels = (to, from)
  where
    checked : Outcome
    checked = hours_refusal t.setting.kind t.setting.ticks t.setting.hours

    hours : Passed checked ↔ RightHours t.setting.kind t.setting.ticks t.setting.hours
    hours = hours_iff t.setting.kind t.setting.ticks t.setting.hours

    to : Passed (labelled t labels) → Right t labels
    to p =
        let f = labelled_passed t labels p in
        let looked = (then_passed (lists_refusal t labels) (table_looked t).refusal p).1 in
        let setting = (then_looked (setting_refusal t.setting) 0 (rows_looked t) looked).0 in
        let rest = (then_passed (ticks_refusal t.setting.ticks) _ setting).1 in
        (f.0, hours.0 (then_passed checked (gap_refusal t.setting.gap) rest).0, f.1)

    from : Right t labels → Passed (labelled t labels)
    from h =
        then_passes (lists_refusal t labels) (table_looked t).refusal
        (lists_pass t h.0 labels h.2)
        (table_passes t h.0 (hours.1 h.1))

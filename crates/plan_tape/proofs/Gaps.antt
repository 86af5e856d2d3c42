-- A gap above 600 is refused 14 by the writer, after check 5 and before the rows, the labels and the buffer, whatever
-- they are.
use Prim.Native.Nat.{ℕ, ◌<◌}
use mathlib.Core.Path.{◌≡◌, refl, sym}
use mathlib.Core.List.{List}
use native.Mathlib.Omega.{arith}
use Rattle.std.specs.Prelude.{Err}
use Rattle.window.specs.Gaps.{max_gap}
use Rattle.refusals.specs.declared.Refusal.TheVariants as refusal
use Rattle.refusals.specs.Refusals.{answered, Gap}
use Rattle.refusals.proofs.Refusals.{Passed, then_first, then_next}
use Rattle.table.specs.Tables.{Table}
use Rattle.table.specs.Checks.{lists_refusal, ticks_refusal, hours_refusal}
use Rattle.table.proofs.Gaps.{table_14}
use Rattle.plan_tape.specs.Written.{labelled, write_refusal, writing, written}
use Rattle.plan_tape.proofs.Accepted.{written_refused}

pub refused_14 : (t : Table) (labels before : List ℕ) → Passed (lists_refusal t labels) → Passed (ticks_refusal t.setting.ticks)
    → Passed (hours_refusal t.setting.kind t.setting.ticks t.setting.hours) → max_gap < t.setting.gap
    → written t labels before ≡ writing (answered Gap 0) before
unfolding write_refusal labelled
refused_14 t labels before lists ticks hours long =
    let gap : Err refusal.Gap ≡ labelled t labels = then_next {a = lists_refusal t labels} refl lists (table_14 t ticks hours long) in
    sym (written_refused t labels before (Err refusal.Gap) refl (then_first gap _ (λ z. omega arith)))

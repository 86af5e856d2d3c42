-- Plan tapes are read with a gap of 0: so every tape that a writer with any gap writes is taken, whatever its table's
-- hours.
use Rattle.refusals.specs.Refusals.{Accepted}
use Prim.Native.Nat.{ℕ}
use mathlib.Core.Path.{◌≡◌, refl}
use mathlib.Core.List.{List}
use native.Mathlib.Omega.{arith}
use lib.ListN.{take}
use Rattle.basics.specs.Lists.{at}
use Rattle.window.specs.Hours.{hours_from}
use Rattle.window.proofs.Meaning.{window_end}
use Rattle.table.specs.Tables.{setting_of, Table, table, row_at, Plan, Valid}
use Rattle.table.proofs.Plans.{allowed_alike}
use Rattle.table.proofs.Gaps.{plan_shorter}
use Rattle.plan_tape.specs.Written.{tape_of, written}
use Rattle.plan_tape.proofs.Same.{accepted_tape}
use Rattle.plan_reader.specs.Taken.{WriterMakes}
use Rattle.plan_reader.proofs.Places.{opened}
use Rattle.plan_reader.proofs.Taken.{plan_made}

-- the table with a gap of 0 and both receivers open all the time
abbrev opened_table : Table → Table
opened_table t = table (setting_of t.setting.kind t.setting.ticks 0 (hours_from 0 t.setting.ticks 0 t.setting.ticks)) t.starts t.ends t.marks

module _ (t : Table) (valid : Valid t) where
  opened_valid : Valid (opened_table t)
  opened_valid =
      record {
        few = valid.few;
        each_end = valid.each_end;
        each_mark = valid.each_mark;
        setting = record { ticks_least = valid.setting.ticks_least; ticks_most = valid.setting.ticks_most; gap_most = omega arith };
        row = λ i h. let v = valid.row i h in record { window = v.window; mark = v.mark };
      }

  -- a plan with a gap is a plan with a gap of 0, and one within hours is one without
  opened_plan : (labels : List ℕ) → Plan t labels → Plan (opened_table t) labels
  opened_plan labels plan =
      record {
        each = plan.each;
        allowed = λ i h.
            let a = plan.allowed i h in
            allowed_alike t.setting (row_at t i) (opened_table t).setting (row_at t i) refl (at labels i)
            (opened t.setting.kind t.setting.ticks (row_at t i) (at labels i) a.known
            (window_end t.setting.kind t.setting.ticks (row_at t i).start (row_at t i).end (valid.row i h).window))
            a;
        apart = (plan_shorter t 0 (omega arith) labels plan).apart;
      }

-- WHATEVER THE WRITER WRITES, with any gap and any hours, IS TAKEN
pub every_taken : (t : Table) (labels buffer : List ℕ) → (written t labels buffer).answer.refusal ≡ Accepted
    → WriterMakes (take (written t labels buffer).answer.count (written t labels buffer).buffer)
unfolding tape_of
every_taken t labels buffer e =
    let f = accepted_tape t labels buffer e in
    rw f.1
    (plan_made t.setting.kind t.setting.ticks t.starts t.ends t.marks labels (opened_valid t f.0.valid) (opened_plan t f.0.valid labels f.0.plan))

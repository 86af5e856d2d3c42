-- Believed: Which tapes the plan tape reader takes: those that the writer writes for some table and labels, and no
-- others. A plan tape says nothing of a gap and of hours, so the table has a gap of 0, and in a run both receivers are
-- open from 0 to R (docs/RULES.md, Plan tapes).
use Rattle.refusals.specs.Refusals.{Accepted}
use Rattle.std.specs.Prelude.{ℕ, ◌≡◌, List, take}
use Rattle.window.specs.declared.Kind.{Kind}
use Rattle.window.specs.declared.Kind.TheVariants.{Round, Run}
use Rattle.window.specs.Hours.{hours_from}
use Rattle.table.specs.Tables.{Table}
use Rattle.plan_tape.specs.Written.{written}

-- in a run both receivers are open all the time; in a round hours are neither checked nor used
abbrev pub AllHours : Kind → ℕ → List (List ℕ) → Type 0
AllHours Round R hours = Unit {0}
AllHours Run R hours = hours ≡ hours_from 0 R 0 R

-- There are a table with a gap of 0, labels and a buffer for which the writer accepts and writes exactly these bytes.
-- Numbers of an accepted table and its labels fit their 16 and 8 bits: the checks bound them.
pub record WriterMakes (tape : List ℕ) : Type 0 where
  pub table : Table
  pub labels : List ℕ
  pub buffer : List ℕ
  pub gap : table.setting.gap ≡ 0
  pub hours : AllHours table.setting.kind table.setting.ticks table.setting.hours
  pub accepted : (written table labels buffer).answer.refusal ≡ Accepted
  -- the writer's count is how many bytes it has written
  pub bytes : take (written table labels buffer).answer.count (written table labels buffer).buffer ≡ tape

-- Believed: The number of each refusal (docs/RULES.md, Refusals).
use Rattle.std.specs.Prelude.{ℕ}
use Rattle.refusals.specs.declared.Refusal.{Refusal}
use Rattle.refusals.specs.declared.Refusal.TheVariants.{Lists, Rows, Space, Ticks, Hours, Window, Mark, NoPlan, NotPlan, Buffer, Form, Tape, FirstTick, Gap, NoRow, Candidates}

abbrev pub number : Refusal → ℕ
number Lists = 1
number Rows = 2
number Space = 3
number Ticks = 4
number Hours = 5
number Window = 6
number Mark = 7
number NoPlan = 8
number NotPlan = 9
number Buffer = 10
number Form = 11
number Tape = 12
number FirstTick = 13
number Gap = 14
number NoRow = 15
number Candidates = 16

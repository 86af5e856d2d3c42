-- Believed: What a call reports, accepted or refused; and checks that are made one after the other, of which the first
-- that refuses decides (docs/RULES.md, Refusals).
use Rattle.std.specs.Prelude.{ℕ, Bool, cond, eqb, Result, Ok, Err}
use Rattle.refusals.specs.declared.Refusal.{Refusal}
use Rattle.refusals.specs.declared.Refusal.TheVariants as refusal
use Rattle.refusals.specs.Numbers.{number}

-- what a check reports: accepted, or why the call is refused
abbrev pub Outcome : Type 0
Outcome = Result (Unit {0}) Refusal

abbrev pub Accepted : Outcome
Accepted = Ok tt

abbrev pub Lists : Outcome
Lists = Err refusal.Lists

abbrev pub Rows : Outcome
Rows = Err refusal.Rows

abbrev pub Space : Outcome
Space = Err refusal.Space

abbrev pub Ticks : Outcome
Ticks = Err refusal.Ticks

abbrev pub Hours : Outcome
Hours = Err refusal.Hours

abbrev pub Window : Outcome
Window = Err refusal.Window

abbrev pub Mark : Outcome
Mark = Err refusal.Mark

abbrev pub NoPlan : Outcome
NoPlan = Err refusal.NoPlan

abbrev pub NotPlan : Outcome
NotPlan = Err refusal.NotPlan

abbrev pub Buffer : Outcome
Buffer = Err refusal.Buffer

abbrev pub Form : Outcome
Form = Err refusal.Form

abbrev pub Tape : Outcome
Tape = Err refusal.Tape

abbrev pub FirstTick : Outcome
FirstTick = Err refusal.FirstTick

abbrev pub Gap : Outcome
Gap = Err refusal.Gap

abbrev pub NoRow : Outcome
NoRow = Err refusal.NoRow

abbrev pub Candidates : Outcome
Candidates = Err refusal.Candidates

-- an outcome by its number; 0 is accepted
abbrev pub number_of : Outcome → ℕ
number_of (Ok _) = 0
number_of (Err r) = number r

-- what a call reports; of a refusal the count is 0
pub record Answer : Type 0 where
  pub refusal : Outcome
  pub count : ℕ

abbrev pub answered : Outcome → ℕ → Answer
answered r n = record { refusal = r; count = n }

-- what a call reports that gives a count or a refusal
abbrev pub answer_of : Result ℕ Refusal → Answer
answer_of (Ok n) = answered Accepted n
answer_of (Err r) = answered (Err r) 0

-- ---- checks, one after the other

-- accepted if the test holds, else refused so
abbrev pub asked : Bool → Outcome → Outcome
asked ok r = cond ok Accepted r

-- the check refuses nothing
abbrev pub passes : Outcome → Bool
passes r = eqb (number_of r) 0

infixr 20 ◌then◌
-- the second check counts only where the first refuses nothing
abbrev pub ◌then◌ : Outcome → Outcome → Outcome
a then b = cond (passes a) b a

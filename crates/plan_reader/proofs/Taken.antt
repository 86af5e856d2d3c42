-- The test of a plan tape says which tapes the reader takes: exactly those that the writer can make.
use Rattle.refusals.specs.Refusals.{Accepted}
use Prim.Native.Nat.{ℕ}
use mathlib.Core.Path.{◌≡◌, refl, sym, ◌∙◌}
use mathlib.Core.Logic.{◌↔◌}
use mathlib.Core.Bool.{Bool, true}
use mathlib.Core.List.{List}
use native.Mathlib.Omega.{arith}
use Rattle.window.specs.declared.Kind.{Kind}
use Rattle.window.specs.declared.Kind.TheVariants.{Round, Run}
use Rattle.window.specs.Hours.{hours_from}
use Rattle.tape.specs.Words.{Bytes}
use Rattle.table.specs.Tables.{setting_of, table, Plan, Valid}
use Rattle.plan_tape.specs.Stated.{stated}
use Rattle.plan_tape.specs.Written.{tape_of, written}
use Rattle.plan_tape.proofs.Accepted.{tape_bytes_heard}
use Rattle.plan_tape.proofs.Writes.{writes_plan_tape}
use Rattle.plan_tape.proofs.Same.{accepted_tape}
use Rattle.plan_reader.specs.Judged.{is_plan_tape}
use Rattle.plan_reader.specs.Taken.{AllHours, WriterMakes}
use Rattle.plan_reader.proofs.Parts.{plan_tape_iff}
use Rattle.plan_reader.proofs.Formed.{formed_bytes}
use Rattle.plan_reader.proofs.Made.{made_taken}
use Rattle.table.proofs.Passing.{lists_pass, table_passes}
use Rattle.plan_reader.proofs.Places.{hours_pass}
use Rattle.plan_reader.proofs.Witness.{starts, ends, marks, labels, witness, witness_valid, witness_plan, witness_stated}

all_hours : (kind : Kind) (R : ℕ) → AllHours kind R (hours_from 0 R 0 R)
all_hours Round R = tt
all_hours Run R = refl

-- the tape of a plan, with a gap of 0 and both receivers open all the time; for the buffer serves the tape itself: only
-- its length matters
pub plan_made : (kind : Kind) (R : ℕ) (starts ends marks labels : List ℕ) → let t = table (setting_of kind R 0 (hours_from 0 R 0 R)) starts ends marks in Valid t → Plan t labels → WriterMakes (tape_of t labels)
plan_made kind R starts ends marks labels valid plan =
    let t = table (setting_of kind R 0 (hours_from 0 R 0 R)) starts ends marks in
    let tape = tape_of t labels in
    let writes = writes_plan_tape t labels tape (lists_pass t valid labels plan.each) (table_passes t valid (hours_pass kind R)) in
    let accepted : (written t labels tape).answer.refusal ≡ Accepted = writes.accepted.1 (plan, omega (arith, tape_bytes_heard t labels)) in
    record {
      table = t;
      labels = labels;
      buffer = tape;
      gap = refl;
      hours = all_hours kind R;
      accepted = accepted;
      bytes = (accepted_tape t labels tape accepted).1;
    }

taken_made : (tape : List ℕ) → Bytes tape → is_plan_tape tape ≡ true → WriterMakes tape
unfolding witness
taken_made tape h e =
    let f = (plan_tape_iff tape).0 e in
    let s = stated tape in
    let is-tape : tape_of (witness s) (labels s) ≡ tape = witness_stated s f.1 ∙ sym (formed_bytes tape h f.0) in
    rw is-tape at (plan_made s.kind s.ticks (starts s) (ends s) (marks s) (labels s) (witness_valid s f.1) (witness_plan s f.1))

-- what passes the test is what the writer writes for some table and labels, and nothing else
pub taken_iff : (tape : List ℕ) → Bytes tape → (is_plan_tape tape ≡ true) ↔ WriterMakes tape
taken_iff tape h = (taken_made tape h, λ m. rw m.bytes at (made_taken m.table m.labels m.buffer m.accepted))

-- what the test promises, from what it computes
pub taken_said : {r : Bool} (tape : List ℕ) → Bytes tape → r ≡ is_plan_tape tape → (r ≡ is_plan_tape tape) × ((r ≡ true) ↔ WriterMakes tape)
taken_said tape h e = (e, rw e (taken_iff tape h))

-- Believed: The right answer of a call of the fleet tape reader, whole: the report and what the three lists then hold,
-- on every input (docs/RULES.md, Fleet tapes, Refusals).
use Rattle.std.specs.Prelude.{ℕ, cond, List, leb, length, Result, Ok, Err}
use Rattle.std.proofs.Math.Option.{Option, none, some}
use Rattle.basics.specs.Limits.{max_rows, has_places}
use Rattle.basics.specs.Lists.{front}
use Rattle.window.specs.declared.Kind.{Kind}
use Rattle.window.specs.declared.Kind.TheVariants.{Round}
use Rattle.refusals.specs.declared.Refusal.{Refusal}
use Rattle.refusals.specs.Refusals.{Outcome, Accepted, Lists, Rows, Form}
use Rattle.fleet_tape.specs.declared.Report as told
use Rattle.window.specs.Rows.{starts_of, ends_of, marks_of}
use Rattle.fleet_tape.specs.Form.{Fleet, fleet_of}
use Rattle.window.specs.Hours.{no_hours}

-- what a call reports: accepted or refused, and kind, R, hours, which are all 0 in a round, and how many rows
pub record Report : Type 0 where
  pub refusal : Outcome
  pub kind : Kind
  pub ticks : ℕ
  pub hours : List (List ℕ)
  pub rows : ℕ

-- what a call gives
pub record Reading : Type 0 where
  pub report : Report
  pub starts : List ℕ
  pub ends : List ℕ
  pub marks : List ℕ

abbrev pub reading : Report → List ℕ → List ℕ → List ℕ → Reading
reading report starts ends marks = record { report = report; starts = starts; ends = ends; marks = marks }

-- a refusal reports kind round and zeros
abbrev pub refused : Outcome → Report
refused refusal = record { refusal = refusal; kind = Round; ticks = 0; hours = no_hours; rows = 0 }

-- what a call reports that gives a report or a refusal
abbrev pub report_of : Result told.Report Refusal → Report
report_of (Ok r) = record { refusal = Accepted; kind = r.kind; ticks = r.ticks; hours = r.hours; rows = r.rows }
report_of (Err e) = refused (Err e)

-- an accepted call reports what the tape states
abbrev pub accepted : Fleet → Report
accepted fleet =
    record {
      refusal = Accepted;
      kind = fleet.kind;
      ticks = fleet.ticks;
      hours = fleet.hours;
      rows = length fleet.rows;
    }

-- and fills starts, ends and marks for the rows present; the other places are untouched
unfoldable pub taken : Fleet → List ℕ → List ℕ → List ℕ → Reading
taken fleet starts ends marks =
    reading (accepted fleet)
    (front (starts_of fleet.rows) starts)
    (front (ends_of fleet.rows) ends)
    (front (marks_of fleet.rows) marks)

-- 11: a tape that is not of the form; 2: more than 64 rows
unfoldable pub judged : Option Fleet → List ℕ → List ℕ → List ℕ → Reading
unfolding taken
judged none starts ends marks = reading (refused Form) starts ends marks
judged (some fleet) starts ends marks =
    cond (leb (length fleet.rows) max_rows) (taken fleet starts ends marks) (reading (refused Rows) starts ends marks)

-- The reader's answer for a tape and three lists, whose places are looked at before the tape. 1: a list has other than
-- 64 places. So the order is 1, 11, 2; a refused call leaves the lists untouched.
unfoldable pub fleet_read : List ℕ → List ℕ → List ℕ → List ℕ → Reading
unfolding judged fleet_of
fleet_read tape starts ends marks =
    cond (has_places (length starts) (length ends) (length marks))
    (judged (fleet_of tape) starts ends marks)
    (reading (refused Lists) starts ends marks)

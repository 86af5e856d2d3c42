-- Believed: What is promised of a call of the reader, by what a fleet tape is (`Fleet.antt`): into lists of 64 places
-- it takes just the tapes of the form with up to 64 rows, and gives what they state.
use Rattle.std.specs.Prelude.{ℕ, ◌≤◌, ◌<◌, ◌≡◌, ◌↔◌, List, length}
use Rattle.basics.specs.Limits.{max_rows}
use Rattle.window.specs.declared.Kind.{Kind}
use Rattle.window.specs.declared.Row.{Row}
use Rattle.refusals.specs.Refusals.{Accepted, Rows, Form}
use Rattle.fleet_tape.specs.Fleet.{fleet_tape, Fits, first_rows}
use Rattle.fleet_tape.specs.Reading.{Reading}

-- the bytes are a fleet tape with n rows
pub record IsFleetTape (tape : List ℕ) (n : ℕ) : Type 0 where
  pub kind : Kind
  pub ticks : ℕ
  pub hours : List (List ℕ)
  pub rows : List Row
  pub fits : Fits ticks hours rows
  pub each : length rows ≡ n
  pub tape_is : tape ≡ fleet_tape kind ticks hours rows

-- the rows that a call reports and has filled in
abbrev pub rows_given : Reading → List Row
rows_given out = first_rows out.report.rows out.starts out.ends out.marks

-- the tape is the fleet tape of what was reported and filled in
pub record Stated (tape : List ℕ) (out : Reading) : Type 0 where
  pub tape_is : tape ≡ fleet_tape out.report.kind out.report.ticks out.report.hours (rows_given out)
  pub fits : Fits out.report.ticks out.report.hours (rows_given out)
  pub counted : length (rows_given out) ≡ out.report.rows
  pub few : out.report.rows ≤ max_rows

-- What is promised of a call that is lent lists of 64 places, of which `out` is what it gives.
pub record ReadsFleetTape (tape : List ℕ) (out : Reading) : Type 0 where
  -- exactly the tapes of the form with up to 64 rows are taken,
  pub takes : (out.report.refusal ≡ Accepted) ↔ ((n : ℕ) × (n ≤ max_rows) × IsFleetTape tape n)
  -- and what they state is reported and filled in,
  pub states : out.report.refusal ≡ Accepted → Stated tape out
  -- exactly the bytes that are no fleet tape are refused 11,
  pub form : (out.report.refusal ≡ Form) ↔ ((n : ℕ) → IsFleetTape tape n → ⊥)
  -- and exactly the tapes of the form with more rows 2.
  pub many : (out.report.refusal ≡ Rows) ↔ ((n : ℕ) × (max_rows < n) × IsFleetTape tape n)

-- Inner: What the functions of the crate `candidates` lend each other.
use Rattle.std.specs.Prelude.{ℕ, ◌≤◌, ◌<◌, ◌≡◌, List, length, Result, Ok, Err}
use Rattle.basics.specs.Limits.{max_rows}
use Rattle.refusals.specs.declared.Refusal.{Refusal}
use Rattle.refusals.specs.Numbers.{number}
use Rattle.refusals.specs.Refusals.{number_of}
use Rattle.table.specs.Tables.{Table, rows}
use Rattle.table.specs.Checks.{table_looked}
use Rattle.table.specs.Planned.{space_bytes}
use Rattle.candidates.specs.Tried.{Tried, max_candidates, CandidateLists, size}

-- candidates and lists for their answers that passed check 16
pub record CandidatesLent (c : CandidateLists) (numbers counts : List ℕ) : Type 0 where
  pub few : size c ≤ max_candidates
  pub each_end : length c.ends ≡ size c
  pub each_mark : length c.marks ≡ size c
  pub each_number : length numbers ≡ size c
  pub each_count : length counts ≡ size c

-- a table that passed checks 1 and 2, and the working space that planning it needs
pub record TableLent (t : Table) (space : List ℕ) : Type 0 where
  pub few : rows t ≤ max_rows
  pub each_end : length t.ends ≡ rows t
  pub each_mark : length t.marks ≡ rows t
  pub room : space_bytes ≤ length space

-- and that passed them all
pub record TablePassed (t : Table) (space : List ℕ) : Type 0 where
  pub lent : TableLent t space
  pub looked : number_of (table_looked t).refusal ≡ 0

-- and can have a row more
pub record RowAddable (t : Table) (space : List ℕ) : Type 0 where
  pub passed : TablePassed t space
  pub below : rows t < max_rows

-- a candidate's count, or why it is refused, as it is answered
abbrev pub told : Result ℕ Refusal → Tried
told (Ok n) = record { number = 0; count = n }
told (Err e) = record { number = number e; count = 0 }

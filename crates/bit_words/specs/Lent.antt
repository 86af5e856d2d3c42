-- Inner: What the functions of the crate `bit_words` lend each other.
use Rattle.std.specs.Prelude.{ℕ, ◌^◌, ◌≤◌, ◌<◌, ◌≡◌, Bool, leb, length}
use Rattle.basics.specs.Limits.{max_rows}
use Rattle.refusals.specs.Refusals.{Outcome, asked, ◌then◌, Rows}
use Rattle.table.specs.Tables.{Table, rows}
use Rattle.table.specs.Checks.{ticks_refusal, gap_refusal, rows_looked}
use Rattle.bit_words.specs.Bits.{word_bits, word_of}

-- the word has no bit from i on, and bit i is one of the 64
pub record BitAbove (word i : ℕ) : Type 0 where
  pub below : word < 2 ^ i
  pub inside : i < word_bits

-- the word of n rows by any test that says what the calls of the code's own test return
abbrev pub WordBy : (ℕ → Bool → Type 0) → ℕ → ℕ → Type 0
WordBy returns n word = (test : ℕ → Bool) → ((i : ℕ) (b : Bool) → i < n → returns i b → b ≡ test i) → word ≡ word_of n test

-- windows that passed checks 1 and 2
pub record RowsLent (t : Table) : Type 0 where
  pub few : rows t ≤ max_rows
  pub each_end : length t.ends ≡ rows t
  pub each_mark : length t.marks ≡ rows t

-- the checks that follow: 4, 14, and then the rows from 0, each for 6
abbrev pub windows_refusal : Table → Outcome
windows_refusal t = ticks_refusal t.setting.ticks then gap_refusal t.setting.gap then (rows_looked t).refusal

-- check 2 alone
abbrev pub rows_refusal : ℕ → Outcome
rows_refusal n = asked (leb n max_rows) Rows

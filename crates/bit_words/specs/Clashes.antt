-- Believed: Clash words: for each row a word of the other rows whose windows overlap its own or have fewer than g ticks
-- between them; and what a call gives, whole, on every input (docs/RULES.md, Words).
use Rattle.std.specs.Prelude.{ℕ, ◌<◌, ◌≡◌, ◌≢◌, ◌↔◌, Bool, cond, not, ◌&&◌, List, eqb, length, replicate}
use Rattle.basics.specs.Lists.{at, list_of}
use Rattle.refusals.specs.Refusals.{passes, ◌then◌, Outcome}
use Rattle.table.specs.declared.Setting.{Setting}
use Rattle.table.specs.Tables.{Table, table, rows, row_at, Clash, clashes}
use Rattle.table.specs.Checks.{lengths_refusal, ticks_refusal, gap_refusal, rows_looked}
use Rattle.bit_words.specs.Bits.{bit, word_of}

-- windows alone, lent as starts and ends: a table in which each row may be heard. With other marks and hours the words
-- are the same (`any_marks`, `any_hours`, proofs/Laws.antt).
abbrev pub windows_of : Setting → List ℕ → List ℕ → Table
windows_of S starts ends = table S starts ends (replicate (length starts) 0)

-- ---- the meaning

-- bit j of row i's word is 1 exactly if j is another row of the table and the two clash; so from the number of rows on
-- every bit is 0
pub record ClashWords (t : Table) (words : List ℕ) : Type 0 where
  pub each : length words ≡ rows t
  pub bits : (i j : ℕ) → i < rows t → (bit (at words i) j ≡ 1) ↔ ((j < rows t) × (i ≢ j) × Clash t.setting (row_at t i) (row_at t j))

-- ---- the words, by the test for a clash

-- rows i and j are different rows that clash
unfoldable pub is_clash : Table → ℕ → ℕ → Bool
unfolding clashes
is_clash t i j = not (eqb i j) && clashes t.setting (row_at t i) (row_at t j)

-- the word of row i, with a bit for each row
unfoldable pub clash_word : Table → ℕ → ℕ
unfolding word_of is_clash
clash_word t i = word_of (rows t) (is_clash t i)

abbrev pub clash_words_of : Table → List ℕ
clash_words_of t = list_of (rows t) (clash_word t)

-- 1 of starts, ends and a list of so many words, 2, 4, 14, and then the rows from 0, each for 6
unfoldable pub clash_refusal : Table → ℕ → Outcome
unfolding lengths_refusal ticks_refusal gap_refusal rows_looked
clash_refusal t words =
    lengths_refusal (rows t) (length t.ends) (length t.marks) words
    then ticks_refusal t.setting.ticks
    then gap_refusal t.setting.gap
    then (rows_looked t).refusal

-- a call's refusal, and what the list of words then holds
pub record ClashCalled : Type 0 where
  pub refusal : Outcome
  pub words : List ℕ

abbrev pub clash_given : Outcome → List ℕ → ClashCalled
clash_given refusal words = record { refusal = refusal; words = words }

-- THE RIGHT ANSWER of a call, for a list of words that held `before`; a refusal writes nothing
unfoldable pub clash_call : Table → List ℕ → ClashCalled
unfolding clash_refusal clash_word list_of
clash_call t before =
    clash_given (clash_refusal t (length before)) (cond (passes (clash_refusal t (length before))) (clash_words_of t) before)

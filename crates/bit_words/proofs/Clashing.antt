-- Clash words: what their checks leave known, and what the bits of a clash word say.
use Prim.Native.Nat.{ℕ, ◌<◌}
use mathlib.Core.Path.{◌≡◌}
use mathlib.Core.Logic.{◌≢◌, ◌↔◌}
use mathlib.Core.Bool.{true}
use Rattle.std.proofs.lemmas.Bool.Decides.{Decides-eqb}
use Rattle.basics.proofs.Tests.{not_iff, and_iff}
use Rattle.basics.proofs.Lists.{length_list, at_list}
use Rattle.refusals.specs.Refusals.{◌then◌}
use Rattle.refusals.proofs.Refusals.{Passed, then_passed}
use Rattle.table.specs.Tables.{Table, rows, row_at, Clash, ValidRow}
use Rattle.table.specs.Checks.{ticks_refusal, gap_refusal, rows_looked}
use Rattle.table.proofs.Checked.{rows_passed, row_passed}
use Rattle.table.proofs.Plans.{clashes_iff}
use Rattle.bit_words.specs.Bits.{bit}
use Rattle.bit_words.specs.Clashes.{ClashWords, is_clash, clash_word, clash_words_of}
use Rattle.bit_words.specs.Lent.{windows_refusal}
use Rattle.bit_words.proofs.BitLaws.{word_iff}

-- ---- what the checks leave known

pub valid_rows : (t : Table) → Passed (windows_refusal t) → (i : ℕ) → i < rows t → ValidRow t.setting (row_at t i)
valid_rows t p i h =
    let f = then_passed (ticks_refusal t.setting.ticks) (gap_refusal t.setting.gap then (rows_looked t).refusal) p in
    let g = then_passed (gap_refusal t.setting.gap) (rows_looked t).refusal f.1 in
    row_passed t.setting (row_at t i) ((rows_passed t g.1).1 i h)

-- ---- what the bits say

module _ (t : Table) (valid : (i : ℕ) → i < rows t → ValidRow t.setting (row_at t i)) where
  clash_bit : (i j : ℕ) → i < rows t → (bit (clash_word t i) j ≡ 1) ↔ ((j < rows t) × (i ≢ j) × Clash t.setting (row_at t i) (row_at t j))
  unfolding clash_word is_clash
  clash_bit i j h = (
    λ e. let f = (word_iff (is_clash t i) (rows t) j).0 e in let s = (says j f.0).0 f.1 in (f.0, s.0, s.1),
    λ f. (word_iff (is_clash t i) (rows t) j).1 (f.0, (says j f.0).1 (f.1, f.2)),
  )
    where
      says : (j : ℕ) → j < rows t → (is_clash t i j ≡ true) ↔ ((i ≢ j) × Clash t.setting (row_at t i) (row_at t j))
      says j l = and_iff (not_iff (Decides-eqb i j)) (clashes_iff t.setting (row_at t i) (row_at t j) (valid i h) (valid j l))

  pub clash_words : ClashWords t (clash_words_of t)
  clash_words =
      record {
        each = length_list (rows t) (clash_word t);
        bits = λ i j h. rw (at_list (rows t) (clash_word t) i h) (clash_bit i j h);
      }

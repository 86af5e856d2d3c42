-- The rule of the table of operand widths, proved once, by one computed test.
use Prim.Native.Nat.{ℕ, ◌≤◌, ◌<◌}
use mathlib.Core.Path.{◌≡◌, refl, ap}
use mathlib.Core.Bool.{true, false, not, Bool, ◌||◌}
use native.Mathlib.Omega.{arith}
use native.Mathlib.Decide.{dec_lt}
use borrow.Author.Tests.{ne_eqb}
use lib.ListN.{get_or}
use lib.Dec.{eqb}
use Rattle.basics.specs.Tests.{every}
use Rattle.std.proofs.lemmas.Bool.Decides.{Decides-eqb}
use Rattle.basics.proofs.Tests.{every_iff, imp_iff, leb_iff}
use Rattle.tape.proofs.WidthTable.{widths}
use Rattle.tape.specs.Commands.{operand_bytes, ROUND, RUN, RECEIVER, LISTEN, WINDOW, MUST, WINDOW1, MUST1, WINDOW2, MUST2, HOURS, STOP}

unfoldable pub is_command : ℕ → Bool
is_command b =
    eqb b ROUND || eqb b RUN || eqb b RECEIVER || eqb b LISTEN || eqb b WINDOW || eqb b MUST || eqb b WINDOW1 || eqb b MUST1 || eqb b WINDOW2 || eqb b MUST2 || eqb b HOURS || eqb b STOP

pub widths_right : (b : ℕ) → b < 128 → get_or widths b 0 ≡ operand_bytes b
unfolding operand_bytes every
widths_right = (every_iff 128 (λ i h. Decides-eqb (get_or widths i 0) (operand_bytes i))).0 refl

-- past the table there is no command
pub no_operands : (b : ℕ) → 127 < b → operand_bytes b ≡ 0
unfolding operand_bytes
no_operands b h =
    simp (
      ne_eqb b 0x10 (omega arith),
      ne_eqb b 0x11 (omega arith),
      ne_eqb b 0x20 (omega arith),
      ne_eqb b 0x30 (omega arith),
      ne_eqb b 0x40 (omega arith),
      ne_eqb b 0x41 (omega arith),
      ne_eqb b 0x42 (omega arith),
      ne_eqb b 0x43 (omega arith),
      ne_eqb b 0x44 (omega arith),
      ne_eqb b 0x45 (omega arith),
      ne_eqb b 0x50 (omega arith),
      ne_eqb b 0x7F (omega arith),
    )

-- any other byte is no command and has no operands
pub no_command : (b : ℕ) → is_command b ≡ false → operand_bytes b ≡ 0
unfolding operand_bytes is_command every
no_command b e = go (dec_lt b 128)
  where
    below : (i : ℕ) → i < 128 → not (is_command i) ≡ true → operand_bytes i ≡ 0
    below = (every_iff 128 (λ i h. imp_iff (λ x. x, λ x. x) (Decides-eqb (operand_bytes i) 0))).0 refl

    go : Dec (b < 128) → operand_bytes b ≡ 0
    go (yes h) = below b h (ap not e)
    go (no h) = no_operands b (omega arith)

-- no command has more than 8
pub few_operands : (b : ℕ) → operand_bytes b ≤ 8
unfolding operand_bytes every
few_operands b = go (dec_lt b 128)
  where
    below : (i : ℕ) → i < 128 → operand_bytes i ≤ 8
    below = (every_iff 128 (λ i h. leb_iff (operand_bytes i) 8)).0 refl

    go : Dec (b < 128) → operand_bytes b ≤ 8
    go (yes h) = below b h
    go (no h) = omega (arith, no_operands b (omega arith))

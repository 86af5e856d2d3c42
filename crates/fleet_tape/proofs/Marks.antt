-- The commands of rows and their marks: the range and the difference by which bytes are read agree with the commands by
-- which a tape is defined. One computed test speaks of every command, and one of every mark.
use Prim.Native.Nat.{ℕ, suc, ◌+◌, ◌≤◌, ◌<◌}
use mathlib.Core.Path.{◌≡◌, refl, ap}
use mathlib.Core.Logic.{◌↔◌}
use mathlib.Core.Bool.{true}
use native.Mathlib.Omega.{arith}
use Rattle.basics.specs.Tests.{every}
use Rattle.std.proofs.lemmas.Bool.Decides.{Decides-eqb}
use Rattle.basics.proofs.Tests.{every_iff, and_iff, imp_iff, leb_iff}
use Rattle.tape.specs.Commands.{WINDOW, MUST2, operand_bytes, command_bytes}
use Rattle.fleet_tape.specs.Fleet.{row_command}
use Rattle.fleet_tape.specs.Form.{is_row, mark_of}

pub row_iff : (x : ℕ) → (is_row x ≡ true) ↔ ((WINDOW ≤ x) × (x ≤ MUST2))
row_iff x = and_iff (leb_iff WINDOW x) (leb_iff x MUST2)

-- what is known of a row's command
pub record Marked (x : ℕ) : Type 0 where
  pub width : operand_bytes x ≡ 4
  pub command : x ≡ row_command (mark_of x)
  pub small : mark_of x ≤ 5

pub marked : (x : ℕ) → is_row x ≡ true → Marked x
unfolding every operand_bytes
marked x e =
    let k = known x (omega (arith, (row_iff x).0 e)) e in
    record { width = k.0; command = k.1.0; small = k.1.1 }
  where
    known : (c : ℕ) → c < suc MUST2 → is_row c ≡ true → (operand_bytes c ≡ 4) × ((c ≡ row_command (mark_of c)) × (mark_of c ≤ 5))
    known =
        (every_iff (suc MUST2)
        (λ c h. imp_iff (λ e. e, λ e. e) (and_iff (Decides-eqb (operand_bytes c) 4) (and_iff (Decides-eqb c (row_command (mark_of c))) (leb_iff (mark_of c) 5))))
        ).0
        refl

-- the command of a mark is a row's, and gives the mark back
pub mark_back : (m : ℕ) → m < 6 → (is_row (row_command m) ≡ true) × (mark_of (row_command m) ≡ m)
unfolding every
mark_back = (every_iff 6 (λ m h. and_iff (λ e. e, λ e. e) (Decides-eqb (mark_of (row_command m)) m))).0 refl

-- the command of a row takes five bytes with its operands
pub row_bytes : (x : ℕ) → is_row x ≡ true → command_bytes x ≡ 5
row_bytes x h = ap (λ n. 1 + n) (marked x h).width

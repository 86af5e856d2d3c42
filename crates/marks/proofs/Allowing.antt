-- Laws of marks: what the tests say, and the least mark that says so.
use Prim.Native.Nat.{ℕ, ◌≤◌}
use mathlib.Core.Path.{◌≡◌}
use mathlib.Core.Logic.{◌≢◌, ◌↔◌, ◌⊎◌, ⊎_elim}
use mathlib.Core.Bool.{true}
use native.Mathlib.Omega.{arith}
use Rattle.std.proofs.lemmas.Bool.Decides.{Decides-eqb}
use Rattle.basics.proofs.Tests.{and_iff, or_iff, not_iff, imp_iff}
use Rattle.marks.specs.Marks.{Must, Receiver1Only, Receiver2Only, is_must, is_receiver1_only, is_receiver2_only, mark_allows}

module _ (mark : ℕ) where
  pub must_iff : (is_must mark ≡ true) ↔ Must mark
  must_iff = or_iff (Decides-eqb mark 1) (or_iff (Decides-eqb mark 3) (Decides-eqb mark 5))

  pub receiver_1_iff : (is_receiver1_only mark ≡ true) ↔ Receiver1Only mark
  receiver_1_iff = or_iff (Decides-eqb mark 2) (Decides-eqb mark 3)

  pub receiver_2_iff : (is_receiver2_only mark ≡ true) ↔ Receiver2Only mark
  receiver_2_iff = or_iff (Decides-eqb mark 4) (Decides-eqb mark 5)

  pub allows_iff : (x : ℕ) → (mark_allows mark x ≡ true) ↔ (((Must mark → x ≢ 0) × (Receiver1Only mark → x ≢ 2)) × (Receiver2Only mark → x ≢ 1))
  unfolding mark_allows
  allows_iff x =
      and_iff
      (and_iff (imp_iff must_iff (not_iff (Decides-eqb x 0))) (imp_iff receiver_1_iff (not_iff (Decides-eqb x 2))))
      (imp_iff receiver_2_iff (not_iff (Decides-eqb x 1)))

  -- ---- the least mark that says so

  -- of two marks in order, for either receiver
  pub either_least : (a b : ℕ) → a ≤ b → (mark ≡ a) ⊎ (mark ≡ b) → a ≤ mark
  either_least a b l = ⊎_elim (λ e. omega arith) (λ e. omega arith)

  pub must_least : Must mark → 1 ≤ mark
  must_least = ⊎_elim (λ e. omega arith) (λ e. omega (arith, either_least 3 5 (omega arith) e))

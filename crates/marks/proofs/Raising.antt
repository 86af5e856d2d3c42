-- Laws of a raised mark: the row must be heard, by the receivers that could hear it before, and marks above 5 stay
-- above.
use Prim.Native.Nat.{ℕ, zero, suc, ◌≤◌, ◌<◌}
use mathlib.Core.Path.{◌≡◌, refl, sym, ap, ◌∙◌}
use mathlib.Core.Logic.{◌↔◌, ⊎_elim}
use mathlib.Core.Bool.{Bool, true}
use native.Mathlib.Omega.{arith}
use lib.Dec.{leb}
use borrow.Author.Tests.{ne_eqb}
use Rattle.marks.specs.Marks.{max_mark, Must, Receiver1Only, Receiver2Only, is_must, is_receiver1_only, is_receiver2_only, raised}
use Rattle.marks.proofs.Allowing.{must_iff, receiver_1_iff, receiver_2_iff}

-- each of the marks, and what is none
each : (P : ℕ → Type 0) → P 0 → P 1 → P 2 → P 3 → P 4 → P 5 → ((m : ℕ) → max_mark < m → P m) → (mark : ℕ) → P mark
each P a b c d e f g zero = a
each P a b c d e f g (suc zero) = b
each P a b c d e f g (suc (suc zero)) = c
each P a b c d e f g (suc (suc (suc zero))) = d
each P a b c d e f g (suc (suc (suc (suc zero)))) = e
each P a b c d e f g (suc (suc (suc (suc (suc zero))))) = f
each P a b c d e f g (suc (suc (suc (suc (suc (suc n)))))) = g (suc (suc (suc (suc (suc (suc n)))))) (omega arith)

above_stays : (mark : ℕ) → max_mark < mark → raised mark ≡ mark
unfolding raised
above_stays mark h = rw (ne_eqb mark 0 (λ e. omega arith), ne_eqb mark 2 (λ e. omega arith), ne_eqb mark 4 (λ e. omega arith)) refl

-- a raised mark is refused with 7 exactly if the mark itself is
pub raised_within : (mark : ℕ) → leb (raised mark) max_mark ≡ leb mark max_mark
unfolding raised
raised_within = each (λ m. leb (raised m) max_mark ≡ leb m max_mark) refl refl refl refl refl refl (λ m h. ap (λ x. leb x max_mark) (above_stays m h))

-- a row of a raised mark must be heard
pub raised_must : (mark : ℕ) → mark ≤ max_mark → Must (raised mark)
unfolding raised
raised_must mark h = (must_iff (raised mark)).0 (each (λ m. m ≤ max_mark → is_must (raised m) ≡ true) (λ k. refl) (λ k. refl) (λ k. refl) (λ k. refl) (λ k. refl) (λ k. refl) (λ m a k. absurd (omega arith)) mark h)

-- the receivers stay
same_iff : {P Q : Type 0} {a b : Bool} → a ≡ b → (a ≡ true) ↔ P → (b ≡ true) ↔ Q → P ↔ Q
same_iff e p q = (λ x. q.0 (sym e ∙ p.1 x), λ y. p.0 (e ∙ q.1 y))

pub raised_1 : (mark : ℕ) → Receiver1Only (raised mark) ↔ Receiver1Only mark
unfolding raised
raised_1 mark = same_iff (each (λ m. is_receiver1_only (raised m) ≡ is_receiver1_only m) refl refl refl refl refl refl (λ m h. ap (λ x. is_receiver1_only x) (above_stays m h)) mark) (receiver_1_iff (raised mark)) (receiver_1_iff mark)

pub raised_2 : (mark : ℕ) → Receiver2Only (raised mark) ↔ Receiver2Only mark
unfolding raised
raised_2 mark = same_iff (each (λ m. is_receiver2_only (raised m) ≡ is_receiver2_only m) refl refl refl refl refl refl (λ m h. ap (λ x. is_receiver2_only x) (above_stays m h)) mark) (receiver_2_iff (raised mark)) (receiver_2_iff mark)

-- a mark that says must stays as it is
pub raised_stays : (mark : ℕ) → Must mark → raised mark ≡ mark
unfolding raised
raised_stays mark h = ⊎_elim (λ e. rw e refl) (⊎_elim (λ e. rw e refl) (λ e. rw e refl)) h

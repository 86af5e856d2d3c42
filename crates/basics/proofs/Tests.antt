-- Bool tests and what they say: a test written clause for clause like a statement is true exactly if the statement
-- holds.
use Prim.Native.Nat.{ℕ, zero, suc, ◌+◌, ◌≤◌, ◌<◌}
use mathlib.Core.Path.{◌≡◌, refl, sym}
use mathlib.Core.Logic.Iff
use mathlib.Core.Logic.{◌↔◌, ◌⊎◌, ⊎_elim}
use mathlib.Core.Bool.{Bool, true, false, cond, not, ◌&&◌, ◌||◌, and-false, false≢true}
use native.Mathlib.Omega.{arith}
use native.Mathlib.Numerals.{add-one}
use native.Mathlib.Nat.{eq-or-lt_of_le, le_of_suc-le-suc}
use lib.Dec.{leb}
use borrow.Author.Tests.{leb-true, leb-false, le-leb}
use Rattle.std.proofs.lemmas.Bool.Decides.{same_from_decides, Decides-not, Decides-and, Decides-or}
use Rattle.basics.specs.Tests.{◌⇒◌, every}

-- what a test a ≤ b told
pub data Test (a b : ℕ) : Bool → Type 0 where
  pass : a ≤ b → Test a b true
  fail : b < a → Test a b false

pub test : (a b : ℕ) → Test a b (leb a b)
test a b = go (leb a b) refl
  where
    go : (t : Bool) → leb a b ≡ t → Test a b t
    go true e = pass (leb-true a b e)
    go false e = fail (leb-false a b e)

pub leb_iff : (a b : ℕ) → (leb a b ≡ true) ↔ (a ≤ b)
leb_iff a b = (leb-true a b, le-leb a b)

-- two tests that say the same are equal
pub bool_ext : (a b : Bool) → (a ≡ true → b ≡ true) → (b ≡ true → a ≡ true) → a ≡ b
bool_ext a b f g = same_from_decides a b (f, g) (λ e. e, λ e. e)

-- `bool_ext` above and these three are laws of the standard library, with the tests left to be found.
module _ {P : Type 0} where
  pub not_iff : {a : Bool} → (a ≡ true) ↔ P → (not a ≡ true) ↔ (P → ⊥)
  not_iff {a} = Decides-not a

  module _ {Q : Type 0} where
    pub and_iff : {a b : Bool} → (a ≡ true) ↔ P → (b ≡ true) ↔ Q → (a && b ≡ true) ↔ (P × Q)
    and_iff {a} {b} = Decides-and a b

    pub or_iff : {a b : Bool} → (a ≡ true) ↔ P → (b ≡ true) ↔ Q → (a || b ≡ true) ↔ (P ⊎ Q)
    or_iff {a} {b} = Decides-or a b

    pub imp_iff : {a b : Bool} → (a ≡ true) ↔ P → (b ≡ true) ↔ Q → ((a ⇒ b) ≡ true) ↔ (P → Q)
    imp_iff {a = true} f g = (λ e p. g.0 e, λ h. g.1 (h (f.0 refl)))
    imp_iff {a = false} f g = (λ e p. absurd (false≢true (f.1 p)), λ h. refl)

all_suc : (P : ℕ → Type 0) (n : ℕ) → (P n × ((i : ℕ) → i < n → P i)) ↔ ((i : ℕ) → i < suc n → P i)
all_suc P n = (λ h i l. ⊎_elim (λ e. rw e h.0) (λ k. h.1 i k) (eq-or-lt_of_le (le_of_suc-le-suc l)), λ h. (h n (omega arith), λ i l. h i (omega arith)))

pub every_iff : (n : ℕ) {p : ℕ → Bool} {P : ℕ → Type 0} → ((i : ℕ) → i < n → (p i ≡ true) ↔ P i) → (every n p ≡ true) ↔ ((i : ℕ) → i < n → P i)
unfolding every
every_iff zero f = (λ e i h. absurd (omega arith), λ g. refl)
every_iff (suc n) {P} f = Iff.trans (and_iff (f n (omega arith)) (every_iff n (λ i h. f i (omega arith)))) (all_suc P n)

-- one number more, from 0 on
pub every_more : (p : ℕ → Bool) (i : ℕ) → every i p ≡ true → p i ≡ true → every (i + 1) p ≡ true
unfolding every
every_more p i e q = rw (add-one i, q) e

pub every_fails : (p : ℕ → Bool) (i n : ℕ) → i < n → p i ≡ false → false ≡ every n p
unfolding every
every_fails p i zero h e = absurd (omega arith)
every_fails p i (suc n) h e = ⊎_elim
    (λ q. rw (← q, e) refl)
    (λ l. rw (← every_fails p i n l e) (sym (and-false (p n))))
    (eq-or-lt_of_le (le_of_suc-le-suc h))

-- ---- numbers that a test picks

pub cond_le : (b : Bool) {x n : ℕ} → x ≤ n → cond b x 0 ≤ n
cond_le true h = h
cond_le false h = omega arith

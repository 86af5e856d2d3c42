-- Laws of `heard`, the number of labels that are 1 or 2.
use Prim.Native.Nat.{ℕ, zero, suc, ◌+◌, ◌≤◌, ◌<◌}
use mathlib.Core.Path.{◌≡◌, refl}
use mathlib.Core.Bool.{cond, ◌||◌}
use borrow.Author.Tests.{ne_eqb}
use lib.Dec.{eqb}
use Rattle.std.specs.List.{count_by}
use Rattle.std.proofs.lemmas.List.Recursion.{is_count_by}
use mathlib.Core.List.{List, [], ◌∷◌, ◌++◌}
use native.Mathlib.Omega.{arith}
use native.Mathlib.Nat.{zero-add}
use native.Mathlib.Numerals.{add-one}
use lib.ListN.{length, get_or, take}
use lib.Seq.{take-suc, take-length}
use Rattle.labels.specs.Labels.{hears, heard}

pub hears_le : (x : ℕ) → hears x ≤ 1
unfolding hears
hears_le zero = omega arith
hears_le (suc zero) = omega arith
hears_le (suc (suc zero)) = omega arith
hears_le (suc (suc (suc x))) = omega arith

pub heard_append : (a b : List ℕ) → heard (a ++ b) ≡ heard a + heard b
unfolding heard
heard_append [] b = omega arith
heard_append (x ∷ a) b = omega (arith, heard_append a b)

pub heard_le : (a : List ℕ) → heard a ≤ length a
unfolding heard
heard_le [] = omega arith
heard_le (x ∷ a) = omega (arith, heard_le a, hears_le x)

pub heard_nil : heard [] ≡ 0
unfolding heard
heard_nil = refl

-- it is how many labels pass a test
pub heard_count : (a : List ℕ) → heard a ≡ count_by (λ x. eqb x 1 || eqb x 2) a
unfolding heard hears
heard_count = is_count_by heard (λ x. eqb x 1 || eqb x 2) refl step
  where
    step : (x : ℕ) (a : List ℕ) → heard (x ∷ a) ≡ cond (eqb x 1 || eqb x 2) (1 + heard a) (heard a)
    step zero a = zero-add (heard a)
    step (suc zero) a = refl
    step (suc (suc zero)) a = refl
    step (suc (suc (suc x))) a = rw (ne_eqb (suc (suc (suc x))) 1 (λ e. omega arith), ne_eqb (suc (suc (suc x))) 2 (λ e. omega arith)) (zero-add (heard a))

heard_one : (x : ℕ) → heard (x ∷ []) ≡ hears x
unfolding heard
heard_one x = omega arith

-- one row more
pub heard_more : (a : List ℕ) (i : ℕ) → i < length a → heard (take (i + 1) a) ≡ heard (take i a) + hears (get_or a i 0)
heard_more a i h = rw (add-one i, take-suc a i 0 h, heard_append (take i a) (get_or a i 0 ∷ []), heard_one (get_or a i 0)) refl

pub heard_all : (a : List ℕ) (i : ℕ) → i ≡ length a → heard (take i a) ≡ heard a
heard_all a i h = rw (h, take-length a) refl

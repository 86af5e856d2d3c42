-- Laws of the entries of a list, of the list of so many entries, and of a list without one of its entries.
use Prim.Native.Nat.{ℕ, zero, suc, ◌+◌, ◌≤◌, ◌<◌}
use mathlib.Core.Path.{◌≡◌, refl, ap}
use mathlib.Core.List.{List, [], ◌∷◌, ◌++◌, map}
use mathlib.Core.Logic.{◌≢◌}
use native.Mathlib.Omega.{arith}
use lib.ListN.{length, take, drop, replicate}
use Rattle.std.proofs.lemmas.List.{get_or-map}
use Rattle.std.proofs.lemmas.List.Edits.{length-remove}
use Rattle.basics.specs.Lists.{at, list_of, without}

pub at_map : (f : ℕ → ℕ) (l : List ℕ) (i : ℕ) → i < length l → at (map f l) i ≡ f (at l i)
at_map f l i h = get_or-map f l i 0 0 h

-- ---- the list of so many entries

pub length_list : (n : ℕ) (f : ℕ → ℕ) → length (list_of n f) ≡ n
unfolding list_of
length_list zero f = refl
length_list (suc n) f = ap suc (length_list n (λ i. f (suc i)))

pub at_list : (n : ℕ) (f : ℕ → ℕ) (i : ℕ) → i < n → at (list_of n f) i ≡ f i
unfolding list_of
at_list zero f i h = absurd (omega arith)
at_list (suc n) f zero h = refl
at_list (suc n) f (suc i) h = at_list n (λ i. f (suc i)) i (omega arith)

-- all entries are the same
pub list_same : (n : ℕ) (f : ℕ → ℕ) (x : ℕ) → ((i : ℕ) → f i ≡ x) → replicate n x ≡ list_of n f
unfolding list_of
list_same zero f x h = refl
list_same (suc n) f x h = rw (h 0) (ap (λ l. x ∷ l) (list_same n (λ i. f (suc i)) x (λ i. h (suc i))))

-- ---- a list without its entry k

pub without_split : (k : ℕ) (l : List ℕ) → without k l ≡ take k l ++ drop (suc k) l
unfolding without
without_split zero [] = refl
without_split (suc k) [] = refl
without_split zero (x ∷ l) = refl
without_split (suc k) (x ∷ l) = ap (λ m. x ∷ m) (without_split k l)

pub length_without : (k : ℕ) (l : List ℕ) → k < length l → length (without k l) + 1 ≡ length l
length_without k l h = rw (without_split k l) (length-remove l k h)

-- the place in the list of entry i of the list without entry k
unfoldable pub past : ℕ → ℕ → ℕ
past zero i = suc i
past (suc k) zero = zero
past (suc k) (suc i) = suc (past k i)

pub at_without : (k : ℕ) (l : List ℕ) (i : ℕ) → at (without k l) i ≡ at l (past k i)
unfolding without past
at_without zero [] i = refl
at_without (suc k) [] zero = refl
at_without (suc k) [] (suc i) = refl
at_without zero (x ∷ l) i = refl
at_without (suc k) (x ∷ l) zero = refl
at_without (suc k) (x ∷ l) (suc i) = at_without k l i

pub past_earlier : (k i : ℕ) → i < k → past k i ≡ i
unfolding past
past_earlier zero i h = absurd (omega arith)
past_earlier (suc k) zero h = refl
past_earlier (suc k) (suc i) h = ap suc (past_earlier k i (omega arith))

pub past_later : (k i : ℕ) → k ≤ i → past k i ≡ i + 1
unfolding past
past_later zero i h = omega arith
past_later (suc k) zero h = absurd (omega arith)
past_later (suc k) (suc i) h = omega (arith, past_later k i (omega arith))

pub past_most : (k i : ℕ) → past k i ≤ i + 1
unfolding past
past_most zero i = omega arith
past_most (suc k) zero = omega arith
past_most (suc k) (suc i) = omega (arith, past_most k i)

pub past_apart : (k i j : ℕ) → i ≢ j → past k i ≢ past k j
unfolding past
past_apart zero i j n e = n (omega arith)
past_apart (suc k) zero zero n e = n refl
past_apart (suc k) zero (suc j) n e = omega arith
past_apart (suc k) (suc i) zero n e = omega arith
past_apart (suc k) (suc i) (suc j) n e = past_apart k i j (λ q. n (ap suc q)) (omega arith)

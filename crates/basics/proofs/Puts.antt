-- Bytes stored one part after the other are stored together.
use Prim.Native.Nat.{ℕ, suc, ◌+◌, ◌≤◌}
use mathlib.Core.Path.{◌≡◌, refl, sym, ap, ◌∙◌}
use mathlib.Core.List.{List, [], ◌∷◌, ◌++◌}
use native.Mathlib.Nat.{add-zero}
use native.Mathlib.Omega.{arith}
use lib.ListN.{length, drop, set, length-append}
use lib.Seq.{sets, sets-eq, length-sets}
use Rattle.basics.specs.Lists.{front, Put}

sets_append : (l a b : List ℕ) (i : ℕ) → sets l i (a ++ b) ≡ sets (sets l i a) (i + length a) b
sets_append l [] b i = ap (λ n. sets l n b) (sym (add-zero i))
sets_append l (x ∷ a) b i = sets_append (set l i x) a b (suc i) ∙ ap (λ n. sets (sets (set l i x) (suc i) a) n b) (omega arith)

pub put_none : (l : List ℕ) (i : ℕ) → Put l i [] l i
put_none l i = record { stored = refl; ends = sym (add-zero i) }

-- the second part begins where the first ends
pub put_then : {l m n a b : List ℕ} {i j k : ℕ} → Put l i a m j → Put m j b n k → Put l i (a ++ b) n k
put_then {l} {m} {n} {a} {b} {i} {j} {k} p q =
    record {
      stored = q.stored ∙ ap (λ x. sets m x b) p.ends ∙ ap (λ x. sets x (i + length a) b) p.stored ∙ sym (sets_append l a b i);
      ends = q.ends ∙ ap (λ x. x + length b) p.ends ∙ omega (arith, length-append a b);
    }

-- the same with the bytes said otherwise
pub put_text : {l m a b : List ℕ} {i j : ℕ} → a ≡ b → Put l i a m j → Put l i b m j
put_text e p = rw e at p

pub put_length : {l m a : List ℕ} {i j : ℕ} → Put l i a m j → length m ≡ length l
put_length {l} {a = a} {i} p = ap length p.stored ∙ length-sets l i a

-- what is stored from the front on
pub put_front : {l m a : List ℕ} {n : ℕ} → Put l 0 a m n → length a ≤ length l → (n ≡ length a) × (m ≡ front a l)
put_front {l} {m} {a} {n} p h =
    let e : 0 + length a ≡ length a = omega arith in
    (p.ends ∙ e, p.stored ∙ sets-eq a l 0 (omega arith) ∙ ap (λ x. a ++ drop x l) e)

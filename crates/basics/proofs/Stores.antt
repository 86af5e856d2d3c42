-- Laws of entries that are stored from a place on, over others.
use Prim.Native.Nat.{ℕ, suc, ◌+◌, ◌≤◌, ◌<◌}
use mathlib.Core.Path.{◌≡◌, refl, sym, ap, ◌∙◌}
use mathlib.Core.List.{List, [], ◌∷◌, ◌++◌}
use native.Mathlib.Omega.{arith}
use lib.ListN.{length, take, drop, set, length-drop, take-append-drop}
use lib.Seq.{sets, sets-eq, set-set, set_comm, length-take-le, take-take}

-- an entry is stored before those that are
set_before : (l vs : List ℕ) (i j x : ℕ) → j < i → set (sets l i vs) j x ≡ sets (set l j x) i vs
set_before l [] i j x h = refl
set_before l (y ∷ vs) i j x h = set_before (set l i y) vs (suc i) j x (omega arith) ∙ ap (λ m. sets m (suc i) vs) (set_comm l i j y x (λ e. omega arith))

pub sets_more : (l vs : List ℕ) (i x : ℕ) → set (sets l (suc i) vs) i x ≡ sets l i (x ∷ vs)
sets_more l vs i x = set_before l vs (suc i) i x (omega arith)

-- what is stored over entries that are no more than it
pub sets_over : (l a b : List ℕ) (i : ℕ) → length a ≤ length b → sets (sets l i a) i b ≡ sets l i b
sets_over l [] b i h = refl
sets_over l (x ∷ a) [] i h = absurd (omega arith)
sets_over l (x ∷ a) (y ∷ b) i h =
    ap (λ m. sets m (suc i) b) (set_before (set l i x) a (suc i) i y (omega arith) ∙ ap (λ m. sets m (suc i) a) (set-set l i x y))
    ∙ sets_over (set l i y) a b (suc i) (omega arith)

-- what stands there already
pub sets_same : (l : List ℕ) (i n : ℕ) → i ≤ n → n ≤ length l → sets l i (drop i (take n l)) ≡ l
sets_same l i n h k =
    let e : i + length (drop i (take n l)) ≡ n = omega (arith, length-drop i (take n l), length-take-le n l k) in
    sets-eq (drop i (take n l)) l i (omega arith)
    ∙ ap (λ m. m ++ drop i (take n l) ++ drop (i + length (drop i (take n l))) l) (sym (take-take i n l h))
    ∙ ap (λ m. m ++ drop (i + length (drop i (take n l))) l) (take-append-drop i (take n l))
    ∙ ap (λ m. take n l ++ drop m l) e
    ∙ take-append-drop n l

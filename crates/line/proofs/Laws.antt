-- Laws of the definitions that the contracts cite: rows of lists, how large `best` is, and that it asks of an end only
-- which rows start later.
use mathlib.Core.Path.{◌≡◌, refl}
use mathlib.Core.List.{List, [], ◌∷◌}
use mathlib.Core.Bool.{Bool, true, false, ◌&&◌}
use Prim.Native.Nat.{ℕ, zero, suc, ◌+◌, ◌≤◌, ◌<◌}
use native.Mathlib.Omega.{arith}
use native.Mathlib.Nat.{le_refl}
use lib.Dec.{leb}
use lib.ListN.{length, get_or, drop}
use Rattle.labels.specs.Permission.{permits}
use Rattle.line.specs.Line.{Row, row, rows, when, gain, cell, best}

-- ---- the size of `best`

when_le : (b : Bool) (v : ℕ) → when b v ≤ v
when_le true v = le_refl v
when_le false v = omega arith

pub gain_le : (v : ℕ) → gain v ≤ v + 1
unfolding gain
gain_le zero = omega arith
gain_le (suc v) = omega arith

cell_le : (n p s e1 e2 v0 v1 v2 : ℕ) → v0 ≤ n → v1 ≤ n → v2 ≤ n → cell p s e1 e2 v0 v1 v2 ≤ n + 1
unfolding cell
cell_le n p s e1 e2 v0 v1 v2 h0 h1 h2 =
    omega (arith, when_le (permits p 0) v0, when_le (permits p 1 && leb e1 s) (gain v1), gain_le v1, when_le (permits p 2 && leb e2 s) (gain v2), gain_le v2)

pub best_le : (rs : List Row) (e1 e2 : ℕ) → best rs e1 e2 ≤ length rs + 1
unfolding best
best_le [] e1 e2 = omega arith
best_le (r ∷ rs) e1 e2 =
    omega (arith, cell_le (length rs + 1) r.perm r.start e1 e2 _ _ _ (best_le rs e1 e2) (best_le rs r.end e2) (best_le rs e1 r.end))

-- ---- ends that are the same to all rows

abbrev pub row_at : List Row → ℕ → Row
row_at rs j = get_or rs j (row 0 0 0)

-- each row starts before both ends or before neither
abbrev pub Same : List Row → ℕ → ℕ → Type 0
Same rs e e' = (j : ℕ) → j < length rs → leb e (row_at rs j).start ≡ leb e' (row_at rs j).start

pub best_same : (rs : List Row) (e1 e1' e2 e2' : ℕ) → Same rs e1 e1' → Same rs e2 e2' → best rs e1 e2 ≡ best rs e1' e2'
unfolding best cell
best_same [] e1 e1' e2 e2' h k = refl
best_same (r ∷ rs) e1 e1' e2 e2' h k =
    let h' : Same rs e1 e1' = λ j i. h (suc j) (omega arith) in
    let k' : Same rs e2 e2' = λ j i. k (suc j) (omega arith) in
    rw (h 0 (omega arith), k 0 (omega arith), best_same rs e1 e1' e2 e2' h' k', best_same rs r.end r.end e2 e2' (λ j i. refl) k', best_same rs e1 e1' r.end r.end h' (λ j i. refl))

-- ---- the rows of lists

-- the rows from k on: row k, and the rows from k + 1 on
pub drop_rows : (ss es ps : List ℕ) (k : ℕ) → k < length ss → length es ≡ length ss → length ps ≡ length ss
    → drop k (rows ss es ps) ≡ row (get_or ss k 0) (get_or es k 0) (get_or ps k 0) ∷ drop (suc k) (rows ss es ps)
unfolding rows
drop_rows [] es ps k h he hp = absurd (omega arith)
drop_rows (s ∷ ss) [] ps k h he hp = absurd (omega arith)
drop_rows (s ∷ ss) (e ∷ es) [] k h he hp = absurd (omega arith)
drop_rows (s ∷ ss) (e ∷ es) (p ∷ ps) zero h he hp = refl
drop_rows (s ∷ ss) (e ∷ es) (p ∷ ps) (suc k) h he hp = drop_rows ss es ps k (omega arith) (omega arith) (omega arith)

pub length_rows : (ss es ps : List ℕ) → length (rows ss es ps) ≤ length ss
unfolding rows
length_rows [] es ps = omega arith
length_rows (s ∷ ss) [] ps = omega arith
length_rows (s ∷ ss) (e ∷ es) [] = omega arith
length_rows (s ∷ ss) (e ∷ es) (p ∷ ps) = omega (arith, length_rows ss es ps)

pub start_rows : (ss es ps : List ℕ) (i : ℕ) → i < length (rows ss es ps) → (row_at (rows ss es ps) i).start ≡ get_or ss i 0
unfolding rows
start_rows [] es ps i h = absurd (omega arith)
start_rows (s ∷ ss) [] ps i h = absurd (omega arith)
start_rows (s ∷ ss) (e ∷ es) [] i h = absurd (omega arith)
start_rows (s ∷ ss) (e ∷ es) (p ∷ ps) zero h = refl
start_rows (s ∷ ss) (e ∷ es) (p ∷ ps) (suc i) h = start_rows ss es ps i (omega arith)

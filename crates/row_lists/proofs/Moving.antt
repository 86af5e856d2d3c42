-- Laws of rows that move up or down one: entries copied within a list; and rows that moved up and down again are
-- where they were. Each is about one list.
use Prim.Native.Nat.{ℕ, suc, ◌+◌, ◌-◌, ◌≤◌, ◌<◌}
use mathlib.Core.Path.{◌≡◌, sym, ap, ◌∙◌}
use mathlib.Core.List.{List, ◌∷◌, ◌++◌}
use native.Mathlib.Numerals.{add-one}
use native.Mathlib.Omega.{arith}
use Rattle.std.specs.List.{copy_within}
use Rattle.std.proofs.lemmas.List.{drop-take}
use lib.ListN.{length, take, drop, set, length-append, length-drop}
use lib.Seq.{sets, sets-eq, length-take-le, take-take, take_at, drop_at, drop-cons, get_or-take}
use Rattle.basics.specs.Limits.{max_rows, Places}
use Rattle.basics.specs.Lists.{at, front, without}
use Rattle.basics.proofs.Lists.{without_split}
use Rattle.basics.proofs.Stores.{sets_more, sets_over, sets_same}
use Rattle.table.specs.Tables.{RowIn}
use Rattle.row_lists.specs.Moved.{moved_up, moved_down}

-- entries copied within their list are stored from the place on
pub copied : {X : Type 0} (l : List X) (i j to : ℕ) → i ≤ j → j ≤ length l → to + (j - i) ≤ length l → copy_within l i j to ≡ sets l to (drop i (take j l))
copied l i j to h most fits =
    let part : take (j - i) (drop i l) ≡ drop i (take j l) = let e : i + (j - i) ≡ j = omega arith in rw e at (sym (drop-take i (j - i) l)) in
    let size : length (drop i (take j l)) ≡ j - i = length-drop i (take j l) ∙ ap (λ n. n - i) (length-take-le j l most) in
    ap (λ m. take to l ++ m ++ drop (to + (j - i)) l) part
    ∙ ap (λ n. take to l ++ drop i (take j l) ++ drop (to + n) l) (sym size)
    ∙ sym (sets-eq (drop i (take j l)) l to (omega (arith, size)))

-- the entries that move up
abbrev later : List ℕ → ℕ → ℕ → List ℕ
later l k n = drop (k + 1) (take n l)

-- ---- up

module _ (l : List ℕ) (k n : ℕ) (below : k < n) (most : n ≤ length l) where
  length_later : length (later l k n) ≡ n - (k + 1)
  length_later = length-drop (k + 1) (take n l) ∙ ap (λ m. m - (k + 1)) (length-take-le n l most)

  -- ---- the list without its entry k

  pub length_rest : length (without k (take n l)) ≡ n - 1
  length_rest =
      ap length (without_split k (take n l))
      ∙ length-append (take k (take n l)) (drop (suc k) (take n l))
      ∙ omega (arith, length-take-le k (take n l) (omega (arith, length-take-le n l most)), length-drop (suc k) (take n l), length-take-le n l most)

  pub up_front : moved_up k n l ≡ front (without k (take n l)) l
  up_front =
      let e : k + length (later l k n) ≡ length (without k (take n l)) = omega (arith, length_later, length_rest) in
      sets-eq (later l k n) l k (omega (arith, length_later))
      ∙ ap (λ m. take k l ++ (later l k n) ++ drop m l) e
      ∙ ap (λ m. m ++ drop (length (without k (take n l))) l) (ap (λ m. m ++ (later l k n)) (sym (take-take k n l (omega arith))) ∙ ap (λ m. take k (take n l) ++ drop m (take n l)) (add-one k) ∙ sym (without_split k (take n l)))

  -- ---- down again

  -- what moved up moves down, and the entry that was taken out is stored
  pub up_down : set (moved_down k (n - 1) (moved_up k n l)) k (at l k) ≡ l
  up_down =
      let rest = without k (take n l) in
      let first : take (n - 1) (moved_up k n l) ≡ rest = ap (take (n - 1)) up_front ∙ take_at rest (drop (length rest) l) (n - 1) length_rest in
      let moved : drop k rest ≡ (later l k n) =
      ap (drop k) (without_split k (take n l)) ∙ drop_at (take k (take n l)) (drop (suc k) (take n l)) k (length-take-le k (take n l) (omega (arith, length-take-le n l most))) ∙ ap (λ m. drop m (take n l)) (sym (add-one k)) in
      let all : at l k ∷ (later l k n) ≡ drop k (take n l) =
      ap (λ x. x ∷ (later l k n)) (sym (get_or-take n l k 0 below)) ∙ ap (λ m. at (take n l) k ∷ drop m (take n l)) (add-one k) ∙ sym (drop-cons (take n l) k 0 (omega (arith, length-take-le n l most))) in
      ap (λ m. set (sets (moved_up k n l) (k + 1) m) k (at l k)) (ap (drop k) first ∙ moved)
      ∙ ap (λ m. set (sets (moved_up k n l) m (later l k n)) k (at l k)) (add-one k)
      ∙ sets_more (moved_up k n l) (later l k n) k (at l k)
      ∙ sets_over l (later l k n) (at l k ∷ (later l k n)) k (omega arith)
      ∙ ap (sets l k) all
      ∙ sets_same l k n (omega arith) most

-- ---- the three lists of a table

-- what `row_at` and `set_row` ask
pub row_in : {starts ends marks : List ℕ} → Places starts ends marks → {i : ℕ} → i < max_rows → RowIn starts ends marks i
row_in p h = record { each_end = p.ends_64 ∙ sym p.starts_64; each_mark = p.marks_64 ∙ sym p.starts_64; below = omega (arith, p.starts_64) }

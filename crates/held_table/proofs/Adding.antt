-- A row stored after the rows that are held is the longer table at the front of the lists; and it can be taken out
-- again.
use Prim.Native.Nat.{ℕ, suc, ◌+◌, ◌<◌}
use mathlib.Core.Path.{◌≡◌, refl, sym, ap, ◌∙◌}
use mathlib.Core.List.{List, [], ◌∷◌, ◌++◌}
use native.Mathlib.Numerals.{add-one}
use native.Mathlib.Omega.{arith}
use lib.ListN.{length, take, drop, set, length-append}
use lib.Seq.{length-take-le, set_split, append_snoc, set-set, set-get_or}
use Rattle.basics.specs.Lists.{at, front}
use Rattle.window.specs.declared.Row.{Row}
use Rattle.table.specs.Changes.{with_row}
use Rattle.held_table.specs.Held.{HeldTable, held_table}
use Rattle.held_table.specs.Lent.{RoomFor}
use Rattle.held_table.proofs.Planning.{NewRows}

module _ (l : List ℕ) (n x : ℕ) (below : n < length l) where
  length_added : length (take n l ++ x ∷ []) ≡ n + 1
  length_added = length-append (take n l) (x ∷ []) ∙ omega (arith, length-take-le n l (omega arith))

  front_added : set l n x ≡ front (take n l ++ x ∷ []) l
  front_added =
      set_split l n x below
      ∙ sym (append_snoc (take n l) x (drop (suc n) l))
      ∙ ap (λ m. take n l ++ (x ∷ []) ++ drop m l) (sym (length_added ∙ add-one n))

-- the entry that stood there is stored again
pub put_back : (l : List ℕ) (n x y : ℕ) {m k : List ℕ} → m ≡ set l n x → k ≡ set m n y → y ≡ at l n → k ≡ l
put_back l n x y e f q = f ∙ ap (λ a. set a n y) e ∙ set-set l n x y ∙ ap (set l n) q ∙ set-get_or l n 0

pub new_rows : (h : HeldTable) → RoomFor h → (row : Row) {starts ends marks : List ℕ}
    → (starts ≡ set h.starts h.numbers.rows row.start) × ((ends ≡ set h.ends h.numbers.rows row.end) × (marks ≡ set h.marks h.numbers.rows row.mark))
    → NewRows h (with_row (held_table h) row) (h.numbers.rows + 1) starts ends marks
new_rows h room row s =
    let n = h.numbers.rows in
    let p = room.places.rows_64 in
    let a : n < length h.starts = omega (arith, p.starts_64, room.below) in
    let b : n < length h.ends = omega (arith, p.ends_64, room.below) in
    let c : n < length h.marks = omega (arith, p.marks_64, room.below) in
    record {
      setting_is = refl;
      each_start = length_added h.starts n row.start a;
      each_end = length_added h.ends n row.end b;
      each_mark = length_added h.marks n row.mark c;
      starts_are = s.0 ∙ front_added h.starts n row.start a;
      ends_are = s.1.0 ∙ front_added h.ends n row.end b;
      marks_are = s.1.1 ∙ front_added h.marks n row.mark c;
    }

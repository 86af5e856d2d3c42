-- Rows moved up over a row are the shorter table at the front of the lists; and they can be moved back.
use Prim.Native.Nat.{ℕ, ◌-◌, ◌≤◌, ◌<◌}
use mathlib.Core.Path.{◌≡◌, refl, ap, ◌∙◌}
use mathlib.Core.List.{List}
use native.Mathlib.Omega.{arith}
use lib.ListN.{length, set}
use Rattle.basics.specs.Lists.{at}
use Rattle.table.specs.Changes.{without_row}
use Rattle.held_table.specs.Held.{HeldTable, held_table}
use Rattle.row_lists.specs.Moved.{moved_up, moved_down}
use Rattle.row_lists.proofs.Moving.{length_rest, up_front, up_down}
use Rattle.held_table.specs.Lent.{RowHeld}
use Rattle.held_table.proofs.Planning.{NewRows}

-- the rows are moved down again, and the row that stood at place k is stored
pub moved_back : (l : List ℕ) (k n y : ℕ) {up down back : List ℕ} → k < n → n ≤ length l
    → up ≡ moved_up k n l → down ≡ moved_down k (n - 1) up → back ≡ set down k y → y ≡ at l k → back ≡ l
moved_back l k n y b m e f g q =
    g ∙ ap (λ x. set x k y) (f ∙ ap (moved_down k (n - 1)) e) ∙ ap (set (moved_down k (n - 1) (moved_up k n l)) k) q ∙ up_down l k n b m

pub rest_rows : (h : HeldTable) (k : ℕ) → RowHeld h k → {starts ends marks : List ℕ}
    → (starts ≡ moved_up k h.numbers.rows h.starts) × ((ends ≡ moved_up k h.numbers.rows h.ends) × (marks ≡ moved_up k h.numbers.rows h.marks))
    → NewRows h (without_row (held_table h) k) (h.numbers.rows - 1) starts ends marks
rest_rows h k held s =
    let n = h.numbers.rows in
    let p = held.places.rows_64 in
    let b = held.below in
    let x : n ≤ length h.starts = omega (arith, p.starts_64, held.most) in
    let y : n ≤ length h.ends = omega (arith, p.ends_64, held.most) in
    let z : n ≤ length h.marks = omega (arith, p.marks_64, held.most) in
    record {
      setting_is = refl;
      each_start = length_rest h.starts k n b x;
      each_end = length_rest h.ends k n b y;
      each_mark = length_rest h.marks k n b z;
      starts_are = s.0 ∙ up_front h.starts k n b x;
      ends_are = s.1.0 ∙ up_front h.ends k n b y;
      marks_are = s.1.1 ∙ up_front h.marks k n b z;
    }

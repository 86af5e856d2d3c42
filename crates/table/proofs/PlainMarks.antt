-- Laws of a row with mark 0 or 1: the mark asks nothing of its label but that it is heard where the mark is 1, and
-- check 7 is that the mark is at most 1.
use Prim.Native.Nat.{ℕ, zero, suc, ◌≤◌}
use mathlib.Core.Path.{◌≡◌, refl}
use mathlib.Core.Logic.Iff
use mathlib.Core.Logic.{◌↔◌, inl}
use mathlib.Core.List.{List}
use native.Mathlib.Omega.{arith}
use borrow.Author.Tests.{le-leb}
use Rattle.window.specs.declared.Kind.{Kind}
use Rattle.window.specs.declared.Kind.TheVariants.{Round, Run}
use Rattle.marks.specs.Marks.{max_mark}
use Rattle.marks.proofs.Allowing.{must_least, either_least}
use Rattle.window.specs.declared.Row.{Row}
use Rattle.table.specs.declared.Setting.{Setting}
use Rattle.table.specs.Tables.{Open, Allowed}
use Rattle.table.proofs.Plain.{row_refusal_part_day, OpenMarks01, AllowedMarks01, row_refusal_marks_01}

open_marks_01 : (kind : Kind) (hours : List (List ℕ)) (row : Row) (x : ℕ) → Open kind hours row x ↔ OpenMarks01 kind hours row x
open_marks_01 Round hours row x = Iff.rfl
open_marks_01 Run hours row zero = Iff.rfl
open_marks_01 Run hours row (suc r) = Iff.rfl

module _ (S : Setting) (row : Row) (h : row.mark ≤ 1) where
  pub allowed_marks_01 : (x : ℕ) → Allowed S row x ↔ AllowedMarks01 S row x
  allowed_marks_01 x =
      let o = open_marks_01 S.kind S.hours row x in (
        λ a. record { known = a.known; must = λ e. a.must (inl e); hours = o.0 a.hours },
        λ a. record {
          known = a.known;
          must = λ e. a.must (omega (arith, must_least row.mark e));
          receiver_1 = λ e. absurd (omega (arith, either_least row.mark 2 3 (omega arith) e));
          receiver_2 = λ e. absurd (omega (arith, either_least row.mark 4 5 (omega arith) e));
          hours = o.1 a.hours;
        },
      )

  -- checks 6 and 7 of such a row
  pub row_check_marks_01 : row_refusal_part_day S row ≡ row_refusal_marks_01 S row
  unfolding row_refusal_part_day row_refusal_marks_01
  row_check_marks_01 = rw (le-leb row.mark 1 h, le-leb row.mark max_mark (omega arith)) refl

-- Planning and counting touch no byte that is not cleared afterwards: the working space is then what the definition
-- `space_after` says of a plan and of refusal 8.
use Prim.Native.Nat.{ℕ, ◌-◌}
use mathlib.Core.Path.{◌≡◌, refl, sym, ap, ◌∙◌}
use mathlib.Core.Bool.{true, ◌||◌}
use mathlib.Core.List.{List, ◌++◌}
use lib.Dec.{eqb}
use lib.ListN.{drop, replicate}
use lib.Seq.{drop-drop}
use Rattle.line.specs.Cells.{core_bytes}
use Rattle.refusals.specs.Refusals.{number_of, passes, Outcome}
use Rattle.table.specs.Planned.{space_bytes, space_after}

module _ (space used : List ℕ) (e : drop core_bytes used ≡ drop core_bytes space) where
  rest_kept : drop space_bytes used ≡ drop space_bytes space
  rest_kept = sym (drop-drop (space_bytes - core_bytes) core_bytes used) ∙ ap (drop (space_bytes - core_bytes)) e ∙ drop-drop (space_bytes - core_bytes) core_bytes space

  pub space_cleared : (r : Outcome) → (passes r || eqb (number_of r) 8) ≡ true → {space' : List ℕ} → space' ≡ replicate space_bytes 0 ++ drop space_bytes used → space' ≡ space_after r space
  unfolding space_after
  space_cleared r c s = s ∙ ap (λ x. replicate space_bytes 0 ++ x) rest_kept ∙ rw c refl

-- In which order a change of a right table is refused: what the first checks and the planner look at, in the one
-- order that is promised; and so what each change keeps.
use Prim.Native.Nat.{ℕ}
use mathlib.Core.Path.{◌≡◌, refl, sym, ◌∙◌}
use mathlib.Core.Bool.{Bool, true, false, cond}
use native.Mathlib.Omega.{arith}
use borrow.Author.Tests.{eqb-true, ltb-true, le-leb}
use lib.Dec.{leb, ltb}
use lib.ListN.{take}
use lib.Seq.{length-take-le}
use Rattle.basics.specs.Limits.{max_rows}
use Rattle.window.specs.declared.Row.{Row}
use Rattle.refusals.specs.Refusals.{number_of, asked, passes, ◌then◌, Rows, NoRow, Outcome}
use Rattle.refusals.proofs.Refusals.{Passed, then_next, then_assoc}
use Rattle.table.specs.Tables.{Table, rows}
use Rattle.table.specs.Checks.{row_refusal}
use Rattle.table.specs.Planned.{space_refusal, planned, plan_refusal}
use Rattle.table.specs.Changes.{with_row, without_row}
use Rattle.table.proofs.Changes.{rows_with_row, planned_with, rows_without, planned_without}
use Rattle.held_table.specs.Held.{HeldTable, held_table, held_plan, add_checked, withdraw_checked, add_first, withdraw_first, added, withdrawn}
use Rattle.held_table.specs.Came.{add_refusal, withdraw_refusal}
use Rattle.held_table.proofs.Answering.{places_first, has_places_iff}
use Rattle.held_table.proofs.Right.{Right, rows_held, right_looked, plan_held, Kept, changed_kept}

-- ---- an addition

module _ (h : HeldTable) (right : Right h) (new : Row) (space : ℕ) where
  abbrev t : Table
  t = held_table h

  -- an addition meets 2, 3, 6 and 7 of the new row, and 8, in this order, and nothing else
  add_order : (add_first h then (planned (with_row t new) (take (rows (with_row t new)) h.labels) space).answer.refusal) ≡ add_refusal t new space
  unfolding add_checked add_refusal
  add_order =
      let places = places_first h in
      let rest = (planned (with_row t new) (take (rows (with_row t new)) h.labels) space).answer.refusal in
      let room = asked (ltb h.numbers.rows max_rows) Rows in
      then_assoc places room rest
      ∙ sym (then_next {a = places} {r = places} refl ((has_places_iff h).1 right.places) refl)
      ∙ go (ltb h.numbers.rows max_rows) refl
    where
      go : (x : Bool) → ltb h.numbers.rows max_rows ≡ x
          → (asked x Rows then (planned (with_row t new) (take (rows (with_row t new)) h.labels) space).answer.refusal)
          ≡ (asked (ltb (rows t) max_rows) Rows then space_refusal space then row_refusal t.setting new then plan_refusal (with_row t new))
      go true e =
          let b = ltb-true h.numbers.rows max_rows e in
          rw (rows_held h right, e)
          (planned_with t new (right_looked h right) (omega (arith, rows_held h right)) (take (rows (with_row t new)) h.labels) space
          (length-take-le (rows (with_row t new)) h.labels (omega (arith, rows_with_row t new, rows_held h right, right.places.labels_64))))
      go false e = rw (rows_held h right, e) refl

  pub add_kept : Kept h right (with_row t new) refl (add_refusal t new space) (added h new space)
  unfolding added
  add_kept = rw (← add_order) (changed_kept h right (with_row t new) refl (add_first h) space)

-- ---- a withdrawal

module _ (h : HeldTable) (right : Right h) (k space : ℕ) where
  -- a withdrawal meets 3 and then 15; where neither refuses, planning does not
  withdraw_order : (withdraw_first h k space then (planned (without_row (held_table h) k) (take (rows (without_row (held_table h) k)) h.labels) space).answer.refusal) ≡ withdraw_refusal (held_table h) k space
  unfolding withdraw_checked withdraw_refusal
  withdraw_order =
      let places = places_first h in
      let known = asked (ltb k h.numbers.rows) NoRow in
      let most = asked (leb h.numbers.rows max_rows) Rows in
      then_assoc places (space_refusal space then known then most) end
      ∙ sym (then_next {a = places} {r = places} refl ((has_places_iff h).1 right.places) refl)
      ∙ then_assoc (space_refusal space) (known then most) end
      ∙ spaced (passes (space_refusal space)) refl
    where
      end : Outcome
      end = (planned (without_row (held_table h) k) (take (rows (without_row (held_table h) k)) h.labels) space).answer.refusal

      found : (x : Bool) → ltb k h.numbers.rows ≡ x → Passed (space_refusal space) → ((asked x NoRow then asked (leb h.numbers.rows max_rows) Rows) then end) ≡ asked x NoRow
      found true e s =
          let b = ltb-true k h.numbers.rows e in
          let n = rows_held h right in
          let r = rows_without (held_table h) k (omega arith) in
          rw (le-leb h.numbers.rows max_rows right.most)
          (planned_without (held_table h) k (omega arith) (right_looked h right) (omega (arith, right.most)) (held_plan h) (plan_held h right)
          (take (rows (without_row (held_table h) k)) h.labels) space (length-take-le (rows (without_row (held_table h) k)) h.labels (omega (arith, right.most, right.places.labels_64))) s)
      found false e s = refl

      spaced : (x : Bool) → passes (space_refusal space) ≡ x
          → cond x ((asked (ltb k h.numbers.rows) NoRow then asked (leb h.numbers.rows max_rows) Rows) then end) (space_refusal space)
          ≡ cond x (asked (ltb k (rows (held_table h))) NoRow) (space_refusal space)
      spaced true e = rw (rows_held h right) (found (ltb k h.numbers.rows) refl (eqb-true (number_of (space_refusal space)) 0 e))
      spaced false e = refl

  pub withdraw_kept : Kept h right (without_row (held_table h) k) refl (withdraw_refusal (held_table h) k space) (withdrawn h k space)
  unfolding withdrawn
  withdraw_kept = rw (← withdraw_order) (changed_kept h right (without_row (held_table h) k) refl (withdraw_first h k space) space)

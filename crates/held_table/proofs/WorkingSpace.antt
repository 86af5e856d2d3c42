-- Working space of additions and withdrawals: any 4,608 bytes or more give the same answer, and a change leaves them
-- as the planner does. The number is written out here, so that the definition's number is pinned.
use Prim.Native.Nat.{ℕ, ◌≤◌}
use mathlib.Core.Path.{◌≡◌, refl, ap, ◌∙◌}
use mathlib.Core.Bool.{cond}
use mathlib.Core.List.{List}
use borrow.Author.Tests.{le-leb}
use lib.ListN.{length, take}
use Rattle.window.specs.declared.Row.{Row}
use Rattle.refusals.specs.Refusals.{answered, passes, Outcome}
use Rattle.table.specs.Tables.{Table, rows}
use Rattle.table.specs.Planned.{space_bytes, space_refusal}
use Rattle.table.specs.Changes.{with_row, without_row}
use Rattle.table.proofs.Calls.{planned_anyhow}
use Rattle.table.proofs.WorkingSpace.{Left, clears}
use Rattle.held_table.specs.Held.{HeldTable, held_table, Change, change, taken, changed, add_first, withdraw_checked, withdraw_first, added, withdrawn, add_call, withdraw_call}

module _ (h : HeldTable) (space space' : ℕ) (a : 4608 ≤ space) (b : 4608 ≤ space') where
  changed_anyhow : (r : Outcome) (t : Table) → changed r h t space ≡ changed r h t space'
  unfolding changed
  changed_anyhow r t = ap (λ p. cond (passes r) (taken h t p) (change (answered r 0) h)) (planned_anyhow t (take (rows t) h.labels) space space' a b)

  added_anyhow : (row : Row) → added h row space ≡ added h row space'
  unfolding added
  added_anyhow row = changed_anyhow (add_first h) (with_row (held_table h) row)

  first_anyhow : (k : ℕ) → withdraw_first h k space ≡ withdraw_first h k space'
  unfolding withdraw_checked space_refusal
  first_anyhow k = rw (le-leb space_bytes space a, le-leb space_bytes space' b) refl

  withdrawn_anyhow : (k : ℕ) → withdrawn h k space ≡ withdrawn h k space'
  unfolding withdrawn
  withdrawn_anyhow k =
      let t = without_row (held_table h) k in
      ap (λ r. changed r h t space) (first_anyhow k) ∙ changed_anyhow (withdraw_first h k space') t

-- What a change reports, and what is held after it, depend neither on what lies in the working space, nor on how long
-- it is beyond 4,608 bytes,
module _ (h : HeldTable) (space space' : List ℕ) (a : 4608 ≤ length space) (b : 4608 ≤ length space') where
  pub add_any_space : (row : Row) → ((add_call h row space).answer ≡ (add_call h row space').answer) × ((add_call h row space).held ≡ (add_call h row space').held)
  unfolding add_call
  add_any_space row =
      let e = added_anyhow h (length space) (length space') a b row in
      (ap (λ (c : Change). c.answer) e, ap (λ (c : Change). c.held) e)

  pub withdraw_any_space : (k : ℕ) → ((withdraw_call h k space).answer ≡ (withdraw_call h k space').answer) × ((withdraw_call h k space).held ≡ (withdraw_call h k space').held)
  unfolding withdraw_call
  withdraw_any_space k =
      let e = withdrawn_anyhow h (length space) (length space') a b k in
      (ap (λ (c : Change). c.answer) e, ap (λ (c : Change). c.held) e)

-- and a change leaves the working space as the planner does
module _ (h : HeldTable) (space : List ℕ) where
  pub add_space_left : (row : Row) → Left (add_call h row space).answer.refusal space (add_call h row space).space
  unfolding add_call
  add_space_left row = clears (added h row (length space)).answer.refusal space

  pub withdraw_space_left : (k : ℕ) → Left (withdraw_call h k space).answer.refusal space (withdraw_call h k space).space
  unfolding withdraw_call
  withdraw_space_left k = clears (withdrawn h k (length space)).answer.refusal space

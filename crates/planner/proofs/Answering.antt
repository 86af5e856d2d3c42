-- What the planner's parts report is what `plan_call` yields: the best plan or none, a refusal changes nothing, and
-- the working space is cleared after a plan and after 8.
use Prim.Native.Nat.{ℕ, ◌≤◌}
use mathlib.Core.Path.{◌≡◌, refl, sym, ap, ◌∙◌}
use mathlib.Core.Bool.{true, ◌||◌}
use mathlib.Core.List.{List, ◌++◌}
use mathlib.Core.Option.{Option, none, some}
use native.Mathlib.Omega.{arith}
use lib.Dec.{leb, eqb}
use borrow.Author.Tests.{leb-true}
use lib.ListN.{length, drop, replicate}
use Rattle.line.specs.Cells.{core_bytes}
use Rattle.refusals.specs.Refusals.{number_of, answered, answer_of, passes, ◌then◌, Space, Answer, Outcome}
use Rattle.refusals.specs.declared.Refusal.{Refusal}
use Rattle.refusals.specs.Numbers.{number}
use Rattle.refusals.proofs.Refusals.{Passed, number_within, then_passed, asked_passed}
use Rattle.std.specs.Prelude.{Result, Ok, Err, IsErrAnd}
use Rattle.table.specs.Tables.{Table}
use Rattle.table.specs.Checks.{lists_refusal, table_looked}
use Rattle.table.specs.Planned.{space_bytes, space_refusal, checked, best_plan, Planned, answering, given, planned, space_after, called, plan_call, IsBestPlan}
use Rattle.best_plan.specs.Rows.{Checked}
use Rattle.best_plan.proofs.Clearing.{space_cleared}
use Rattle.table.proofs.Checked.{checked_8, checked_valid}
use Rattle.table.proofs.Calls.{space_kept, rest_next}
use Rattle.table.proofs.Rivals.{planned_passed, planned_refused, best_plan_given}

-- a check that gives no error passes
pub passed : {a r : Outcome} {u : Unit {0}} → r ≡ a → r ≡ Ok u → Passed a
passed h k = rw (← h, k) refl

-- ---- a refusal

module _ (t : Table) (before space : List ℕ) where
  abbrev lists : Outcome
  lists = lists_refusal t before

  pub table_checked : Passed lists → space_bytes ≤ length space → (table_looked t).refusal ≡ checked t before (length space)
  unfolding checked
  table_checked = rest_next lists (table_looked t).refusal (length space)

  -- what a call promises of what it gives
  abbrev pub Promised : Answer → List ℕ → List ℕ → Type 0
  Promised a after space' =
      (called a after space' ≡ plan_call t before space)
      × (Passed (checked t before (length space)) → IsBestPlan t a after)

  promised : (a : Answer) (after space' : List ℕ) → answering a after ≡ planned t before (length space) → space' ≡ space_after a.refusal space → Promised a after space'
  unfolding plan_call
  promised a after space' e s =
      let kept : space' ≡ space_after (planned t before (length space)).answer.refusal space = s ∙ ap (λ (p : Planned). space_after p.answer.refusal space) e in (
        λ i. called (e i).answer (e i).labels (kept i),
        λ p. rw (ap (λ (x : Planned). x.answer) e, ap (λ (x : Planned). x.labels) e) (best_plan_given t before (length space) p),
      )

  refused_so : {e : Refusal} → Err e ≡ checked t before (length space) → Promised (answered (Err e) 0) before space
  refused_so {e} q =
      let n : number e ≡ 0 → ⊥ = λ z. absurd (omega (arith, (number_within e).0)) in
      let m : number_of (checked t before (length space)) ≡ 0 → ⊥ = λ z. n (ap number_of q ∙ z) in
      promised (answered (Err e) 0) before space
      (ap (λ x. answering (answered x 0) before) q ∙ sym (planned_refused t before (length space) m))
      (space_kept (Err e) space n (rw q (checked_8 t before (length space))))

  -- what a call promises that hands on a refusal
  pub refused_said : {e : Refusal} (r : Result ℕ Refusal) → IsErrAnd r (λ y. y ≡ e) → Err e ≡ checked t before (length space) → Promised (answer_of r) before space
  refused_said (Ok n) h q = absurd h
  refused_said (Err y) h q = rw h (refused_so q)

  -- ---- an answer

  -- the working space is long enough
  pub room : Passed (checked t before (length space)) → space_bytes ≤ length space
  unfolding checked space_refusal
  room p =
      let f = then_passed lists (space_refusal (length space) then (table_looked t).refusal) p in
      let g = then_passed (space_refusal (length space)) (table_looked t).refusal f.1 in
      leb-true space_bytes (length space) (asked_passed (leb space_bytes (length space)) Space (omega arith) g.0)

  -- what planning a checked table is lent
  pub ready : Passed (checked t before (length space)) → Checked t before space
  ready p = let v = checked_valid t before (length space) p in record { valid = v.0; each_label = v.1; room = omega (arith, room p) }

  clears : (o : Option (List ℕ)) → (passes (given o before).answer.refusal || eqb (number_of (given o before).answer.refusal) 8) ≡ true
  unfolding given
  clears none = refl
  clears (some l) = refl

  -- what a call that passes the checks promises
  pub answer_said : Passed (checked t before (length space)) → (a : Answer) (after used space' : List ℕ)
      → answering a after ≡ given (best_plan t) before → drop core_bytes used ≡ drop core_bytes space
      → space' ≡ replicate space_bytes 0 ++ drop space_bytes used
      → Promised a after space'
  answer_said p a after used space' e d s =
      promised a after space'
      (e ∙ sym (planned_passed t before (length space) p))
      (space_cleared space used d (given (best_plan t) before).answer.refusal (clears (best_plan t)) s ∙ sym (ap (λ (x : Planned). space_after x.answer.refusal space) e))

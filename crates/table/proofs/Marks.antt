-- Laws of marks: which labels a row has in a plan, by its mark, and where refusal 7 begins. Tables with marks 0 and 1
-- alone: PlainPlans.antt.
use Prim.Native.Nat.{ℕ, ◌≤◌, ◌<◌}
use mathlib.Core.Path.{◌≡◌, refl, ap}
use mathlib.Core.Logic.{◌≢◌, ◌↔◌, inl, inr}
use mathlib.Core.Bool.{Bool}
use mathlib.Core.List.{List}
use native.Mathlib.Omega.{arith}
use Rattle.basics.specs.Lists.{at}
use Rattle.basics.proofs.Tests.{Test, pass, fail, test}
use Rattle.marks.specs.Marks.{max_mark}
use Rattle.window.specs.declared.Row.{Row}
use Rattle.window.specs.Windows.{Window}
use Rattle.window.proofs.Meaning.{window_iff}
use Rattle.refusals.specs.Refusals.{number_of, asked, Mark}
use Rattle.table.specs.declared.Setting.{Setting}
use Rattle.table.specs.Tables.{Table, rows, row_at, Plan}
use Rattle.table.specs.Checks.{row_refusal}

-- of any labels that are a plan, and so of rivals: 1 must be heard; 2 may and 3 must be heard by receiver 1 alone, 4
-- may and 5 must by receiver 2 alone
module _ (t : Table) (labels : List ℕ) (plan : Plan t labels) (i : ℕ) (h : i < rows t) where
  pub must : (row_at t i).mark ≡ 1 → at labels i ≢ 0
  must e = (plan.allowed i h).must (inl e)

  pub may_on_1 : (row_at t i).mark ≡ 2 → at labels i ≢ 2
  may_on_1 e = (plan.allowed i h).receiver_1 (inl e)

  pub must_on_1 : (row_at t i).mark ≡ 3 → at labels i ≡ 1
  must_on_1 e =
      let a = plan.allowed i h in
      omega (arith, a.known, a.must (inr (inl e)), a.receiver_1 (inr e))

  pub may_on_2 : (row_at t i).mark ≡ 4 → at labels i ≢ 1
  may_on_2 e = (plan.allowed i h).receiver_2 (inl e)

  pub must_on_2 : (row_at t i).mark ≡ 5 → at labels i ≡ 2
  must_on_2 e =
      let a = plan.allowed i h in
      omega (arith, a.known, a.must (inr (inr e)), a.receiver_2 (inr e))

-- refusal 7 begins at mark 6, of a row that passes check 6
pub refused_7 : (S : Setting) (row : Row) → Window S.kind S.ticks row.start row.end → (row_refusal S row ≡ Mark) ↔ (6 ≤ row.mark)
unfolding row_refusal
refused_7 S row w = rw ((window_iff S.kind S.ticks row.start row.end).1 w) (go (test row.mark max_mark))
  where
    go : {b : Bool} → Test row.mark max_mark b → (asked b Mark ≡ Mark) ↔ (6 ≤ row.mark)
    go (pass l) = (λ e. let z : ◌≡◌ {A = ℕ} 0 7 = ap number_of e in absurd (omega arith), λ m. absurd (omega arith))
    go (fail l) = (λ e. omega arith, λ m. refl)

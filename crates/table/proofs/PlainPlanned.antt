-- Where another definition has the same plans, a call gives what is right by it, and nothing else is right by it.
use Prim.Native.Nat.{ℕ}
use mathlib.Core.Path.{◌≡◌, refl, sym, ◌∙◌}
use mathlib.Core.Logic.Iff
use mathlib.Core.Logic.{◌↔◌}
use mathlib.Core.List.{List}
use mathlib.Core.Option.{Option, none, some}
use Rattle.labels.proofs.Best.{best_iff}
use Rattle.refusals.proofs.Refusals.{Passed}
use Rattle.table.specs.Tables.{Table, Plan, Valid}
use Rattle.table.specs.Planned.{Planned, checked, best_plan, planned}
use Rattle.table.proofs.Plain.{PlannedBy}
use Rattle.table.proofs.Checked.{checked_valid}
use Rattle.table.proofs.Rivals.{best_plan_iff, no_plan, only_best, only_none}

module _ (t : Table) (before : List ℕ) (space : ℕ) (p : Passed (checked t before space)) (C : List ℕ → Type 0) (plans : (l : List ℕ) → Plan t l ↔ C l) where
  pub planned_by : PlannedBy C before (planned t before space)
  planned_by =
      record {
        best = λ labels b. only_best t before space p labels (best_iff (λ l. Iff.symm (plans l)) b);
        none = λ n. only_none t before space p (λ rival P. n rival ((plans rival).0 P));
      }

  pub planned_only : (gave : Planned) → PlannedBy C before gave → gave ≡ planned t before space
  planned_only gave g = go (best_plan t) refl
    where
      valid : Valid t
      valid = (checked_valid t before space p).0

      go : (o : Option (List ℕ)) → best_plan t ≡ o → gave ≡ planned t before space
      go none e =
          let n = (no_plan t valid).0 e in
          g.none (λ rival c. n rival ((plans rival).1 c)) ∙ sym (only_none t before space p n)
      go (some a) e =
          let b = (best_plan_iff t valid a).0 e in
          g.best a (best_iff plans b) ∙ sym (only_best t before space p a b)

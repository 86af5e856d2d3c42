-- What a planner call gives, taken apart; what a refused one leaves; and in which order its first checks refuse.
use Prim.Native.Nat.{ℕ, ◌≤◌, ◌<◌}
use mathlib.Core.Path.{◌≡◌, refl, sym, ap, ◌∙◌}
use mathlib.Core.Bool.{Bool, true, false, cond}
use mathlib.Core.List.{List, []}
use mathlib.Core.Option.{Option, none, some}
use native.Mathlib.Omega.{arith}
use borrow.Author.Tests.{ne_eqb, eqb-true, eqb-false, le-leb, lt-leb}
use lib.ListN.{length}
use Rattle.labels.specs.Labels.{heard}
use Rattle.refusals.specs.Refusals.{number_of, answered, passes, ◌then◌, Accepted, Space, Answer, Outcome}
use Rattle.refusals.proofs.Refusals.{Passed, then_first, then_next}
use Rattle.table.specs.Tables.{Table, rows, Valid}
use Rattle.table.specs.Checks.{lengths_refusal, table_looked}
use Rattle.table.specs.Planned.{space_bytes, space_refusal, checked, best_plan, Planned, answering, given, planned, space_after, PlanCalled, called, plan_call}
use Rattle.table.proofs.Checked.{Not8, checked_valid}

module _ (t : Table) (before space : List ℕ) {answer : Answer} {labels space' : List ℕ} (e : called answer labels space' ≡ plan_call t before space) where
  pub call_answer : answering answer labels ≡ planned t before (length space)
  unfolding plan_call
  call_answer = λ i. answering (e i).answer (e i).labels

  pub call_space : space' ≡ space_after (planned t before (length space)).answer.refusal space
  unfolding plan_call
  call_space = ap (λ (x : PlanCalled). x.space) e

-- a refused call leaves the labels
pub refused_kept : (t : Table) (before : List ℕ) (space : ℕ) → (number_of (planned t before space).answer.refusal ≡ 0 → ⊥) → (planned t before space).labels ≡ before
unfolding planned given
refused_kept t before space = go (passes (checked t before space)) (best_plan t)
  where
    go : (x : Bool) (o : Option (List ℕ)) → (number_of (cond x (given o before) (answering (answered (checked t before space) 0) before)).answer.refusal ≡ 0 → ⊥)
        → (cond x (given o before) (answering (answered (checked t before space) 0) before)).labels ≡ before
    go true none n = refl
    go true (some plan) n = absurd (n refl)
    go false o n = refl

-- a refusal other than 8 leaves the working space
pub space_kept : (r : Outcome) (space : List ℕ) → (number_of r ≡ 0 → ⊥) → Not8 r → space ≡ space_after r space
unfolding space_after
space_kept r space n h = rw (ne_eqb (number_of r) 0 n, ne_eqb (number_of r) 8 h.not) refl

-- an accepted call gives the best plan of a table that has passed its checks
pub record Given (t : Table) (p : Planned) : Type 0 where
  pub valid : Valid t
  pub best : best_plan t ≡ some p.labels
  pub answer : p.answer ≡ answered Accepted (heard p.labels)

pub accepted_given : (t : Table) (before : List ℕ) (space : ℕ) → Passed (planned t before space).answer.refusal → Given t (planned t before space)
unfolding planned given
accepted_given t before space = go (passes (checked t before space)) refl (best_plan t) refl
  where
    go : (x : Bool) → passes (checked t before space) ≡ x → (o : Option (List ℕ)) → best_plan t ≡ o
        → Passed (cond x (given o before) (answering (answered (checked t before space) 0) before)).answer.refusal
        → Given t (cond x (given o before) (answering (answered (checked t before space) 0) before))
    go true e none f p = absurd (omega arith)
    go true e (some plan) f p = record { valid = (checked_valid t before space (eqb-true (number_of (checked t before space)) 0 e)).0; best = f; answer = refl }
    go false e o f p = absurd (eqb-false (number_of (checked t before space)) 0 e p)

-- a refused one reports the count 0
pub refused_count : (t : Table) (before : List ℕ) (space : ℕ) → (number_of (planned t before space).answer.refusal ≡ 0 → ⊥) → (planned t before space).answer ≡ answered (planned t before space).answer.refusal 0
unfolding planned given
refused_count t before space = go (passes (checked t before space)) (best_plan t)
  where
    go : (x : Bool) (o : Option (List ℕ)) → (number_of (cond x (given o before) (answering (answered (checked t before space) 0) before)).answer.refusal ≡ 0 → ⊥)
        → (cond x (given o before) (answering (answered (checked t before space) 0) before)).answer ≡ answered (cond x (given o before) (answering (answered (checked t before space) 0) before)).answer.refusal 0
    go true none n = refl
    go true (some plan) n = absurd (n refl)
    go false o n = refl

-- ---- what a call answers depends on the length of the label list alone, where the working space suffices

planned_answer : (t : Table) (before : List ℕ) (space : ℕ) → (planned t before space).answer ≡ cond (passes (checked t before space)) (given (best_plan t) []).answer (answered (checked t before space) 0)
unfolding planned given
planned_answer t before space = go (passes (checked t before space)) (best_plan t)
  where
    go : (x : Bool) (o : Option (List ℕ)) → (cond x (given o before) (answering (answered (checked t before space) 0) before)).answer ≡ cond x (given o []).answer (answered (checked t before space) 0)
    go true none = refl
    go true (some plan) = refl
    go false o = refl

module _ (t : Table) (before before' : List ℕ) (space space' : ℕ) (l : length before ≡ length before') (a : space_bytes ≤ space) (b : space_bytes ≤ space') where
  pub checked_anyhow : checked t before space ≡ checked t before' space'
  unfolding checked space_refusal
  checked_anyhow =
      rw (le-leb space_bytes space a, le-leb space_bytes space' b)
      (ap (λ n. lengths_refusal (rows t) (length t.ends) (length t.marks) n then (table_looked t).refusal) l)

  pub answer_anyhow : (planned t before space).answer ≡ (planned t before' space').answer
  answer_anyhow =
      planned_answer t before space
      ∙ ap (λ r. cond (passes r) (given (best_plan t) []).answer (answered r 0)) checked_anyhow
      ∙ sym (planned_answer t before' space')

-- of the same label list, and the labels too: what a call gives is the same from any working space that is long enough,
pub planned_anyhow : (t : Table) (before : List ℕ) (space space' : ℕ) → space_bytes ≤ space → space_bytes ≤ space'
    → planned t before space ≡ planned t before space'
unfolding planned
planned_anyhow t before space space' a b =
    ap (λ r. cond (passes r) (given (best_plan t) before) (answering (answered r 0) before)) (checked_anyhow t before before space space' refl a b)

-- and from any that is too short
pub planned_short : (t : Table) (before : List ℕ) (space space' : ℕ) → space < space_bytes → space' < space_bytes
    → planned t before space ≡ planned t before space'
unfolding planned checked space_refusal
planned_short t before space space' a b = rw (lt-leb space_bytes space a, lt-leb space_bytes space' b) refl

-- ---- the lists, then the working space, then the rest

module _ (lists rest : Outcome) (space : ℕ) where
  pub lists_first : (number_of lists ≡ 0 → ⊥) → lists ≡ (lists then space_refusal space then rest)
  lists_first n = then_first refl _ n

  pub space_next : Passed lists → space < space_bytes → Space ≡ (lists then space_refusal space then rest)
  unfolding space_refusal
  space_next p h = then_next {a = lists} {r = lists} refl {b = space_refusal space then rest} p (rw (lt-leb space_bytes space h) refl)

  pub rest_next : Passed lists → space_bytes ≤ space → rest ≡ (lists then space_refusal space then rest)
  unfolding space_refusal
  rest_next p h = then_next {a = lists} {r = lists} refl {b = space_refusal space then rest} p (rw (le-leb space_bytes space h) refl)

-- The right answer is the best plan, and refusal 8 where there is none; whatever is a best plan as `IsBestPlan` says
-- is the right answer; and the best plan depends on a table only through `Allowed` and `Clash`.
use Prim.Native.Nat.{ℕ, ◌≤◌, ◌<◌}
use mathlib.Core.Path.{◌≡◌, refl, ap, ◌∙◌}
use mathlib.Core.Logic.{◌≢◌, ◌↔◌}
use mathlib.Core.List.{List}
use mathlib.Core.Option.{Option, none, some}
use native.Mathlib.Omega.{arith}
use borrow.Author.Tests.{eq-eqb, ne_eqb}
use Rattle.basics.specs.Lists.{at}
use Rattle.marks.specs.Marks.{Must}
use Rattle.labels.specs.Labels.{Best}
use Rattle.labels.proofs.Best.{Passes, first_best_iff, first_none, best_iff, assignment_iff}
use Rattle.refusals.specs.Refusals.{number_of, answered, Accepted, NoPlan, Answer}
use Rattle.table.specs.Tables.{Table, rows, row_at, Allowed, Clash, Plan, Valid, is_plan}
use Rattle.table.specs.Planned.{checked, best_plan, answering, given, planned, IsBestPlan}
use Rattle.table.proofs.Plans.{plan_iff}
use Rattle.refusals.proofs.Refusals.{Passed}
use Rattle.table.proofs.Checked.{checked_valid}

module _ (t : Table) (valid : Valid t) where
  -- the lists that the search goes through and that pass its test are the plans: any rival
  searched : (a : List ℕ) → Passes (rows t) (is_plan t) a ↔ Plan t a
  searched a = (
    λ p. (plan_iff t valid a).0 p.2,
    λ P. (P.each, λ i h. (P.allowed i h).known, (plan_iff t valid a).1 P),
  )

  pub best_plan_iff : (a : List ℕ) → (best_plan t ≡ some a) ↔ Best (Plan t) a
  unfolding best_plan
  best_plan_iff a = first_best_iff (Plan t) (rows t) (is_plan t) searched a

  pub no_plan : (best_plan t ≡ none) ↔ ((a : List ℕ) → Plan t a → ⊥)
  unfolding best_plan
  no_plan = first_none (Plan t) (rows t) (is_plan t) searched

-- what is given is as `IsBestPlan` says
best_given : (t : Table) (o : Option (List ℕ)) (before : List ℕ) → best_plan t ≡ o → Valid t → IsBestPlan t (given o before).answer (given o before).labels
unfolding given
best_given t none before e valid =
    let n = (no_plan t valid).0 e in
    record {
      given = (λ q. absurd (never q), λ r. absurd (n r.0 r.1));
      refused = (λ q. n, λ q. refl);
      best = λ q. absurd (never q);
      count = λ q. absurd (never q);
    }
  where
    never : NoPlan ≡ Accepted → ⊥
    never q = let z : ◌≡◌ {A = ℕ} 8 0 = ap number_of q in omega arith
best_given t (some a) before e valid =
    let b = (best_plan_iff t valid a).0 e in
    record {
      given = (λ q. (a, b.member), λ r. refl);
      refused = (λ q. absurd (never q), λ f. absurd (f a b.member));
      best = λ q. b;
      count = λ q. refl;
    }
  where
    never : Accepted ≡ NoPlan → ⊥
    never q = let z : ◌≡◌ {A = ℕ} 0 8 = ap number_of q in omega arith

-- past the checks, a call gives the best plan or refusal 8
pub planned_passed : (t : Table) (before : List ℕ) (space : ℕ) → Passed (checked t before space) → planned t before space ≡ given (best_plan t) before
unfolding planned
planned_passed t before space p = rw (eq-eqb (number_of (checked t before space)) 0 p) refl

-- and before that the first refusal, which changes nothing
pub planned_refused : (t : Table) (before : List ℕ) (space : ℕ) → (number_of (checked t before space) ≡ 0 → ⊥) → planned t before space ≡ answering (answered (checked t before space) 0) before
unfolding planned
planned_refused t before space n = rw (ne_eqb (number_of (checked t before space)) 0 n) refl

-- THE PLANNER GIVES THE BEST PLAN, of every table that passes all checks before 8, whatever the label list held before
pub best_plan_given : (t : Table) (before : List ℕ) (space : ℕ) → Passed (checked t before space) → IsBestPlan t (planned t before space).answer (planned t before space).labels
best_plan_given t before space p =
    rw (planned_passed t before space p) (best_given t (best_plan t) before refl (checked_valid t before space p).0)

-- and nothing else is one: a best plan is what the planner gives,
pub only_best : (t : Table) (before : List ℕ) (space : ℕ) → Passed (checked t before space) → (labels : List ℕ) → Best (Plan t) labels
    → planned t before space ≡ given (some labels) before
only_best t before space p labels b =
    planned_passed t before space p ∙ ap (λ o. given o before) ((best_plan_iff t (checked_valid t before space p).0 labels).1 b)

-- and where there is no plan, it refuses
pub only_none : (t : Table) (before : List ℕ) (space : ℕ) → Passed (checked t before space) → ((rival : List ℕ) → Plan t rival → ⊥)
    → planned t before space ≡ given none before
only_none t before space p n =
    planned_passed t before space p ∙ ap (λ o. given o before) ((no_plan t (checked_valid t before space p).0).1 n)

-- WHATEVER `IsBestPlan` HOLDS OF refuses as the planner does and, where it accepts, gives its answer and its labels.
module _ (t : Table) (before : List ℕ) (space : ℕ) (p : Passed (checked t before space)) (answer : Answer) (labels : List ℕ) (d : IsBestPlan t answer labels) where
  valid : Valid t
  valid = (checked_valid t before space p).0

  pub only_refusal : answer.refusal ≡ (planned t before space).answer.refusal
  unfolding given
  only_refusal = rw (planned_passed t before space p) (go (best_plan t) refl)
    where
      go : (o : Option (List ℕ)) → best_plan t ≡ o → answer.refusal ≡ (given o before).answer.refusal
      go none e = d.refused.1 ((no_plan t valid).0 e)
      go (some a) e = d.given.1 (a, ((best_plan_iff t valid a).0 e).member)

  pub only_answer : answer.refusal ≡ Accepted → answering answer labels ≡ planned t before space
  unfolding given
  only_answer acc = rw (planned_passed t before space p, (best_plan_iff t valid labels).1 (d.best acc)) (λ i. answering (answered (acc i) (d.count acc i)) labels)

-- The best plan depends on a table only through which labels each row may have and which rows clash.
pub same_best : (t u : Table) → Valid t → Valid u → rows t ≡ rows u
    → ((i x : ℕ) → i < rows t → Allowed t.setting (row_at t i) x ↔ Allowed u.setting (row_at u i) x)
    → ((i j : ℕ) → i < rows t → j < rows t → i ≢ j → Clash t.setting (row_at t i) (row_at t j) ↔ Clash u.setting (row_at u i) (row_at u j))
    → best_plan t ≡ best_plan u
same_best t u v w n mays clashes = go (best_plan u) refl
  where
    plans : (l : List ℕ) → Plan t l ↔ Plan u l
    plans l = rw (← n) (assignment_iff (rows t) mays clashes l)

    go : (o : Option (List ℕ)) → best_plan u ≡ o → best_plan t ≡ o
    go none e = (no_plan t v).1 (λ a P. (no_plan u w).0 e a ((plans a).0 P))
    go (some a) e = (best_plan_iff t v a).1 (best_iff (λ l. ((plans l).1, (plans l).0)) ((best_plan_iff u w a).0 e))

-- row i must be heard
pub record MustHear (t : Table) (i : ℕ) : Type 0 where
  pub below : i < rows t
  pub must : Must (row_at t i).mark

module _ (t : Table) (before : List ℕ) (space : ℕ) (p : Passed (checked t before space)) where
  -- three rows that must be heard and clash with each other leave no plan: there are two receivers
  pub three_clash : (i j m : ℕ) → i ≢ j → i ≢ m → j ≢ m → MustHear t i → MustHear t j → MustHear t m
      → Clash t.setting (row_at t i) (row_at t j) → Clash t.setting (row_at t i) (row_at t m) → Clash t.setting (row_at t j) (row_at t m)
      → planned t before space ≡ answering (answered NoPlan 0) before
  unfolding given
  three_clash i j m d e f x y z a b c = only_none t before space p no
    where
      no : (rival : List ℕ) → Plan t rival → ⊥
      no rival plan =
          three (at rival i) (at rival j) (at rival m) (heard i x) (heard j y) (heard m z)
          (λ q. plan.apart i j x.below y.below d (λ r. omega (arith, (heard i x).0)) q a)
          (λ q. plan.apart i m x.below z.below e (λ r. omega (arith, (heard i x).0)) q b)
          (λ q. plan.apart j m y.below z.below f (λ r. omega (arith, (heard j y).0)) q c)
        where
          heard : (i : ℕ) → MustHear t i → (1 ≤ at rival i) × (at rival i ≤ 2)
          heard i x = let a = plan.allowed i x.below in (omega (arith, a.must x.must), a.known)

          three : (x y z : ℕ) → (1 ≤ x) × (x ≤ 2) → (1 ≤ y) × (y ≤ 2) → (1 ≤ z) × (z ≤ 2) → x ≢ y → x ≢ z → y ≢ z → ⊥
          three x y z a b c d e f = omega (arith, d, e, f)

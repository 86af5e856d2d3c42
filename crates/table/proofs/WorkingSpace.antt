-- Laws of the working space that the planner is lent: it needs 4,608 bytes and is refused 3 with fewer, it answers
-- the same from any that is long enough, and it clears 4,608 bytes and touches no other. The number is written out,
-- so that it pins the constant. Of the other calls that are lent working space: the files of the same name in the
-- crates `held_table`, `candidates` and `reply`.
use Prim.Native.Nat.{ℕ, zero, suc, ◌≤◌, ◌<◌}
use mathlib.Core.Path.{◌≡◌, refl, sym, ap, subst, ◌∙◌}
use mathlib.Core.Logic.{◌≢◌, ◌↔◌, ◌⊎◌, inl, inr, ⊎_elim}
use mathlib.Core.Bool.{Bool, true, false, cond, ◌||◌}
use mathlib.Core.List.{List, [], ◌∷◌, ◌++◌}
use mathlib.Core.Option.{Option, none, some}
use native.Mathlib.Omega.{arith}
use borrow.Author.Tests.{ne_eqb, leb-true}
use lib.Dec.{leb, eqb}
use lib.ListN.{length, drop, replicate, length-replicate, get_or-replicate, get_or-append}
use lib.Seq.{drop-nil}
use Rattle.basics.specs.Lists.{at}
use Rattle.std.proofs.lemmas.Bool.{cases_lt}
use Rattle.refusals.specs.Refusals.{number_of, answered, passes, ◌then◌, Accepted, Space, NoPlan, Outcome}
use Rattle.refusals.proofs.Refusals.{Passed, then_passed, asked_passed}
use Rattle.table.specs.Tables.{Table}
use Rattle.table.specs.Checks.{lists_refusal, table_looked}
use Rattle.table.specs.Planned.{space_bytes, space_refusal, checked, best_plan, Planned, answering, given, planned, space_after, plan_call}
use Rattle.table.proofs.Checked.{Not, table_3, checked_8}
use Rattle.table.proofs.Rivals.{planned_refused}
use Rattle.table.proofs.Calls.{planned_anyhow, planned_short, space_next, rest_next}

-- ---- refusal 3 begins below 4,608

module _ (t : Table) (before : List ℕ) (space : ℕ) where
  -- what holds of a plan, of 8 and of what the checks give holds of what a call ends in
  ends_in : (P : Outcome → Type 0) → P Accepted → P NoPlan → P (checked t before space) → P (planned t before space).answer.refusal
  unfolding planned given
  ends_in P accepted none-heard refused = go (passes (checked t before space)) (best_plan t)
    where
      go : (x : Bool) (o : Option (List ℕ)) → P (cond x (given o before) (answering (answered (checked t before space) 0) before)).answer.refusal
      go true none = none-heard
      go true (some plan) = accepted
      go false o = refused

  -- where 1 and 2 do not apply, 3 is reported exactly below 4,608
  module _ (lists : Passed (lists_refusal t before)) where
    pub refused_3 : space < 4608 → planned t before space ≡ answering (answered Space 0) before
    unfolding checked
    refused_3 h =
        let first = space_next (lists_refusal t before) (table_looked t).refusal space lists h in
        planned_refused t before space (λ z. omega (arith, ap number_of first)) ∙ ap (λ r. answering (answered r 0) before) (sym first)

    never_3 : 4608 ≤ space → Not 3 (planned t before space).answer.refusal
    unfolding checked
    never_3 h =
        ends_in (Not 3) (record { not = λ e. omega arith }) (record { not = λ e. omega arith })
        (subst (Not 3) (rest_next (lists_refusal t before) (table_looked t).refusal space lists h) (table_3 t))

    pub begins_3 : ((planned t before space).answer.refusal ≡ Space) ↔ (space < 4608)
    begins_3 = (
      λ e. ⊎_elim (λ h. h) (λ h. absurd ((never_3 h).not (ap number_of e))) (cases_lt space 4608),
      λ h. ap (λ (p : Planned). p.answer.refusal) (refused_3 h),
    )

-- ---- the answer is the same from any working space that is long enough, whatever it holds

-- Answer and labels do not depend on what lies in the working space, nor on how long it is beyond 4,608.
pub any_space : (t : Table) (labels space space' : List ℕ) → 4608 ≤ length space → 4608 ≤ length space'
    → ((plan_call t labels space).answer ≡ (plan_call t labels space').answer)
    × ((plan_call t labels space).labels ≡ (plan_call t labels space').labels)
unfolding plan_call
any_space t labels space space' a b =
    let e = planned_anyhow t labels (length space) (length space') a b in
    (ap (λ (p : Planned). p.answer) e, ap (λ (p : Planned). p.labels) e)

-- Of any two that are equally long they are the same,
pub any_bytes : (t : Table) (labels space space' : List ℕ) → length space ≡ length space'
    → ((plan_call t labels space).answer ≡ (plan_call t labels space').answer)
    × ((plan_call t labels space).labels ≡ (plan_call t labels space').labels)
unfolding plan_call
any_bytes t labels space space' e = (ap (λ n. (planned t labels n).answer) e, ap (λ n. (planned t labels n).labels) e)

-- and of any two that are too short
pub short_space : (t : Table) (labels space space' : List ℕ) → length space < 4608 → length space' < 4608
    → ((plan_call t labels space).answer ≡ (plan_call t labels space').answer)
    × ((plan_call t labels space).labels ≡ (plan_call t labels space').labels)
unfolding plan_call
short_space t labels space space' a b =
    let e = planned_short t labels (length space) (length space') a b in
    (ap (λ (p : Planned). p.answer) e, ap (λ (p : Planned). p.labels) e)

-- ---- which bytes are cleared

-- what a call that ends in this leaves in the working space, byte for byte
pub record Left (r : Outcome) (space after : List ℕ) : Type 0 where
  -- the first 4,608 after a plan and after 8,
  pub cleared : (number_of r ≡ 0) ⊎ (number_of r ≡ 8) → (i : ℕ) → i < 4608 → at after i ≡ 0
  -- none beyond them,
  pub beyond : (i : ℕ) → 4608 ≤ i → at after i ≡ at space i
  -- and none at all after any other refusal
  pub untouched : number_of r ≢ 0 → number_of r ≢ 8 → after ≡ space
  -- a list that is long enough stays as long as it was
  pub as_long : 4608 ≤ length space → length after ≡ length space

-- n bytes cleared: they are 0, and the others as they were
cleared_at : (n : ℕ) (space : List ℕ) (i : ℕ) → i < n → at (replicate n 0 ++ drop n space) i ≡ 0
cleared_at n space i h = get_or-append (replicate n 0) (drop n space) 0 i (rw (length-replicate {A = ℕ} n 0) h) ∙ get_or-replicate n i 0 0 h

beyond_at : (n : ℕ) (space : List ℕ) (i : ℕ) → n ≤ i → at (replicate n 0 ++ drop n space) i ≡ at space i
beyond_at zero space i h = refl
beyond_at (suc n) space zero h = absurd (omega arith)
beyond_at (suc n) [] (suc i) h = ap (λ (l : List ℕ). at (replicate n 0 ++ l) i) (sym (drop-nil n)) ∙ beyond_at n [] i (omega arith)
beyond_at (suc n) (x ∷ space) (suc i) h = beyond_at n space i (omega arith)

cleared_length : (n : ℕ) (space : List ℕ) → n ≤ length space → length (replicate n 0 ++ drop n space) ≡ length space
cleared_length zero space h = refl
cleared_length (suc n) [] h = absurd (omega arith)
cleared_length (suc n) (x ∷ space) h = ap suc (cleared_length n space (omega arith))

pub clears : (r : Outcome) (space : List ℕ) → Left r space (space_after r space)
unfolding space_after
clears r space =
    record {
      cleared = λ e i h. rw (one_of e) (cleared_at space_bytes space i h);
      beyond = λ i h. either (passes r || eqb (number_of r) 8) i (beyond_at space_bytes space i h);
      untouched = λ n m. rw (ne_eqb (number_of r) 0 n, ne_eqb (number_of r) 8 m) refl;
      as_long = λ h. as_long (passes r || eqb (number_of r) 8) (cleared_length space_bytes space h);
    }
  where
    one_of : (number_of r ≡ 0) ⊎ (number_of r ≡ 8) → (passes r || eqb (number_of r) 8) ≡ true
    one_of (inl e) = rw e refl
    one_of (inr e) = rw e refl

    either : (x : Bool) (i : ℕ) → at (replicate space_bytes 0 ++ drop space_bytes space) i ≡ at space i → at (cond x (replicate space_bytes 0 ++ drop space_bytes space) space) i ≡ at space i
    either true i e = e
    either false i e = refl

    as_long : (x : Bool) → length (replicate space_bytes 0 ++ drop space_bytes space) ≡ length space → length (cond x (replicate space_bytes 0 ++ drop space_bytes space) space) ≡ length space
    as_long true e = e
    as_long false e = refl

-- so of the planner
pub space_left : (t : Table) (labels space : List ℕ) → Left (plan_call t labels space).answer.refusal space (plan_call t labels space).space
unfolding plan_call
space_left t labels space = clears (planned t labels (length space)).answer.refusal space

-- where it is lent fewer than 4,608 bytes, whatever else is wrong, all of them are as they were
pub short_untouched : (t : Table) (labels space : List ℕ) → length space < 4608 → (plan_call t labels space).space ≡ space
unfolding plan_call checked space_refusal
short_untouched t labels space h =
    let refused = planned_refused t labels (length space) not_passed in
    let same : (planned t labels (length space)).answer.refusal ≡ checked t labels (length space) = ap (λ (p : Planned). p.answer.refusal) refused in
    (clears (planned t labels (length space)).answer.refusal space).untouched
    (λ z. not_passed (sym (ap number_of same) ∙ z))
    (λ z. (checked_8 t labels (length space)).not (sym (ap number_of same) ∙ z))
  where
    not_passed : Passed (checked t labels (length space)) → ⊥
    not_passed p =
        let rest = (then_passed (lists_refusal t labels) (space_refusal (length space) then (table_looked t).refusal) p).1 in
        let room = (then_passed (space_refusal (length space)) (table_looked t).refusal rest).0 in
        omega (arith, h, leb-true space_bytes (length space) (asked_passed (leb space_bytes (length space)) Space (omega arith) room))

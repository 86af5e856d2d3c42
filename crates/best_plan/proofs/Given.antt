-- The core's answer is the best plan of the table, or that there is none; and so is its count.
use Prim.Native.Nat.{ℕ, zero, suc, ◌<◌}
use mathlib.Core.Path.{◌≡◌, refl, ap}
use mathlib.Core.List.{List, map}
use mathlib.Core.Option.{Option, none, some}
use native.Mathlib.Omega.{arith}
use Rattle.std.specs.Prelude.{None, Some}
use Rattle.labels.specs.Labels.{heard}
use Rattle.labels.specs.Permission.{label_of}
use Rattle.labels.proofs.Best.{best_iff}
use Rattle.arcs.specs.Arcs.{Assigned}
use Rattle.refusals.specs.Refusals.{answered, Accepted, NoPlan}
use Rattle.table.specs.Tables.{Table, Valid}
use Rattle.table.specs.Planned.{best_plan, answering, given}
use Rattle.table.proofs.Rivals.{best_plan_iff, no_plan}
use Rattle.tracks.specs.Tracks.{Most, Answered}
use Rattle.best_plan.specs.Rows.{circle_of, ArcsOf, count_in, count_of}
use Rattle.best_plan.proofs.Rows.{plan_assigned}

-- ---- the core's answer as a count

none_in : (r : ℕ) → count_in r ≡ None → r ≡ 0
none_in zero e = refl
none_in (suc n) e = cc e

one_in : (r count : ℕ) → count_in r ≡ Some count → r ≡ suc count
one_in zero count e = cc e
one_in (suc n) count e = cc e

-- ---- a checked table

module _ (t : Table) (valid : Valid t) (before : List ℕ) {starts lengths perms : List ℕ} (arcs : ArcsOf t starts lengths perms)
    {r : ℕ} {left : List ℕ} (a : Answered (Assigned (circle_of t.setting) starts lengths perms) r left) where
  none_left : r ≡ 0 → best_plan t ≡ none
  none_left e = (no_plan t valid).1 (λ l P. a.none e l ((plan_assigned t valid arcs l).0 P))

  one_left : 0 < r → best_plan t ≡ some (map label_of left)
  one_left h = (best_plan_iff t valid (map label_of left)).1 (best_iff (λ l. ((plan_assigned t valid arcs l).1, (plan_assigned t valid arcs l).0)) (a.found h))

  pub none_given : count_in r ≡ None → answering (answered NoPlan 0) before ≡ given (best_plan t) before
  unfolding given
  none_given e = rw (none_left (none_in r e)) refl

  pub one_given : (count : ℕ) → count_in r ≡ Some count → (after : List ℕ) → after ≡ map label_of left → answering (answered Accepted count) after ≡ given (best_plan t) before
  unfolding given
  one_given count q after e =
      let k = one_in r count q in
      let h : 0 < r = omega arith in
      let n : count ≡ heard (map label_of left) = omega (arith, a.count h) in
      rw (one_left h, e, n) refl

-- ---- the count alone

module _ (t : Table) (valid : Valid t) {starts lengths perms : List ℕ} (arcs : ArcsOf t starts lengths perms)
    {r : ℕ} (m : Most (Assigned (circle_of t.setting) starts lengths perms) r) where
  pub count_given : count_in r ≡ count_of (best_plan t)
  unfolding count_of
  count_given = go r (best_plan t) refl refl
    where
      go : (n : ℕ) (o : Option (List ℕ)) → r ≡ n → best_plan t ≡ o → count_in n ≡ count_of o
      go zero none e q = refl
      go zero (some a) e q = absurd (omega (arith, m.bound a ((plan_assigned t valid arcs a).0 ((best_plan_iff t valid a).0 q).member)))
      go (suc n) none e q = let f = m.reached (omega arith) in absurd ((no_plan t valid).0 q f.0 ((plan_assigned t valid arcs f.0).1 f.1))
      go (suc n) (some a) e q =
          let b = (best_plan_iff t valid a).0 q in
          let least = m.bound a ((plan_assigned t valid arcs a).0 b.member) in
          let f = m.reached (omega arith) in
          let same : n ≡ heard a = omega (arith, f.2, b.most f.0 ((plan_assigned t valid arcs f.0).1 f.1)) in
          ap Some same

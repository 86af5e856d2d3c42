-- What holds of held tables that came from the calls, and what each change of one keeps; and so what the functions
-- promise.
use Prim.Native.Nat.{ℕ}
use mathlib.Core.Path.{◌≡◌, refl, sym, ap, subst, ◌∙◌}
use mathlib.Core.Logic.{◌≢◌}
use mathlib.Core.Bool.{Bool, true, false, cond}
use mathlib.Core.List.{List}
use native.Mathlib.Omega.{arith}
use borrow.Author.Tests.{eqb-true}
use lib.Dec.{leb, ltb}
use lib.ListN.{length}
use Rattle.labels.specs.Labels.{heard, first_best}
use Rattle.window.specs.declared.Kind.TheVariants.{Round}
use Rattle.window.specs.declared.Row.{Row}
use Rattle.window.specs.Hours.{no_hours}
use Rattle.refusals.specs.Refusals.{number_of, asked, passes, Space, NoPlan, NoRow, Answer, Outcome}
use Rattle.refusals.proofs.Refusals.{Passed, then_either}
use Rattle.table.specs.Tables.{Table, rows, setting_of, is_plan}
use Rattle.table.specs.Checks.{ticks_refusal, hours_refusal, gap_refusal, setting_refusal, table_looked}
use Rattle.table.specs.Planned.{space_bytes, space_refusal, best_plan}
use Rattle.table.proofs.Checked.{Not8, asked_8, setting_passed}
use Rattle.held_table.specs.declared.Numbers.{Numbers}
use Rattle.held_table.specs.Held.{HeldTable, kept, numbers_of, held_table, empty, begin_refusal, refused_ticks, refused_gap, refused_begin, begun, Change, change, added, withdrawn, gave, called, add_call, withdraw_call}
use Rattle.held_table.specs.Came.{HasPlaces, Came, from_begin, from_add, from_withdraw, PlanHeld, withdraw_refusal, ChangesHeldTable, AddsRow, WithdrawsRow}
use Rattle.held_table.proofs.Right.{Right, right_looked, right_plan}
use Rattle.held_table.proofs.Order.{add_kept, withdraw_kept}

-- ---- a begin

-- 4 and then 14 are the checks of a round's setting, in which 5 passes
round_passed : (R g : ℕ) → Passed (begin_refusal R g) → Passed (setting_refusal (setting_of Round R g no_hours))
unfolding setting_refusal hours_refusal
round_passed R g p = p

-- the table that stands for a refused begin is one that a begin could have given
refused_passed : Passed (begin_refusal refused_ticks refused_gap)
unfolding ticks_refusal gap_refusal
refused_passed = refl

-- a round that passes its checks, with no rows
empty_right : (R g : ℕ) → Passed (setting_refusal (setting_of Round R g no_hours)) → {starts ends marks labels : List ℕ}
    → HasPlaces (kept (numbers_of R g 0 0) starts ends marks labels) → Right (kept (numbers_of R g 0 0) starts ends marks labels)
unfolding best_plan first_best is_plan heard
empty_right R g p places =
    record {
      places = places;
      most = omega arith;
      valid = record {
        few = omega arith;
        each_end = refl;
        each_mark = refl;
        setting = setting_passed (setting_of Round R g no_hours) p;
        row = λ i h. absurd (omega arith);
      };
      best = refl;
      count = refl;
    }

-- what a begin gives that passes its checks, or does not
abbrev numbers_if : Bool → ℕ → ℕ → Numbers
numbers_if passed R g = (cond passed (empty (begin_refusal R g) R g) (refused_begin (begin_refusal R g))).numbers

begun_right : (R g : ℕ) {starts ends marks labels : List ℕ} → HasPlaces (kept (begun R g).numbers starts ends marks labels) → Right (kept (begun R g).numbers starts ends marks labels)
unfolding begun
begun_right R g {starts} {ends} {marks} {labels} = go (passes (begin_refusal R g)) refl
  where
    go : (x : Bool) → passes (begin_refusal R g) ≡ x → HasPlaces (kept (numbers_if x R g) starts ends marks labels)
        → Right (kept (numbers_if x R g) starts ends marks labels)
    go true e p = empty_right R g (round_passed R g (eqb-true (number_of (begin_refusal R g)) 0 e)) p
    go false e p = empty_right refused_ticks refused_gap (round_passed refused_ticks refused_gap refused_passed) p

-- ---- the promise, of held tables that came from these calls

came_right : {h : HeldTable} → Came h → Right h
came_right (from_begin R g p) = begun_right R g p
came_right (from_add c new space) = (add_kept _ (came_right c) new space).1
came_right (from_withdraw c k space) = (withdraw_kept _ (came_right c) k space).1

module _ {h : HeldTable} (c : Came h) where
  -- the table passes its checks
  pub came_looked : Passed (table_looked (held_table h)).refusal
  came_looked = right_looked h (came_right c)

  -- THE HELD PLAN IS THE ONE THAT PLANNING THE WHOLE TABLE GIVES.
  pub came_plan : PlanHeld h
  came_plan = right_plan h (came_right c)

  pub adds_row : (new : Row) (space : ℕ) → AddsRow h new space (added h new space)
  adds_row new space = (add_kept h (came_right c) new space).0

  pub withdraws_row : (k space : ℕ) → WithdrawsRow h k space (withdrawn h k space)
  withdraws_row k space = (withdraw_kept h (came_right c) k space).0

  -- A WITHDRAWAL NEVER ENDS IN 8: each of these tables has a plan, and so one without any of its rows.
  pub never_8 : (k space : ℕ) → (withdrawn h k space).answer.refusal ≢ NoPlan
  unfolding withdraw_refusal space_refusal
  never_8 k space e =
      (then_either Not8 {a = space_refusal space} {b = asked (ltb k (rows (held_table h))) NoRow}
      (asked_8 (leb space_bytes space) {r = Space} (record { not = λ z. omega arith }))
      (asked_8 (ltb k (rows (held_table h))) {r = NoRow} (record { not = λ z. omega arith }))
      ).not (ap number_of (sym (withdraws_row k space).refusal ∙ e))

-- ---- what the functions promise, from what they compute

module _ (h : HeldTable) (space : List ℕ) {a : Answer} {h' : HeldTable} {space' : List ℕ} where
  promised : {r : Outcome} {t : Table} {c : Change} → gave a h' space' ≡ called c space → (Came h → ChangesHeldTable h r t c) → Came h → ChangesHeldTable h r t (change a h')
  promised {r} {t} e f p = subst (ChangesHeldTable h r t) (λ i. change (sym e i).answer (sym e i).held) (f p)

  pub add_said : (new : Row) → gave a h' space' ≡ add_call h new space
      → (gave a h' space' ≡ add_call h new space) × (Came h → AddsRow h new (length space) (change a h'))
  unfolding add_call
  add_said new e = (e, promised e (λ p. adds_row p new (length space)))

  pub withdraw_said : (k : ℕ) → gave a h' space' ≡ withdraw_call h k space
      → (gave a h' space' ≡ withdraw_call h k space) × (Came h → WithdrawsRow h k (length space) (change a h'))
  unfolding withdraw_call
  withdraw_said k e = (e, promised e (λ p. withdraws_row p k (length space)))

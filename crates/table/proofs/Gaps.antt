-- Laws of the gap: the ticks between two windows of a receiver, a gap of R or more, a window beside itself, a shorter
-- gap, and where refusal 14 begins and stands. When two windows are too close: the crate `window`, proofs/Gaps.antt.
-- A gap of 0: PlainPlans.antt.
use Prim.Native.Nat.{ℕ, zero, suc, ◌≤◌, ◌<◌}
use mathlib.Core.Path.{◌≡◌, refl, sym, ap, ◌∙◌}
use mathlib.Core.Logic.{◌≢◌, ◌↔◌}
use mathlib.Core.Bool.{Bool, cond}
use mathlib.Core.List.{List, [], ◌∷◌}
use native.Mathlib.Omega.{arith}
use lib.Dec.{leb}
use borrow.Author.Tests.{lt-leb}
use Rattle.basics.specs.Lists.{at}
use Rattle.basics.proofs.Tests.{Test, pass, fail, test}
use Rattle.window.specs.declared.Kind.TheVariants.{Round}
use Rattle.window.specs.Rows.{row}
use Rattle.window.specs.Hours.{no_hours}
use Rattle.window.specs.Windows.{walk, Covers}
use Rattle.window.specs.Gaps.{max_gap}
use Rattle.window.proofs.Gaps.{too_close_more, whole_gap, free_after}
use Rattle.refusals.specs.Refusals.{number_of, answered, asked, Accepted, Gap, NoPlan}
use Rattle.refusals.proofs.Refusals.{Passed, then_next}
use Rattle.table.specs.Tables.{setting_of, Table, table, table_of, rows, row_at, Allowed, Clash, Plan, Valid}
use Rattle.table.specs.Checks.{lists_refusal, ticks_refusal, hours_refusal, gap_refusal, setting_refusal, table_looked}
use Rattle.table.specs.Planned.{space_refusal, checked, best_plan, answering, given, planned}
use Rattle.table.proofs.Plans.{allowed_alike}
use Rattle.table.proofs.Checked.{checked_valid}
use Rattle.table.proofs.Rivals.{planned_passed, planned_refused, same_best, MustHear, three_clash}

-- ---- a receiver has as many free ticks as the gap between two different windows

-- In any labels that are a plan, none of the g ticks after a heard row's window lies in another window of its
-- receiver. It holds on both sides of a window, since i and j are any two rows.
pub gap_free : (t : Table) → Valid t → (labels : List ℕ) → Plan t labels → (i j : ℕ) → i < rows t → j < rows t → i ≢ j → at labels i ≢ 0 → at labels i ≡ at labels j
    → (k : ℕ) → k < t.setting.gap → walk t.setting.kind t.setting.ticks (row_at t i).end k < t.setting.ticks
    → Covers t.setting.kind t.setting.ticks (row_at t j).start (row_at t j).end (walk t.setting.kind t.setting.ticks (row_at t i).end k) → ⊥
gap_free t valid labels plan i j h l d n e =
    free_after t.setting.kind t.setting.ticks t.setting.gap (row_at t i).start (row_at t i).end (row_at t j).start (row_at t j).end
    (valid.row i h).window (valid.row j l).window (plan.apart i j h l d n e)

-- ---- a gap of R or more, in a round

module _ (t : Table) (valid : Valid t) (round : t.setting.kind ≡ Round) (long : t.setting.ticks ≤ t.setting.gap) where
  pub long_gap_clashes : (i j : ℕ) → i < rows t → j < rows t → Clash t.setting (row_at t i) (row_at t j)
  long_gap_clashes i j h l =
      rw round
      (whole_gap t.setting.ticks t.setting.gap (row_at t i).start (row_at t i).end (row_at t j).start (row_at t j).end long
      (rw round at (valid.row i h).window) (rw round at (valid.row j l).window))

  -- a receiver hears one window
  pub one_window : (labels : List ℕ) → Plan t labels → (i j : ℕ) → i < rows t → j < rows t → i ≢ j → at labels i ≢ 0 → at labels i ≢ at labels j
  one_window labels plan i j h l d n e = plan.apart i j h l d n e (long_gap_clashes i j h l)

-- so three rows that must be heard are one too many, and the call is refused 8
pub long_gap_8 : (t : Table) (before : List ℕ) (space : ℕ) → Passed (checked t before space) → t.setting.kind ≡ Round → t.setting.ticks ≤ t.setting.gap
    → (i j m : ℕ) → i ≢ j → i ≢ m → j ≢ m → MustHear t i → MustHear t j → MustHear t m → planned t before space ≡ answering (answered NoPlan 0) before
long_gap_8 t before space p round long i j m d e f x y z =
    let clashes = long_gap_clashes t (checked_valid t before space p).0 round long in
    three_clash t before space p i j m d e f x y z (clashes i j x.below y.below) (clashes i m x.below z.below) (clashes j m y.below z.below)

-- ---- a window is never too close to itself

-- one row alone in a round of 2 ticks, and the label that it has
abbrev example : ℕ → Table
example mark = table_of (setting_of Round 2 0 no_hours) (row 0 1 mark ∷ [])

abbrev heard_on : ℕ → ℕ
heard_on mark = cond (leb mark 3) 1 2

-- A row alone in a round is heard, however long its window and the gap are, also where fewer than g ticks lie between
-- its end and its start: by receiver 2 where its mark, 4 or 5, excludes receiver 1.
pub alone : (t : Table) (before : List ℕ) (space : ℕ) → Passed (checked t before space) → t.setting.kind ≡ Round → rows t ≡ 1
    → planned t before space ≡ answering (answered Accepted 1) (heard_on (row_at t 0).mark ∷ [])
unfolding best_plan checked given
alone t before space p round n = go (row_at t 0).mark refl
  where
    valid : Valid t
    valid = (checked_valid t before space p).0

    as_example : (mark : ℕ) → (row_at t 0).mark ≡ mark → Passed (checked (example mark) (0 ∷ []) 4608) → planned t before space ≡ given (best_plan (example mark)) before
    as_example mark e q =
        planned_passed t before space p
        ∙ ap (λ o. given o before) (same_best t (example mark) valid (checked_valid (example mark) (0 ∷ []) 4608 q).0 n mays (λ i j h l d. absurd (d (omega arith))))
      where
        mays : (i x : ℕ) → i < rows t → Allowed t.setting (row_at t i) x ↔ Allowed (example mark).setting (row_at (example mark) i) x
        mays zero x h = (
          allowed_alike t.setting (row_at t 0) (example mark).setting (row_at (example mark) 0) e x tt,
          allowed_alike (example mark).setting (row_at (example mark) 0) t.setting (row_at t 0) (sym e) x (rw round tt),
        )
        mays (suc i) x h = absurd (omega arith)

    go : (mark : ℕ) → (row_at t 0).mark ≡ mark → planned t before space ≡ answering (answered Accepted 1) (heard_on mark ∷ [])
    go zero e = as_example 0 e refl
    go (suc zero) e = as_example 1 e refl
    go (suc (suc zero)) e = as_example 2 e refl
    go (suc (suc (suc zero))) e = as_example 3 e refl
    go (suc (suc (suc (suc zero)))) e = as_example 4 e refl
    go (suc (suc (suc (suc (suc zero))))) e = as_example 5 e refl
    go (suc (suc (suc (suc (suc (suc mark)))))) e = absurd (omega (arith, (valid.row 0 (omega arith)).mark))

-- ---- a shorter gap

-- the table with another gap
abbrev pub with_gap : Table → ℕ → Table
with_gap t g = table (setting_of t.setting.kind t.setting.ticks g t.setting.hours) t.starts t.ends t.marks

-- a plan is one with every shorter gap too, and so with a gap of 0
pub plan_shorter : (t : Table) (g : ℕ) → g ≤ t.setting.gap → (labels : List ℕ) → Plan t labels → Plan (with_gap t g) labels
plan_shorter t g l labels plan =
    record {
      each = plan.each;
      allowed = λ i h. let a = plan.allowed i h in allowed_alike t.setting (row_at t i) (with_gap t g).setting (row_at t i) refl (at labels i) a.hours a;
      apart = λ i j h k d n e c.
          plan.apart i j h k d n e
          (too_close_more t.setting.kind t.setting.ticks g (row_at t i).start (row_at t i).end (row_at t j).start (row_at t j).end t.setting.gap l c);
    }

-- ---- refusal 14

-- it begins at a gap of 601
pub begins_14 : (g : ℕ) → (gap_refusal g ≡ Gap) ↔ (600 < g)
unfolding gap_refusal
begins_14 g = go (test g max_gap)
  where
    go : {b : Bool} → Test g max_gap b → (asked b Gap ≡ Gap) ↔ (600 < g)
    go (pass l) = (λ e. let z : ◌≡◌ {A = ℕ} 0 14 = ap number_of e in absurd (omega arith), λ m. absurd (omega arith))
    go (fail l) = (λ e. omega arith, λ m. refl)

-- it comes after 5 and before the rows, whatever they are:

module _ (t : Table) (ticks : Passed (ticks_refusal t.setting.ticks)) (hours : Passed (hours_refusal t.setting.kind t.setting.ticks t.setting.hours)) (long : max_gap < t.setting.gap) where
  -- from the checks of a table,
  pub table_14 : Gap ≡ (table_looked t).refusal
  unfolding table_looked setting_refusal gap_refusal
  table_14 = rw (← setting) refl
    where
      setting : Gap ≡ setting_refusal t.setting
      setting =
          then_next {a = ticks_refusal t.setting.ticks} refl ticks
          (then_next {a = hours_refusal t.setting.kind t.setting.ticks t.setting.hours} refl hours (rw (lt-leb t.setting.gap max_gap long) refl))

  -- and from the planner; from the writer: the crate `plan_tape`, proofs/Gaps.antt
  pub refused_14 : (before : List ℕ) (space : ℕ) → Passed (lists_refusal t before) → Passed (space_refusal space) → planned t before space ≡ answering (answered Gap 0) before
  unfolding checked
  refused_14 before space lists room =
      planned_refused t before space (λ z. omega (arith, ap number_of first)) ∙ ap (λ r. answering (answered r 0) before) (sym first)
    where
      first : Gap ≡ checked t before space
      first = then_next {a = lists_refusal t before} refl lists (then_next {a = space_refusal space} refl room table_14)

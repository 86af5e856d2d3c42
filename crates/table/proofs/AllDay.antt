-- Laws of beacons that send all day, in a round, their start being their end: which of them refusal 6 meets, that
-- such a beacon has a receiver to itself, and what calls then give. What such a window covers: the crate `window`,
-- proofs/AllDay.antt. Tables without one: PlainPlans.antt.
use Prim.Native.Nat.{ℕ, zero, suc, ◌≤◌, ◌<◌}
use mathlib.Core.Path.{◌≡◌, refl, sym, ap, ◌∙◌}
use mathlib.Core.Logic.{◌≢◌, ◌↔◌}
use mathlib.Core.Bool.{Bool, true, false, ◌&&◌}
use mathlib.Core.List.{List, [], ◌∷◌}
use native.Mathlib.Omega.{arith}
use lib.Dec.{leb}
use Rattle.basics.specs.Lists.{at}
use Rattle.basics.proofs.Tests.{Test, pass, fail, test}
use Rattle.marks.specs.Marks.{max_mark}
use Rattle.window.specs.declared.Kind.TheVariants.{Round, Run}
use Rattle.window.specs.declared.Row.{Row}
use Rattle.window.specs.Rows.{row}
use Rattle.window.specs.Hours.{no_hours}
use Rattle.window.specs.Gaps.{overlap}
use Rattle.window.proofs.AllDay.{all_day_overlaps, all_day_in_run}
use Rattle.refusals.specs.Refusals.{number_of, answered, asked, ◌then◌, Accepted, Window, Mark, NoPlan}
use Rattle.refusals.proofs.Refusals.{Passed}
use Rattle.table.specs.declared.Setting.{Setting}
use Rattle.table.specs.Tables.{setting_of, Table, table_of, rows, row_at, Allowed, Clash, Plan, Valid}
use Rattle.table.specs.Checks.{row_refusal}
use Rattle.table.specs.Planned.{checked, best_plan, answering, given, planned}
use Rattle.table.proofs.Plans.{unmarked}
use Rattle.table.proofs.Checked.{checked_valid}
use Rattle.table.proofs.Rivals.{planned_passed, same_best, MustHear, three_clash}

-- ---- refusal 6

module _ (S : Setting) (row : Row) (q : row.start ≡ row.end) where
  -- in a round start and end, which are equal, must be below R and nothing more,
  pub refused_6_round : S.kind ≡ Round → (row_refusal S row ≡ Window) ↔ (S.ticks ≤ row.start)
  unfolding row_refusal
  refused_6_round k = rw (k, ← q) (go (leb row.mark max_mark) (test (suc row.start) S.ticks))
    where
      go : (mark : Bool) {b : Bool} → Test (suc row.start) S.ticks b → (asked (b && b) Window then asked mark Mark ≡ Window) ↔ (S.ticks ≤ row.start)
      go true (pass h) = (λ e. let z : ◌≡◌ {A = ℕ} 0 6 = ap number_of e in absurd (omega arith), λ l. absurd (omega arith))
      go false (pass h) = (λ e. let z : ◌≡◌ {A = ℕ} 7 6 = ap number_of e in absurd (omega arith), λ l. absurd (omega arith))
      go mark (fail h) = (λ e. omega arith, λ l. refl)

  -- and a run refuses the row
  pub refused_6_run : S.kind ≡ Run → row_refusal S row ≡ Window
  unfolding row_refusal
  refused_6_run k = rw (k, ← q, all_day_in_run S.ticks row.start) refl

-- ---- its window overlaps every other

-- row i is one of a round, and its start is its end
pub record AllDay (t : Table) (i : ℕ) : Type 0 where
  pub round : t.setting.kind ≡ Round
  pub below : i < rows t
  pub same : (row_at t i).start ≡ (row_at t i).end

module _ (t : Table) (valid : Valid t) where
  pub all_day_clashes : (i j : ℕ) → AllDay t i → j < rows t → Clash t.setting (row_at t i) (row_at t j)
  all_day_clashes i j a l =
      rw (a.round, ← a.same)
      (overlap (all_day_overlaps t.setting.ticks (row_at t i).start (rw a.round at (valid.row i a.below).window).0
      (row_at t j).start (row_at t j).end (rw a.round at (valid.row j l).window)))

  -- so a beacon that sends all day and is heard has its receiver to itself, in any labels that are a plan
  module _ (labels : List ℕ) (plan : Plan t labels) where
    pub alone : (i j : ℕ) → AllDay t i → j < rows t → i ≢ j → at labels i ≢ 0 → at labels i ≢ at labels j
    alone i j a l d n e = plan.apart i j a.below l d n e (all_day_clashes i j a l)

-- ---- what calls give

module _ (t : Table) (before : List ℕ) (space : ℕ) (p : Passed (checked t before space)) where
  -- two beacons that send all day and must be heard leave no receiver to a third row that must be
  pub refused_8 : (i j m : ℕ) → i ≢ j → i ≢ m → j ≢ m → AllDay t i → AllDay t j → MustHear t i → MustHear t j → MustHear t m
      → planned t before space ≡ answering (answered NoPlan 0) before
  refused_8 i j m d e f a b x y z =
      let clashes = all_day_clashes t (checked_valid t before space p).0 in
      three_clash t before space p i j m d e f x y z (clashes i j a b.below) (clashes i m a z.below) (clashes j m b z.below)

-- three of them in the shortest round
abbrev example : Table
example = table_of (setting_of Round 2 0 no_hours) (row 0 0 0 ∷ row 0 0 0 ∷ row 0 0 0 ∷ [])

-- Three of them alone in a round, with mark 0, have the labels 1, 2 and 0: in a round of any R, with any starts.
pub three : (t : Table) (before : List ℕ) (space : ℕ) → Passed (checked t before space) → rows t ≡ 3
    → ((i : ℕ) → i < 3 → AllDay t i × ((row_at t i).mark ≡ 0))
    → planned t before space ≡ answering (answered Accepted 2) (1 ∷ 2 ∷ 0 ∷ [])
unfolding best_plan checked given
three t before space p n f = planned_passed t before space p ∙ ap (λ o. given o before) (same_best t example valid shown n mays clashes)
  where
    valid : Valid t
    valid = (checked_valid t before space p).0

    shown : Valid example
    shown = (checked_valid example (0 ∷ 0 ∷ 0 ∷ []) 4608 refl).0

    zeros : (i : ℕ) → ((row_at example i).start ≡ 0) × ((row_at example i).end ≡ 0) × ((row_at example i).mark ≡ 0)
    zeros zero = (refl, refl, refl)
    zeros (suc zero) = (refl, refl, refl)
    zeros (suc (suc zero)) = (refl, refl, refl)
    zeros (suc (suc (suc i))) = (refl, refl, refl)

    alike : (i : ℕ) → i < 3 → AllDay example i
    alike i h = record { round = refl; below = h; same = (zeros i).0 ∙ sym (zeros i).1 }

    mays : (i x : ℕ) → i < rows t → Allowed t.setting (row_at t i) x ↔ Allowed example.setting (row_at example i) x
    mays i x h =
        let g = f i (omega arith) in (
          λ a. unmarked example.setting (row_at example i) (zeros i).2 x a.known tt,
          λ a. unmarked t.setting (row_at t i) g.1 x a.known (rw g.0.round tt),
        )

    clashes : (i j : ℕ) → i < rows t → j < rows t → i ≢ j → Clash t.setting (row_at t i) (row_at t j) ↔ Clash example.setting (row_at example i) (row_at example j)
    clashes i j h l d = (
      λ _. all_day_clashes example shown i j (alike i (omega arith)) (omega arith),
      λ _. all_day_clashes t valid i j (f i (omega arith)).0 l,
    )

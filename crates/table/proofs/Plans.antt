-- The test for a plan says whether labels are one, for tables that pass their checks. Run and round together.
use Prim.Native.Nat.{ℕ, zero, suc, ◌≤◌, ◌<◌}
use mathlib.Core.Path.{◌≡◌, refl, sym, ◌∙◌}
use mathlib.Core.Logic.{◌≢◌, ◌↔◌}
use mathlib.Core.Bool.{Bool, true}
use mathlib.Core.List.{List}
use native.Mathlib.Decide.{dec_le}
use native.Mathlib.Omega.{arith}
use lib.ListN.{length}
use Rattle.basics.specs.Lists.{at}
use Rattle.std.proofs.lemmas.Bool.Decides.{Decides-eqb}
use Rattle.basics.proofs.Tests.{leb_iff, and_iff, not_iff, imp_iff, every_iff}
use Rattle.marks.specs.Marks.{Must, Receiver1Only, Receiver2Only}
use Rattle.marks.proofs.Allowing.{allows_iff, must_least, either_least}
use Rattle.window.specs.declared.Kind.{Kind}
use Rattle.window.specs.declared.Kind.TheVariants.{Round, Run}
use Rattle.window.specs.declared.Row.{Row}
use Rattle.window.specs.Hours.{hour}
use Rattle.window.specs.Gaps.{overlap}
use Rattle.window.proofs.Meaning.{overlap_start}
use Rattle.window.proofs.Gaps.{too_close_iff, too_close_sym}
use Rattle.table.specs.declared.Setting.{Setting}
use Rattle.table.specs.Tables.{Table, rows, row_at, Open, Allowed, Clash, Plan, ValidRow, Valid, is_open, is_allowed, clashes, is_apart, is_fit, is_plan}

open_iff : (kind : Kind) (hours : List (List ℕ)) (row : Row) (x : ℕ) → (is_open kind hours row x ≡ true) ↔ Open kind hours row x
open_iff Round hours row x = (λ h. tt, λ h. refl)
open_iff Run hours row zero = (λ h. tt, λ h. refl)
open_iff Run hours row (suc r) = and_iff (leb_iff (hour hours r 0) row.start) (leb_iff row.end (hour hours r 1))

module _ (S : Setting) (row : Row) where
  pub allowed_iff : (x : ℕ) → (is_allowed S row x ≡ true) ↔ Allowed S row x
  unfolding is_allowed
  allowed_iff x = (
    λ e. let f = clauses.0 e in let m = f.0.1 in record { known = f.0.0; must = m.0.0; receiver_1 = m.0.1; receiver_2 = m.1; hours = f.1 },
    λ a. clauses.1 ((a.known, ((a.must, a.receiver_1), a.receiver_2)), a.hours),
  )
    where
      clauses : (is_allowed S row x ≡ true)
          ↔ (((x ≤ 2) × (((Must row.mark → x ≢ 0) × (Receiver1Only row.mark → x ≢ 2)) × (Receiver2Only row.mark → x ≢ 1))) × Open S.kind S.hours row x)
      clauses = and_iff (and_iff (leb_iff x 2) (allows_iff row.mark x)) (open_iff S.kind S.hours row x)

  -- what is allowed to a row is allowed to one with its mark, where the receiver is open
  pub allowed_alike : (S' : Setting) (row' : Row) → row.mark ≡ row'.mark → (x : ℕ) → Open S'.kind S'.hours row' x → Allowed S row x → Allowed S' row' x
  allowed_alike S' row' q x o a =
      record {
        known = a.known;
        must = λ e. a.must (rw q e);
        receiver_1 = λ e. a.receiver_1 (rw q e);
        receiver_2 = λ e. a.receiver_2 (rw q e);
        hours = o;
      }

  -- mark 0 asks nothing of a label
  pub unmarked : row.mark ≡ 0 → (x : ℕ) → x ≤ 2 → Open S.kind S.hours row x → Allowed S row x
  unmarked m x l o =
      record {
        known = l;
        must = λ e. absurd (omega (arith, must_least row.mark e));
        receiver_1 = λ e. absurd (omega (arith, either_least row.mark 2 3 (omega arith) e));
        receiver_2 = λ e. absurd (omega (arith, either_least row.mark 4 5 (omega arith) e));
        hours = o;
      }

  module _ (row' : Row) where
    pub clashes_iff : ValidRow S row → ValidRow S row' → (clashes S row row' ≡ true) ↔ Clash S row row'
    unfolding clashes
    clashes_iff v w = too_close_iff S.kind S.ticks S.gap row.start row.end row'.start row'.end v.window w.window

    -- rows that start together clash
    pub clash_start : ValidRow S row → ValidRow S row' → row.start ≡ row'.start → Clash S row row'
    clash_start v w e = rw (← e) (overlap (overlap_start S.kind S.ticks row.start row.end row'.end v.window (rw (← e) at w.window)))

    -- a clash goes both ways
    pub clash_sym : Clash S row row' → Clash S row' row
    clash_sym = too_close_sym S.kind S.ticks S.gap row.start row.end row'.start row'.end

-- what `is_fit` says of row i
abbrev FitAt : Table → List ℕ → ℕ → Type 0
FitAt t labels i =
    Allowed t.setting (row_at t i) (at labels i)
    × ((j : ℕ) → j < i → at labels i ≢ 0 → at labels i ≡ at labels j → Clash t.setting (row_at t i) (row_at t j) → ⊥)

module _ (t : Table) (valid : Valid t) (labels : List ℕ) where
  fit_iff : (i : ℕ) → i < rows t → (is_fit t labels i ≡ true) ↔ FitAt t labels i
  unfolding is_fit is_apart
  fit_iff i h =
      and_iff (allowed_iff t.setting (row_at t i) (at labels i))
      (every_iff i (λ j k.
      imp_iff (not_iff (Decides-eqb (at labels i) 0))
      (imp_iff (Decides-eqb (at labels i) (at labels j))
      (not_iff (clashes_iff t.setting (row_at t i) (row_at t j) (valid.row i h) (valid.row j (omega arith)))))))

  plan_fits : Plan t labels ↔ ((length labels ≡ rows t) × ((i : ℕ) → i < rows t → FitAt t labels i))
  plan_fits = (
    λ P. (P.each, λ i h. (P.allowed i h, λ j k. P.apart i j h (omega arith) (λ e. omega arith))),
    λ f. record { each = f.0; allowed = λ i h. (f.1 i h).0; apart = apart f.1 },
  )
    where
      apart : ((i : ℕ) → i < rows t → FitAt t labels i)
          → (i j : ℕ) → i < rows t → j < rows t → i ≢ j → at labels i ≢ 0 → at labels i ≡ at labels j → Clash t.setting (row_at t i) (row_at t j) → ⊥
      apart f i j h k d n e c = go (dec_le i j)
        where
          go : Dec (i ≤ j) → ⊥
          go (yes l) = (f j k).1 i (omega (arith, d)) (λ z. n (e ∙ z)) (sym e) (clash_sym t.setting (row_at t i) (row_at t j) c)
          go (no l) = (f i h).1 j (omega (arith, l)) n e c

  pub plan_iff : (is_plan t labels ≡ true) ↔ Plan t labels
  unfolding is_plan
  plan_iff = (
    λ e. let f = tests.0 e in plan_fits.1 (f.0.1, f.1),
    λ P. let f = plan_fits.0 P in tests.1 (((valid.each_end, valid.each_mark), f.0), f.1),
  )
    where
      tests : (is_plan t labels ≡ true)
          ↔ ((((length t.ends ≡ rows t) × (length t.marks ≡ rows t)) × (length labels ≡ rows t)) × ((i : ℕ) → i < rows t → FitAt t labels i))
      tests =
          and_iff
          (and_iff
          (and_iff (Decides-eqb (length t.ends) (rows t)) (Decides-eqb (length t.marks) (rows t)))
          (Decides-eqb (length labels) (rows t)))
          (every_iff (rows t) fit_iff)

-- what `is_plan` promises, from what it computes
pub plan_said : (r : Bool) (t : Table) (labels : List ℕ) → r ≡ is_plan t labels → (r ≡ is_plan t labels) × (Valid t → (r ≡ true) ↔ Plan t labels)
plan_said r t labels e = (e, λ v. rw e (plan_iff t v labels))

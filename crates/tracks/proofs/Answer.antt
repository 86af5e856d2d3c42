-- From the answers about rows in order to the best assignment of the arcs as they came.
use Prim.Native.Nat.{ℕ, ◌≤◌, ◌<◌}
use mathlib.Core.Path.{◌≡◌, refl, sym, ◌∙◌}
use mathlib.Core.Logic.{◌⊎◌, ◌↔◌, ⊎_elim}
use mathlib.Core.Bool.{Bool, true, false, false≢true}
use mathlib.Core.List.{List}
use native.Mathlib.Omega.{arith}
use lib.ListN.{length, drop}
use Rattle.labels.proofs.Best.{best_iff}
use Rattle.line.specs.Filled.{NextRows}
use Rattle.arcs.specs.Arcs.{Arcs, Assigned}
use Rattle.arcs.specs.Order.{Arranged}
use Rattle.pairs.specs.Pairs.{gathered, Cleared}
use Rattle.pairs.specs.Ready.{Most}
use Rattle.tracks.specs.Tracks.{Answered, Solved}
use Rattle.tracks.specs.Narrowing.{Ordered, NarrowReady}
use Rattle.tracks.proofs.Arranged.{arranged_permuted, arranged_iff, arranged_rows, arranged_ready}
use Rattle.tracks.proofs.Rows.{ordered_most}

-- ---- classes with the same lists

module _ {C D : List ℕ → Type 0} (iff : (l : List ℕ) → C l ↔ D l) {r : ℕ} where
  most_iff : Most C r → Most D r
  most_iff M = record { reached = λ h. let w = M.reached h in (w.0, (iff w.0).0 w.1, w.2); bound = λ l d. M.bound l ((iff l).1 d) }

  answered_iff : {perms : List ℕ} → Answered C r perms → Answered D r perms
  answered_iff N = record { none = λ e l d. N.none e l ((iff l).1 d); found = λ h. best_iff iff (N.found h); count = N.count }

module _ {C : ℕ} {ss ls ps es order : List ℕ} {m r : ℕ} (A : Arcs C ss ls) (R : Arranged C ss ls ps es order m)
    (perms : List ℕ) (each : length perms ≡ length ss) (M : Most (Cleared ps es (gathered order perms)) r) where
  by_rows : Most (Ordered ps es order perms) r
  by_rows = ordered_most (arranged_rows A R perms each) (arranged_permuted A R) M

  most : Most (Assigned C ss ls perms) r
  most = most_iff (arranged_iff A R perms each) by_rows

  -- what narrowing is lent, where there is an assignment
  pub narrow_ready : (left : List ℕ) {space : List ℕ} → 0 < r → length left ≡ length ss → NextRows (drop m ps) (drop m es) space → NarrowReady ps es order perms m r left space
  narrow_ready left h f N =
      record {
        find = record { ready = arranged_ready A R perms left each f N; permuted = arranged_permuted A R; most = by_rows.bound; some = h };
        reached = by_rows.reached h;
      }

  -- the permissions stay where narrowing is not asked for or no list is in the class
  pub solved_kept : {narrowing : Bool} → ((narrowing ≡ true) × (r ≤ 0)) ⊎ (narrowing ≡ false) → Solved (Assigned C ss ls perms) narrowing r perms perms
  solved_kept h = record { most = most; answered = λ q. ⊎_elim (λ p. none p.1) (λ e. absurd (false≢true (sym e ∙ q))) h; kept = λ q. refl }
    where
      none : r ≤ 0 → Answered (Assigned C ss ls perms) r perms
      none z = record { none = λ e l a. omega (arith, most.bound l a); found = λ g. absurd (omega arith); count = λ g. absurd (omega arith) }

  pub solved_narrowed : {perms' : List ℕ} → Answered (Ordered ps es order perms) r perms' → Solved (Assigned C ss ls perms) true r perms perms'
  solved_narrowed N = record { most = most; answered = λ q. answered_iff (arranged_iff A R perms each) N; kept = λ q. absurd (false≢true (sym q)) }

-- Labels that are added to those found, one row of the table at a time, and what stays of the working space.
use Prim.Native.Nat.{ℕ, ◌+◌, ◌≤◌, ◌<◌}
use mathlib.Core.Path.{◌≡◌, refl, sym, subst, ◌∙◌}
use mathlib.Core.Logic.{◌↔◌, ◌⊎◌, inl, inr, ⊎_elim, ◌≢◌}
use mathlib.Core.Bool.{true}
use mathlib.Core.List.{List}
use native.Mathlib.Decide.{ℕ_discrete}
use native.Mathlib.Omega.{arith}
use borrow.Author.Count.{below_more}
use lib.ListN.{length, set}
use lib.Seq.{get_or-set_same, get_or-set_other}
use Rattle.std.proofs.lemmas.List.{take-set-le, drop-set-lt}
use Rattle.basics.specs.Limits.{max_rows}
use Rattle.basics.specs.Lists.{at}
use Rattle.labels.specs.Permission.{permits, join}
use Rattle.labels.proofs.Permissions.{join_iff, permission_small}
use Rattle.line.specs.Cells.{found_at, found_from, next_from, core_bytes}
use Rattle.pairs.specs.Finding.{SameButFound, NoneFound, Added}

same_set : {s t : List ℕ} (r x : ℕ) → r < max_rows → SameButFound s t → SameButFound s (set t (found_from + r) x)
same_set {s} {t} r x h S =
    record {
      before = take-set-le found_from t (found_from + r) x (omega arith) ∙ S.before;
      after = drop-set-lt next_from t (found_from + r) x (omega arith) ∙ S.after;
    }

found_other : (t : List ℕ) (r i x : ℕ) → i ≢ r → found_at (set t (found_from + r) x) i ≡ found_at t i
found_other t r i x n = get_or-set_other t (found_from + r) (found_from + i) x 0 (λ e. n (omega arith))

-- ---- no label is found

pub none_begun : (s : List ℕ) → NoneFound 0 s s
none_begun s = record { others = record { before = refl; after = refl }; zero = λ r h. absurd (omega arith) }

pub none_more : {s t : List ℕ} (n : ℕ) → n < max_rows → core_bytes ≤ length t → NoneFound n s t → NoneFound (n + 1) s (set t (found_from + n) 0)
none_more {s} {t} n h long N =
    record {
      others = same_set n 0 h N.others;
      zero = below_more _ n (λ r k. found_other t n r 0 (omega arith) ∙ N.zero r k) (get_or-set_same t (found_from + n) 0 0 (omega arith));
    }

-- ---- labels are added

module _ {order left : List ℕ} where
  pub added_begun : (s : List ℕ) → Added order left 0 s s
  added_begun s =
      record {
        others = record { before = refl; after = refl };
        grown = λ r x h p. p;
        small = λ r h p. p;
        only = λ r x h p. inl p;
        labels = λ k x h. absurd (omega arith);
      }

  module _ {s t : List ℕ} (k : ℕ) (below : at order k < max_rows) (long : core_bytes ≤ length t) (A : Added order left k s t) where
    abbrev t' : List ℕ
    t' = set t (found_from + at order k) (join (found_at t (at order k)) (at left k))

    found_here : found_at t' (at order k) ≡ join (found_at t (at order k)) (at left k)
    found_here = get_or-set_same t (found_from + at order k) (join (found_at t (at order k)) (at left k)) 0 (omega arith)

    found_there : (r : ℕ) → r ≢ at order k → found_at t' r ≡ found_at t r
    found_there r n = found_other t (at order k) r (join (found_at t (at order k)) (at left k)) n

    -- a label is found now exactly if it was before, or `left` permits it here
    found_iff : (r x : ℕ) → (permits (found_at t' r) x ≡ true) ↔ ((permits (found_at t r) x ≡ true) ⊎ ((at order k ≡ r) × (permits (at left k) x ≡ true)))
    found_iff r x = go (ℕ_discrete r (at order k))
      where
        go : Dec (r ≡ at order k) → (permits (found_at t' r) x ≡ true) ↔ ((permits (found_at t r) x ≡ true) ⊎ ((at order k ≡ r) × (permits (at left k) x ≡ true)))
        go (yes e) =
            let j = join_iff (found_at t (at order k)) (at left k) x in
            rw (e, found_here) (λ p. ⊎_elim inl (λ q. inr (refl, q)) (j.0 p), λ p. j.1 (⊎_elim inl (λ q. inr q.1) p))
        go (no n) = rw (found_there r n) (inl, ⊎_elim (λ p. p) (λ q. absurd (n (sym q.0))))

    added : Added order left (k + 1) s t'
    added =
        record {
          others = same_set (at order k) _ below A.others;
          grown = λ r x h p. (found_iff r x).1 (inl (A.grown r x h p));
          small = λ r h p. small r h p (ℕ_discrete r (at order k));
          only = λ r x h p. ⊎_elim (only r x h) (λ q. inr (k, omega arith, q.0, q.1)) ((found_iff r x).0 p);
          labels = λ j x h p. labels x j h p;
        }
      where
        small : (r : ℕ) → r < max_rows → found_at s r < 8 → Dec (r ≡ at order k) → found_at t' r < 8
        small r h p (yes e) = rw (e, found_here) (permission_small _ _ _)
        small r h p (no n) = rw (found_there r n) (A.small r h p)

        only : (r x : ℕ) → r < max_rows → permits (found_at t r) x ≡ true
            → (permits (found_at s r) x ≡ true) ⊎ ((j : ℕ) × (j < k + 1) × (at order j ≡ r) × (permits (at left j) x ≡ true))
        only r x h p = ⊎_elim inl (λ q. inr (q.0, omega (arith, q.1), q.2, q.3)) (A.only r x h p)

        labels : (x j : ℕ) → j < k + 1 → permits (at left j) x ≡ true → permits (found_at t' (at order j)) x ≡ true
        labels x = below_more _ k (λ j h p. (found_iff (at order j) x).1 (inl (A.labels j x h p))) (λ p. (found_iff (at order k) x).1 (inr (refl, p)))

    pub added_more : (row v : ℕ) → row ≡ at order k → v ≡ join (found_at t row) (at left k) → Added order left (k + 1) s (set t (found_from + row) v)
    added_more row v e f =
        subst (λ (r : ℕ). Added order left (k + 1) s (set t (found_from + r) v)) (sym e)
        (subst (λ (w : ℕ). Added order left (k + 1) s (set t (found_from + at order k) w)) (sym (rw e at f)) added)

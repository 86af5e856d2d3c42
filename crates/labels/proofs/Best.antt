-- Of any class of label lists at most one list is best, and `first_best` finds it. Two classes with the same lists have
-- the same best.
use Prim.Native.Nat.{ℕ, zero, suc, ◌≤◌, ◌<◌}
use mathlib.Core.Path.{◌≡◌, refl, sym, ap}
use mathlib.Core.Logic.{◌≢◌, ◌↔◌, inl, inr}
use mathlib.Core.Bool.{Bool, true}
use mathlib.Core.List.{List, [], ◌∷◌, List-discrete}
use mathlib.Core.Option.{Option, none, some}
use native.Mathlib.Decide.{ℕ_discrete}
use native.Mathlib.Omega.{arith}
use lib.ListN.{length}
use Rattle.basics.specs.Lists.{at}
use Rattle.labels.specs.Labels.{heard, place, Earlier, Assignment, Best, first_best}
use Rattle.labels.proofs.Search.{After, after_le, BestOf, Listed, best_best}

earlier_asym : (a b : List ℕ) → Earlier a b → Earlier b a → ⊥
earlier_asym [] b h k = h
earlier_asym (x ∷ a) [] h k = h
earlier_asym (x ∷ a) (y ∷ b) (inl h) (inl k) = omega arith
earlier_asym (x ∷ a) (y ∷ b) (inl h) (inr k) = omega (arith, ap place k.0)
earlier_asym (x ∷ a) (y ∷ b) (inr h) (inl k) = omega (arith, ap place h.0)
earlier_asym (x ∷ a) (y ∷ b) (inr h) (inr k) = earlier_asym a b h.1 k.1

-- two lists neither of which is worse than the other are one
after_only : {m a : List ℕ} → After m a → heard m ≤ heard a → (heard m ≡ heard a → m ≢ a → Earlier a m) → m ≡ a
after_only (inl h) l f = absurd (omega arith)
after_only (inr (e, inl q)) l f = sym q
after_only {m} {a} (inr (e, inr q)) l f = absurd (earlier_asym m a q (f (sym e) (λ k. earlier_asym a a (rw k at q) (rw k at q))))

module _ {C : List ℕ → Type 0} where
  -- what `first_best` finds is the best: it is in the class, none hears more, and others that hear as many come later
  best_of : {m : List ℕ} → BestOf C (some m) → Best C m
  best_of {m} b =
      record {
        member = b.0;
        most = λ r c. after_le (b.1 r c);
        first = λ r c. resolve (b.1 r c);
      }
    where
      resolve : {r : List ℕ} → After m r → heard r ≡ heard m → r ≢ m → Earlier m r
      resolve (inl h) e n = absurd (omega arith)
      resolve (inr (h, inl q)) e n = absurd (n q)
      resolve (inr (h, inr q)) e n = q

  best_found : (o : Option (List ℕ)) → BestOf C o → (m : List ℕ) → Best C m → o ≡ some m
  best_found none b m B = absurd (b m B.member)
  best_found (some a) b m B = ap some (after_only (b.1 m B.member) (B.most a b.0) (B.first a b.0))

-- the lists of n labels, each 0, 1 or 2, that pass the test p
abbrev pub Passes : ℕ → (List ℕ → Bool) → List ℕ → Type 0
Passes n p a = (length a ≡ n) × ((i : ℕ) → i < n → at a i ≤ 2) × (p a ≡ true)

listed : (n : ℕ) (p : List ℕ → Bool) (a : List ℕ) → Passes n p a → Listed n p a
listed zero p [] h = h.2
listed zero p (x ∷ a) h = absurd (omega (arith, h.0))
listed (suc n) p [] h = absurd (omega (arith, h.0))
listed (suc n) p (x ∷ a) h = (h.1 0 (omega arith), listed n (λ b. p (x ∷ b)) a (omega (arith, h.0), λ i l. h.1 (suc i) (omega arith), h.2))

passes : (n : ℕ) (p : List ℕ → Bool) (a : List ℕ) → Listed n p a → Passes n p a
passes zero p [] l = (refl, λ i h. absurd (omega arith), l)
passes zero p (x ∷ a) l = absurd l
passes (suc n) p [] l = absurd l
passes (suc n) p (x ∷ a) l =
    let t = passes n (λ b. p (x ∷ b)) a l.1 in
    (omega (arith, t.0), labels t.1, t.2)
  where
    labels : ((i : ℕ) → i < n → at a i ≤ 2) → (i : ℕ) → i < suc n → at (x ∷ a) i ≤ 2
    labels f zero h = l.0
    labels f (suc i) h = f i (omega arith)

-- `first_best` of a test that decides a class is the best of the class, and none where the class is empty
module _ (C : List ℕ → Type 0) (n : ℕ) (p : List ℕ → Bool) (decides : (a : List ℕ) → Passes n p a ↔ C a) where
  searched : BestOf C (first_best n p)
  searched = go (first_best n p) (best_best n p)
    where
      go : (o : Option (List ℕ)) → BestOf (Listed n p) o → BestOf C o
      go none b = λ r c. b r (listed n p r ((decides r).1 c))
      go (some m) b = ((decides m).0 (passes n p m b.0), λ r c. b.1 r (listed n p r ((decides r).1 c)))

  pub first_best_iff : (a : List ℕ) → (first_best n p ≡ some a) ↔ Best C a
  first_best_iff a = (λ e. best_of (rw e at searched), best_found (first_best n p) searched a)

  pub first_none : (first_best n p ≡ none) ↔ ((a : List ℕ) → C a → ⊥)
  first_none = (λ e. rw e at searched, go (first_best n p) searched)
    where
      go : (o : Option (List ℕ)) → BestOf C o → ((a : List ℕ) → C a → ⊥) → o ≡ none
      go none b h = refl
      go (some m) b h = absurd (h m b.0)

-- at most one list is best
pub best_only : {C : List ℕ → Type 0} {a b : List ℕ} → Best C a → Best C b → a ≡ b
best_only {a} {b} A B = go (List-discrete ℕ_discrete a b)
  where
    equal : heard a ≡ heard b
    equal = omega (arith, A.most b B.member, B.most a A.member)

    go : Dec (a ≡ b) → a ≡ b
    go (yes e) = e
    go (no n) = absurd (earlier_asym a b (A.first b B.member (sym equal) (λ e. n (sym e))) (B.first a A.member equal n))

-- two classes with the same lists have the same best
pub best_iff : {C D : List ℕ → Type 0} → ((l : List ℕ) → C l ↔ D l) → {a : List ℕ} → Best C a → Best D a
best_iff f {a} B =
    record {
      member = (f a).0 B.member;
      most = λ r d. B.most r ((f r).1 d);
      first = λ r d. B.first r ((f r).1 d);
    }

-- An assignment depends on the rows only through which labels each may have and which rows clash.
module _ (n : ℕ) {may may' clash clash' : ℕ → ℕ → Type 0}
    (mays : (i x : ℕ) → i < n → may i x ↔ may' i x) (clashes : (i j : ℕ) → i < n → j < n → i ≢ j → clash i j ↔ clash' i j) where
  pub assignment_iff : (l : List ℕ) → Assignment n may clash l ↔ Assignment n may' clash' l
  assignment_iff l = (
    λ A. record { each = A.each; allowed = λ i h. (mays i _ h).0 (A.allowed i h); apart = λ i j h k d x e c. A.apart i j h k d x e ((clashes i j h k d).1 c) },
    λ A. record { each = A.each; allowed = λ i h. (mays i _ h).1 (A.allowed i h); apart = λ i j h k d x e c. A.apart i j h k d x e ((clashes i j h k d).0 c) },
  )

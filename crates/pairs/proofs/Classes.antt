-- Laws of `Most`: of an empty class, of one class or another, of classes that are tried one after the other or passed
-- over.
use Prim.Native.Nat.{ℕ, suc, ◌+◌, ◌≤◌, ◌<◌, max}
use mathlib.Core.Path.{◌≡◌, refl}
use mathlib.Core.Logic.{◌↔◌, ◌⊎◌, inl, inr, ⊎_elim}
use mathlib.Core.List.{List}
use native.Mathlib.Decide.{dec_le}
use native.Mathlib.Nat.{eq-or-lt_of_le}
use native.Mathlib.Omega.{arith}
use Rattle.labels.specs.Labels.{heard}
use Rattle.pairs.specs.Ready.{Most}
use Rattle.pairs.specs.Pairs.{Within}

module _ {C : List ℕ → Type 0} where
  pub most_none : ((l : List ℕ) → C l → ⊥) → Most C 0
  most_none f = record { reached = λ h. absurd (omega arith); bound = λ l c. absurd (f l c) }

  -- a class with the same lists
  pub most_iff : {r : ℕ} {D : List ℕ → Type 0} → ((l : List ℕ) → C l ↔ D l) → Most C r → Most D r
  most_iff f p =
      record {
        reached = λ h. let q = p.reached h in (q.0, (f _).0 q.1, q.2);
        bound = λ l d. p.bound l ((f l).1 d);
      }

  -- the lists of one class or another
  most_either : {r s : ℕ} {D : List ℕ → Type 0} → Most C r → Most D s → Most (λ l. C l ⊎ D l) (max r s)
  most_either {r} {s} {D} p q =
      record {
        reached = λ h. found h (dec_le r s);
        bound = λ l. ⊎_elim (λ c. omega (arith, p.bound l c)) (λ d. omega (arith, q.bound l d));
      }
    where
      found : 0 < max r s → Dec (r ≤ s) → (l : List ℕ) × (C l ⊎ D l) × (suc (heard l) ≡ max r s)
      found h (yes k) = let g = q.reached (omega arith) in (g.0, inr g.1, omega (arith, g.2))
      found h (no k) = let g = p.reached (omega arith) in (g.0, inl g.1, omega (arith, g.2))

  -- a class that holds no list that hears more
  most_passed : {r : ℕ} {D : List ℕ → Type 0} → Most C r → ((l : List ℕ) → D l → suc (heard l) ≤ r) → Most (λ l. C l ⊎ D l) r
  most_passed p f =
      record {
        reached = λ h. let g = p.reached h in (g.0, inl g.1, g.2);
        bound = λ l. ⊎_elim (p.bound l) (f l);
      }

-- Classes D w that are tried from w = m downwards.
module _ {D : ℕ → List ℕ → Type 0} {m : ℕ} where
  pub split : (k n : ℕ) → n ≡ k + 1 → k ≤ m → (l : List ℕ) → (Within D n m l ⊎ D k l) ↔ Within D k m l
  split k n e h l = (⊎_elim more one, apart)
    where
      more : Within D n m l → Within D k m l
      more w = record { choice = w.choice; low = omega (arith, w.low); high = w.high; member = w.member }

      one : D k l → Within D k m l
      one d = record { choice = k; low = omega arith; high = h; member = d }

      apart : Within D k m l → Within D n m l ⊎ D k l
      apart w =
          ⊎_elim (λ q. inr (rw q w.member))
          (λ q. inl (record { choice = w.choice; low = omega arith; high = w.high; member = w.member }))
          (eq-or-lt_of_le w.low)

  -- beside the lists of C: one class more
  pub both : (C : List ℕ → Type 0) (k n : ℕ) → n ≡ k + 1 → k ≤ m → (l : List ℕ) → ((C l ⊎ Within D n m l) ⊎ D k l) ↔ (C l ⊎ Within D k m l)
  both C k n e h l =
      let f = split k n e h l in
      (⊎_elim (⊎_elim inl (λ w. inr (f.0 (inl w)))) (λ d. inr (f.0 (inr d))), ⊎_elim (λ c. inl (inl c)) (λ w. ⊎_elim (λ v. inl (inr v)) inr (f.1 w)))

  -- none of the classes
  pub within_none : {n : ℕ} → m < n → Most (Within D n m) 0
  within_none h = most_none (λ l w. omega (arith, w.low, w.high))

  module _ {C : List ℕ → Type 0} {r : ℕ} where
    -- beside the lists of C: none of the classes
    pub within_begun : Most C r → Most (λ l. C l ⊎ Within D (m + 1) m l) r
    within_begun p = most_iff (λ l. (inl, ⊎_elim (λ c. c) (λ w. absurd (omega (arith, w.low, w.high))))) p

    module _ (k n : ℕ) (e : n ≡ k + 1) (h : k ≤ m) (p : Most (λ l. C l ⊎ Within D n m l) r) where
      -- one class more, tried or passed over
      pub within_more : {s : ℕ} → Most (D k) s → Most (λ l. C l ⊎ Within D k m l) (max r s)
      within_more q = most_iff (both C k n e h) (most_either p q)

      pub within_passed : ((l : List ℕ) → D k l → suc (heard l) ≤ r) → Most (λ l. C l ⊎ Within D k m l) r
      within_passed f = most_iff (both C k n e h) (most_passed p f)

  -- the classes over k and the class k
  pub within_joined : {r : ℕ} (k : ℕ) → k ≤ m → Most (λ l. Within D (k + 1) m l ⊎ D k l) r → Most (Within D k m) r
  within_joined k h p = most_iff (split k (k + 1) refl h) p

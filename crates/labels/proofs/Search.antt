-- What `first_best n p` gives: of all lists of n labels that pass p, the first that hears most. Assumes nothing.
use Prim.Native.Nat.{ℕ, zero, suc, ◌≤◌, ◌<◌}
use mathlib.Core.Path.{◌≡◌, refl, sym, ap, ◌∙◌}
use mathlib.Core.Logic.{◌⊎◌, inl, inr, ⊎_elim}
use mathlib.Core.Bool.{Bool, true, false, cond, false≢true}
use mathlib.Core.List.{List, [], ◌∷◌}
use mathlib.Core.Option.{Option, none, some}
use native.Mathlib.Omega.{arith}
use native.Mathlib.Nat.{eq-or-lt_of_le}
use lib.Dec.{ltb}
use borrow.Author.Tests.{ltb-true, ltb-false}
use Rattle.labels.specs.Labels.{heard, place, Earlier, better, put, first_best}

-- r is m, or comes after it
abbrev pub After : List ℕ → List ℕ → Type 0
After m r = (heard r < heard m) ⊎ ((heard r ≡ heard m) × ((r ≡ m) ⊎ Earlier m r))

pub after_le : {m r : List ℕ} → After m r → heard r ≤ heard m
after_le (inl h) = omega arith
after_le (inr h) = omega arith

after : {m r : List ℕ} → Earlier m r → heard r ≤ heard m → After m r
after e h = ⊎_elim (λ k. inr (k, inr e)) inl (eq-or-lt_of_le h)

-- what the best of the lists in C is, if there is one
abbrev pub BestOf : (List ℕ → Type 0) → Option (List ℕ) → Type 0
BestOf C none = (r : List ℕ) → C r → ⊥
BestOf C (some m) = C m × ((r : List ℕ) → C r → After m r)

best_of_iff : {C D : List ℕ → Type 0} (o : Option (List ℕ)) → ((r : List ℕ) → C r → D r) → ((r : List ℕ) → D r → C r) → BestOf C o → BestOf D o
best_of_iff none f g h = λ r d. h r (g r d)
best_of_iff (some m) f g h = (f m h.0, λ r d. h.1 r (g r d))

-- the better of the best of C and the best of D, where what is in C comes before what is in D
module _ {C D : List ℕ → Type 0} (before : (a b : List ℕ) → C a → D b → Earlier a b) where
  better_best : (a b : Option (List ℕ)) → BestOf C a → BestOf D b → BestOf (λ r. C r ⊎ D r) (better a b)
  unfolding better
  better_best none none x y = λ r. ⊎_elim (x r) (y r)
  better_best none (some b) x y = (inr y.0, λ r. ⊎_elim (λ c. absurd (x r c)) (y.1 r))
  better_best (some a) none x y = (inl x.0, λ r. ⊎_elim (x.1 r) (λ d. absurd (y r d)))
  better_best (some a) (some b) x y = go (ltb (heard a) (heard b)) refl
    where
      go : (t : Bool) → ltb (heard a) (heard b) ≡ t → BestOf (λ r. C r ⊎ D r) (cond t (some b) (some a))
      go true e = (inr y.0, λ r. ⊎_elim (λ c. inl (omega (arith, after_le (x.1 r c), ltb-true))) (y.1 r))
      go false e = (inl x.0, λ r. ⊎_elim (x.1 r) (λ d. after (before a r x.0 d) (omega (arith, after_le (y.1 r d), ltb-false))))

-- the lists in C with x put before them
abbrev Starts : ℕ → (List ℕ → Type 0) → List ℕ → Type 0
Starts x C [] = ⊥
Starts x C (y ∷ a) = (y ≡ x) × C a

after_cons : (x : ℕ) {m r : List ℕ} → After m r → After (x ∷ m) (x ∷ r)
unfolding heard
after_cons x (inl h) = inl (omega arith)
after_cons x (inr (e, inl h)) = inr (omega arith, inl (ap (λ a. x ∷ a) h))
after_cons x (inr (e, inr h)) = inr (omega arith, inr (inr (refl, h)))

put_best : (C : List ℕ → Type 0) (x : ℕ) (o : Option (List ℕ)) → BestOf C o → BestOf (Starts x C) (put x o)
put_best C x none h = go
  where
    go : (r : List ℕ) → Starts x C r → ⊥
    go [] c = c
    go (y ∷ a) c = h a c.1
put_best C x (some m) h = ((refl, h.0), go)
  where
    go : (r : List ℕ) → Starts x C r → After (x ∷ m) r
    go [] c = absurd c
    go (y ∷ a) c = rw c.0 (after_cons x (h.1 a c.1))

-- a list of n labels that passes p
abbrev pub Listed : ℕ → (List ℕ → Bool) → List ℕ → Type 0
Listed zero p [] = p [] ≡ true
Listed zero p (x ∷ a) = ⊥
Listed (suc n) p [] = ⊥
Listed (suc n) p (x ∷ a) = (x ≤ 2) × Listed n (λ b. p (x ∷ b)) a

-- what comes first in 1, 2, 0 comes first in the lists
starts_before : (C D : List ℕ → Type 0) (x y : ℕ) → place x < place y → (a b : List ℕ) → Starts x C a → Starts y D b → Earlier a b
starts_before C D x y h [] b c d = c
starts_before C D x y h (u ∷ a) [] c d = d
starts_before C D x y h (u ∷ a) (v ∷ b) c d = inl (rw (c.0, d.0) h)

module _ (n : ℕ) (p : List ℕ → Bool) where
  -- the lists that begin with x
  abbrev With : ℕ → List ℕ → Type 0
  With x = Starts x (Listed n (λ a. p (x ∷ a)))

  split : (r : List ℕ) → Listed (suc n) p r → With 1 r ⊎ (With 2 r ⊎ With 0 r)
  split [] c = absurd c
  split (zero ∷ a) c = inr (inr (refl, c.1))
  split (suc zero ∷ a) c = inl (refl, c.1)
  split (suc (suc zero) ∷ a) c = inr (inl (refl, c.1))
  split (suc (suc (suc x)) ∷ a) c = absurd (omega arith)

  with_listed : (x : ℕ) → x ≤ 2 → (r : List ℕ) → With x r → Listed (suc n) p r
  with_listed x h [] c = c
  with_listed x h (y ∷ a) c = rw c.0 (h, c.1)

  join : (r : List ℕ) → With 1 r ⊎ (With 2 r ⊎ With 0 r) → Listed (suc n) p r
  join r = ⊎_elim (with_listed 1 (omega arith) r) (⊎_elim (with_listed 2 (omega arith) r) (with_listed 0 (omega arith) r))

  in_order : (a b : List ℕ) → With 1 a → With 2 b ⊎ With 0 b → Earlier a b
  unfolding place
  in_order a b c = ⊎_elim (starts_before _ _ 1 2 (omega arith) a b c) (starts_before _ _ 1 0 (omega arith) a b c)

  head : ℕ → Option (List ℕ)
  head x = put x (first_best n (λ a. p (x ∷ a)))

  best_step : ((x : ℕ) → BestOf (Listed n (λ a. p (x ∷ a))) (first_best n (λ a. p (x ∷ a)))) → BestOf (Listed (suc n) p) (first_best (suc n) p)
  unfolding first_best place head
  best_step ih =
      best_of_iff (better (head 1) (better (head 2) (head 0))) join split
      (better_best in_order (head 1) (better (head 2) (head 0)) (with_best 1)
      (better_best (starts_before _ _ 2 0 (omega arith)) (head 2) (head 0) (with_best 2) (with_best 0)))
    where
      with_best : (x : ℕ) → BestOf (With x) (put x (first_best n (λ a. p (x ∷ a))))
      with_best x = put_best _ x (first_best n (λ a. p (x ∷ a))) (ih x)

pub best_best : (n : ℕ) (p : List ℕ → Bool) → BestOf (Listed n p) (first_best n p)
unfolding first_best place
best_best zero p = go (p []) refl
  where
    only : (r : List ℕ) → Listed zero p r → After [] r
    only [] c = inr (refl, inl refl)
    only (x ∷ a) c = absurd c

    none_of : p [] ≡ false → (r : List ℕ) → Listed zero p r → ⊥
    none_of e [] c = false≢true (sym e ∙ c)
    none_of e (x ∷ a) c = c

    go : (t : Bool) → p [] ≡ t → BestOf (Listed zero p) (cond t (some []) none)
    go true e = (e, only)
    go false e = none_of e
best_best (suc n) p = best_step n p (λ x. best_best n (λ a. p (x ∷ a)))

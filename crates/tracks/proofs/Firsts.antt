-- The first label of a permission: it is permitted and the others come later; what is left of a permission without it;
-- a permission of one label.
use Prim.Native.Nat.{ℕ, zero, suc, ◌+◌, ◌*◌, ◌-◌, ◌/◌, ◌%◌, ◌≤◌, ◌<◌}
use mathlib.Core.Path.{◌≡◌, refl, sym, ap, ◌∙◌}
use mathlib.Core.Logic.{◌≢◌}
use mathlib.Core.Bool.{Bool, true, false, cond, false≢true}
use mathlib.Core.List.{List, [], ◌∷◌}
use native.Mathlib.Decide.{ℕ_discrete}
use native.Mathlib.Omega.{arith}
use borrow.Author.Tests.{eqb-true}
use lib.Dec.{eqb}
use lib.ListN.{set}
use lib.Seq.{get_or-set_same, get_or-set_other}
use Rattle.basics.specs.Lists.{at}
use Rattle.labels.specs.Labels.{place}
use Rattle.labels.specs.Permission.{permits, only}
use Rattle.labels.proofs.Permissions.{permits_label, only_permits}
use Rattle.tracks.specs.Narrowing.{first_in}

pub first_le : (p : ℕ) → first_in p ≤ 2
first_le p = go (permits p 1) (permits p 2)
  where
    go : (a b : Bool) → cond a 1 (cond b 2 0) ≤ 2
    go true b = omega arith
    go false true = omega arith
    go false false = omega arith

-- a permission that permits some label permits its first
first_of : (p x : ℕ) → permits p x ≡ true → (a : Bool) → permits p 1 ≡ a → (b : Bool) → permits p 2 ≡ b → permits p (cond a 1 (cond b 2 0)) ≡ true
first_of p x h true e b f = e
first_of p x h false e true f = f
first_of p zero h false e false f = h
first_of p (suc zero) h false e false f = absurd (false≢true (sym e ∙ h))
first_of p (suc (suc zero)) h false e false f = absurd (false≢true (sym f ∙ h))
first_of p (suc (suc (suc x))) h false e false f = absurd (false≢true h)

pub first_permitted : (p x : ℕ) → permits p x ≡ true → permits p (first_in p) ≡ true
first_permitted p x h = first_of p x h (permits p 1) refl (permits p 2) refl

-- the others come later
before_of : (p x : ℕ) → permits p x ≡ true → (a : Bool) → permits p 1 ≡ a → (b : Bool) → permits p 2 ≡ b → x ≢ cond a 1 (cond b 2 0) → place (cond a 1 (cond b 2 0)) < place x
unfolding place
before_of p zero h true e b f n = omega arith
before_of p (suc zero) h true e b f n = absurd (n refl)
before_of p (suc (suc zero)) h true e b f n = omega arith
before_of p (suc (suc (suc x))) h a e b f n = absurd (false≢true h)
before_of p zero h false e true f n = omega arith
before_of p (suc zero) h false e b f n = absurd (false≢true (sym e ∙ h))
before_of p (suc (suc zero)) h false e true f n = absurd (n refl)
before_of p zero h false e false f n = absurd (n refl)
before_of p (suc (suc zero)) h false e false f n = absurd (false≢true (sym f ∙ h))

pub first_before : (p x : ℕ) → permits p x ≡ true → x ≢ first_in p → place (first_in p) < place x
first_before p x h = before_of p x h (permits p 1) refl (permits p 2) refl

-- the last label
pub place_last : (x : ℕ) → x ≤ 2 → 2 ≤ place x → x ≡ 0
unfolding place
place_last zero h g = refl
place_last (suc zero) h g = absurd (omega arith)
place_last (suc (suc zero)) h g = absurd (omega arith)
place_last (suc (suc (suc x))) h g = absurd (omega arith)

-- ---- permissions by their bits

abbrev bits : ℕ → List ℕ
bits p = p % 2 ∷ p / 2 % 2 ∷ p / 4 % 2 ∷ []

permits_bits : (p y : ℕ) → permits p y ≡ eqb (at (bits p) y) 1
permits_bits p zero = refl
permits_bits p (suc zero) = refl
permits_bits p (suc (suc zero)) = refl
permits_bits p (suc (suc (suc y))) = refl

-- a permission is what its bits are worth, and what is above them
split : (p : ℕ) → p ≡ p % 2 + p / 2 % 2 * 2 + p / 4 % 2 * 4 + p / 8 * 8
split p = omega arith

bits_are : (a b c d p : ℕ) → a ≤ 1 → b ≤ 1 → c ≤ 1 → p ≡ a + b * 2 + c * 4 + d * 8 → bits p ≡ a ∷ b ∷ c ∷ []
bits_are a b c d p h g f e =
    let x : p % 2 ≡ a = omega arith in
    let y : p / 2 % 2 ≡ b = omega arith in
    let z : p / 4 % 2 ≡ c = omega arith in
    rw (x, y, z) refl

-- a permission of one label permits no other
pub alone : {p : ℕ} (x y : ℕ) → p ≡ only x → permits p y ≡ true → y ≡ x
alone x y e h = only_permits x y (rw e at h)

-- a permission that permits one label is that label's
pub small_only : (p x : ℕ) → p < 8 → permits p x ≡ true → ((y : ℕ) → permits p y ≡ true → y ≡ x) → p ≡ only x
unfolding only
small_only p x s h f = go x h f
  where
    off : (n : ℕ) → n < 2 → (eqb n 1 ≡ true → ⊥) → n ≡ 0
    off zero l g = refl
    off (suc zero) l g = absurd (g refl)
    off (suc (suc n)) l g = absurd (omega arith)

    go : (x : ℕ) → permits p x ≡ true → ((y : ℕ) → permits p y ≡ true → y ≡ x) → p ≡ only x
    go zero h f = omega (arith, split p, eqb-true (p % 2) 1 h, off (p / 2 % 2) (omega arith) (λ q. omega (arith, f 1 q)), off (p / 4 % 2) (omega arith) (λ q. omega (arith, f 2 q)))
    go (suc zero) h f = omega (arith, split p, eqb-true (p / 2 % 2) 1 h, off (p % 2) (omega arith) (λ q. omega (arith, f 0 q)), off (p / 4 % 2) (omega arith) (λ q. omega (arith, f 2 q)))
    go (suc (suc zero)) h f = omega (arith, split p, eqb-true (p / 4 % 2) 1 h, off (p % 2) (omega arith) (λ q. omega (arith, f 0 q)), off (p / 2 % 2) (omega arith) (λ q. omega (arith, f 1 q)))
    go (suc (suc (suc x))) h f = absurd (false≢true h)

-- ---- a permission without one of its labels

pub only_le : (p x : ℕ) → permits p x ≡ true → only x ≤ p
unfolding only
only_le p zero h = omega (arith, eqb-true (p % 2) 1 h)
only_le p (suc zero) h = omega (arith, eqb-true (p / 2 % 2) 1 h)
only_le p (suc (suc zero)) h = omega (arith, eqb-true (p / 4 % 2) 1 h)
only_le p (suc (suc (suc x))) h = omega arith

struck_bits : (p x : ℕ) → permits p x ≡ true → bits (p - only x) ≡ set (bits p) x 0
unfolding only
struck_bits p zero h = bits_are 0 (p / 2 % 2) (p / 4 % 2) (p / 8) (p - 1) (omega arith) (omega arith) (omega arith) (omega (arith, split p, eqb-true (p % 2) 1 h))
struck_bits p (suc zero) h = bits_are (p % 2) 0 (p / 4 % 2) (p / 8) (p - 2) (omega arith) (omega arith) (omega arith) (omega (arith, split p, eqb-true (p / 2 % 2) 1 h))
struck_bits p (suc (suc zero)) h = bits_are (p % 2) (p / 2 % 2) 0 (p / 8) (p - 4) (omega arith) (omega arith) (omega arith) (omega (arith, split p, eqb-true (p / 4 % 2) 1 h))
struck_bits p (suc (suc (suc x))) h = absurd (false≢true h)

module _ (p x : ℕ) (h : permits p x ≡ true) where
  struck : (y : ℕ) → permits (p - only x) y ≡ eqb (at (set (bits p) x 0) y) 1
  struck y = permits_bits (p - only x) y ∙ ap (λ l. eqb (at l y) 1) (struck_bits p x h)

  -- the other labels are permitted as before
  pub permits_struck : (y : ℕ) → permits p y ≡ true → y ≢ x → permits (p - only x) y ≡ true
  permits_struck y q n = struck y ∙ ap (λ b. eqb b 1) (get_or-set_other (bits p) x y 0 0 n) ∙ sym (permits_bits p y) ∙ q

  pub struck_permits : (y : ℕ) → permits (p - only x) y ≡ true → (permits p y ≡ true) × (y ≢ x)
  struck_permits y q = go (ℕ_discrete y x)
    where
      go : Dec (y ≡ x) → (permits p y ≡ true) × (y ≢ x)
      go (yes e) =
          let off = ap (λ b. eqb b 1) (get_or-set_same (bits p) x 0 0 (omega (arith, permits_label p x h))) in
          absurd (false≢true (sym off ∙ sym (struck x) ∙ rw e at q))
      go (no n) = (permits_bits p y ∙ sym (ap (λ b. eqb b 1) (get_or-set_other (bits p) x y 0 0 n)) ∙ sym (struck y) ∙ q, n)

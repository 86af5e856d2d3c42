-- Laws of permissions and of the order of labels.
use Prim.Native.Nat.{ℕ, zero, suc, ◌+◌, ◌*◌, ◌/◌, ◌%◌, ◌≤◌, ◌<◌, min}
use mathlib.Core.Path.{◌≡◌, refl, sym, ap, ◌∙◌}
use mathlib.Core.Logic.{◌↔◌, ◌⊎◌, inl, inr, ⊎_elim}
use mathlib.Core.Bool.{Bool, true, false, ◌&&◌, ◌||◌, false≢true}
use mathlib.Core.List.{List, [], ◌∷◌}
use native.Mathlib.Omega.{arith}
use lib.Bits.{bit_and, and_step, and_zero_r}
use lib.Dec.{eqb}
use lib.ListN.{length}
use borrow.Author.Tests.{eqb-true}
use Rattle.basics.specs.Lists.{at}
use Rattle.basics.proofs.Tests.{and_iff, or_iff, cond_le}
use Rattle.labels.specs.Labels.{place, Earlier}
use Rattle.labels.specs.Permission.{permits, bit, permission, restrict, join, only, label_of}

-- what is permitted is a label
pub permits_label : (p x : ℕ) → permits p x ≡ true → x ≤ 2
permits_label p zero h = omega arith
permits_label p (suc zero) h = omega arith
permits_label p (suc (suc zero)) h = omega arith
permits_label p (suc (suc (suc x))) h = absurd (false≢true h)

pub permits_only : (x : ℕ) → x ≤ 2 → permits (only x) x ≡ true
unfolding only
permits_only zero h = refl
permits_only (suc zero) h = refl
permits_only (suc (suc zero)) h = refl
permits_only (suc (suc (suc x))) h = absurd (omega arith)

pub only_permits : (x y : ℕ) → permits (only x) y ≡ true → y ≡ x
unfolding only
only_permits zero zero h = refl
only_permits zero (suc zero) h = absurd (false≢true h)
only_permits zero (suc (suc zero)) h = absurd (false≢true h)
only_permits zero (suc (suc (suc y))) h = absurd (false≢true h)
only_permits (suc zero) zero h = absurd (false≢true h)
only_permits (suc zero) (suc zero) h = refl
only_permits (suc zero) (suc (suc zero)) h = absurd (false≢true h)
only_permits (suc zero) (suc (suc (suc y))) h = absurd (false≢true h)
only_permits (suc (suc zero)) zero h = absurd (false≢true h)
only_permits (suc (suc zero)) (suc zero) h = absurd (false≢true h)
only_permits (suc (suc zero)) (suc (suc zero)) h = refl
only_permits (suc (suc zero)) (suc (suc (suc y))) h = absurd (false≢true h)
only_permits (suc (suc (suc x))) zero h = absurd (false≢true h)
only_permits (suc (suc (suc x))) (suc zero) h = absurd (false≢true h)
only_permits (suc (suc (suc x))) (suc (suc zero)) h = absurd (false≢true h)
only_permits (suc (suc (suc x))) (suc (suc (suc y))) h = absurd (false≢true h)

pub label_only : (x : ℕ) → x ≤ 2 → label_of (only x) ≡ x
unfolding only label_of
label_only zero h = refl
label_only (suc zero) h = refl
label_only (suc (suc zero)) h = refl
label_only (suc (suc (suc x))) h = absurd (omega arith)

-- ---- permissions made of three tests

pub none_permitted : (q x : ℕ) → q ≡ 0 → permits q x ≡ true → ⊥
none_permitted q zero e h = omega (arith, eqb-true (q % 2) 1 h)
none_permitted q (suc zero) e h = omega (arith, eqb-true (q / 2 % 2) 1 h)
none_permitted q (suc (suc zero)) e h = omega (arith, eqb-true (q / 4 % 2) 1 h)
none_permitted q (suc (suc (suc x))) e h = false≢true h

pub bit_le : (a : Bool) → bit a ≤ 1
bit_le a = cond_le a (omega arith)

bit_test : (a : Bool) {n : ℕ} → n ≡ bit a → eqb n 1 ≡ a
bit_test true e = rw e refl
bit_test false e = rw e refl

-- over a test f of the labels
module _ (f : ℕ → Bool) where
  bits : (bit (f 0) ≤ 1) × (bit (f 1) ≤ 1) × (bit (f 2) ≤ 1)
  bits = (bit_le (f 0), bit_le (f 1), bit_le (f 2))

  made : ℕ
  made = permission (f 0) (f 1) (f 2)

  digits : (made % 2 ≡ bit (f 0)) × (made / 2 % 2 ≡ bit (f 1)) × (made / 4 % 2 ≡ bit (f 2))
  unfolding made permission
  digits = (omega (arith, bits), omega (arith, bits), omega (arith, bits))

  -- such a permission permits what the tests say
  pub permits_made : (x : ℕ) → x ≤ 2 → permits (permission (f 0) (f 1) (f 2)) x ≡ f x
  unfolding made
  permits_made zero h = bit_test (f 0) digits.0
  permits_made (suc zero) h = bit_test (f 1) digits.1
  permits_made (suc (suc zero)) h = bit_test (f 2) digits.2
  permits_made (suc (suc (suc x))) h = absurd (omega arith)

  pub made_iff : (x : ℕ) → (permits (permission (f 0) (f 1) (f 2)) x ≡ true) ↔ ((x ≤ 2) × (f x ≡ true))
  made_iff x = (
    λ h. let l = permits_label (permission (f 0) (f 1) (f 2)) x h in (l, sym (permits_made x l) ∙ h),
    λ h. permits_made x h.0 ∙ h.1,
  )

  -- what is not 0 permits some label
  pub made_some : 0 < permission (f 0) (f 1) (f 2) → (x : ℕ) × (permits (permission (f 0) (f 1) (f 2)) x ≡ true)
  unfolding permission
  made_some h = go (f 0) refl (f 1) refl (f 2) refl
    where
      go : (a : Bool) → f 0 ≡ a → (b : Bool) → f 1 ≡ b → (c : Bool) → f 2 ≡ c → (x : ℕ) × (permits (permission (f 0) (f 1) (f 2)) x ≡ true)
      go true p b q c r = (0, (made_iff 0).1 (omega arith, p))
      go false p true q c r = (1, (made_iff 1).1 (omega arith, q))
      go false p false q true r = (2, (made_iff 2).1 (omega arith, r))
      go false p false q false r = absurd (omega (arith, ap bit p, ap bit q, ap bit r))

-- a restricted permission permits what the permission permits and the tests say
module _ (q : ℕ) (f : ℕ → Bool) where
  pub restrict_iff : (x : ℕ) → (permits (restrict q (f 0) (f 1) (f 2)) x ≡ true) ↔ ((permits q x ≡ true) × (f x ≡ true))
  restrict_iff x =
      let m = made_iff (λ y. permits q y && f y) x in
      let b = and_iff {a = permits q x} {b = f x} (λ e. e, λ e. e) (λ e. e, λ e. e) in
      (λ h. b.0 (m.0 h).1, λ h. m.1 (permits_label q x h.0, b.1 h))

  pub restrict_some : 0 < restrict q (f 0) (f 1) (f 2) → (x : ℕ) × (permits (restrict q (f 0) (f 1) (f 2)) x ≡ true)
  restrict_some = made_some (λ y. permits q y && f y)

-- joined permissions permit what one of them permits
pub join_iff : (p q x : ℕ) → (permits (join p q) x ≡ true) ↔ ((permits p x ≡ true) ⊎ (permits q x ≡ true))
join_iff p q x =
    let m = made_iff (λ y. permits p y || permits q y) x in
    let b = or_iff {a = permits p x} {b = permits q x} (λ e. e, λ e. e) (λ e. e, λ e. e) in
    (λ h. b.0 (m.0 h).1, λ h. m.1 (⊎_elim (permits_label p x) (permits_label q x) h, b.1 h))

pub permission_small : (a b c : Bool) → permission a b c < 8
unfolding permission
permission_small a b c = omega (arith, bit_le a, bit_le b, bit_le c)

-- ---- what two permissions both permit, digit by digit

digit_and : (a : Bool) (d : ℕ) → d < 2 → min d (bit a) ≡ bit (eqb d 1 && a)
digit_and true zero h = refl
digit_and true (suc zero) h = refl
digit_and false zero h = refl
digit_and false (suc zero) h = refl
digit_and a (suc (suc d)) h = absurd (omega arith)

-- the digits that two numbers share, below 8
and_three : (p q : ℕ) → q < 8 → bit_and p q ≡ min (p % 2) (q % 2) + min (p / 2 % 2) (q / 2 % 2) * 2 + min (p / 4 % 2) (q / 4 % 2) * 4
and_three p q h =
    let e : q / 2 / 2 / 2 ≡ 0 = omega arith in
    let f : p / 2 / 2 ≡ p / 4 = omega arith in
    let g : q / 2 / 2 ≡ q / 4 = omega arith in
    rw (and_step p q, and_step (p / 2) (q / 2), and_step (p / 2 / 2) (q / 2 / 2), e, and_zero_r (p / 2 / 2 / 2), f, g) (omega arith)

pub and_permission : (q : ℕ) (a b c : Bool) → bit_and q (permission a b c) ≡ restrict q a b c
unfolding permission
and_permission q a b c =
    let h : (bit a ≤ 1) × (bit b ≤ 1) × (bit c ≤ 1) = (bit_le a, bit_le b, bit_le c) in
    let m = bit a + bit b * 2 + bit c * 4 in
    let e0 : m % 2 ≡ bit a = omega (arith, h) in
    let e1 : m / 2 % 2 ≡ bit b = omega (arith, h) in
    let e2 : m / 4 % 2 ≡ bit c = omega (arith, h) in
    and_three q m (omega (arith, h))
    ∙ rw (e0, e1, e2, digit_and a (q % 2) (omega arith), digit_and b (q / 2 % 2) (omega arith), digit_and c (q / 4 % 2) (omega arith)) refl

only_is : (x : ℕ) → x ≤ 2 → only x ≡ permission (eqb x 0) (eqb x 1) (eqb x 2)
unfolding only permission
only_is zero h = refl
only_is (suc zero) h = refl
only_is (suc (suc zero)) h = refl
only_is (suc (suc (suc x))) h = absurd (omega arith)

pub and_only : (q x : ℕ) → x ≤ 2 → bit_and q (only x) ≡ restrict q (eqb x 0) (eqb x 1) (eqb x 2)
and_only q x h = rw (only_is x h) (and_permission q (eqb x 0) (eqb x 1) (eqb x 2))

-- ---- the order of labels

-- the label of a place in the order
label_at : ℕ → ℕ
label_at zero = 1
label_at (suc zero) = 2
label_at (suc (suc n)) = 0

label_place : (x : ℕ) → x ≤ 2 → label_at (place x) ≡ x
unfolding label_at place
label_place zero h = refl
label_place (suc zero) h = refl
label_place (suc (suc zero)) h = refl
label_place (suc (suc (suc x))) h = absurd (omega arith)

-- two labels with one place are one
pub place_only : (x y : ℕ) → x ≤ 2 → y ≤ 2 → place x ≡ place y → x ≡ y
place_only x y h k e = sym (label_place x h) ∙ rw e (label_place y k)

-- lists that differ first at row j come in the order of their labels there
pub earlier_at : (a b : List ℕ) (j : ℕ) → j < length a → j < length b → ((k : ℕ) → k < j → at a k ≡ at b k) → place (at a j) < place (at b j) → Earlier a b
earlier_at [] b j h g f p = absurd (omega arith)
earlier_at (x ∷ a) [] j h g f p = absurd (omega arith)
earlier_at (x ∷ a) (y ∷ b) zero h g f p = inl p
earlier_at (x ∷ a) (y ∷ b) (suc j) h g f p = inr (f 0 (omega arith), earlier_at a b j (omega arith) (omega arith) (λ k l. f (suc k) (omega arith)) p)

-- Laws of bits: those of the word of a test, of a word by its bits, and how many are 1.
use Prim.Native.Nat.{ℕ, zero, suc, ◌+◌, ◌-◌, ◌*◌, ◌/◌, ◌%◌, ◌^◌, ◌≤◌, ◌<◌, min}
use mathlib.Core.Path.{◌≡◌, refl, sym, ap, ap₂, ◌∙◌, subst}
use mathlib.Core.Logic.{◌↔◌, ◌⊎◌, inl, inr}
use mathlib.Core.Bool.{Bool, true, false, cond}
use native.Mathlib.Omega.{arith}
use native.Mathlib.Numerals.{add-one}
use native.Mathlib.Nat.{mod-lt, mod-eq_of_lt, div-eq_of_lt, add_comm, pow-suc, one-mul, zero-mul, mod-one, eq-or-lt_of_le, lt_of_lt_of_le, le_of_suc-le-suc, mod-le, zero-add}
use lib.Dec.{lit<, eqb, ltb}
use lib.Arith.{digits_mod}
use lib.Pow.{pow_pos, pow_mono, high, low, mod-pow-add, field, mod-mod-pow, shl_exact, split}
use lib.Bits.{bit_and, bit_or, and_step, and_shr, or_shifted_r}
use lib.Count.{ones, ones_cat}
use borrow.Author.Tests.{eq-eqb, eqb-true, lt-ltb, ltb-true}
use Rattle.std.proofs.lemmas.Bool.{cases_lt}
use Rattle.basics.proofs.Tests.{bool_ext}
use Rattle.bit_words.specs.Bits.{bit, is_set, word_of}

-- a bit is 0 or 1
pub bit_below : (x i : ℕ) → bit x i < 2
bit_below x i = mod-lt (x / 2 ^ i) (lit< tt)

-- the bits of a number below n are those of its n low digits
pub bit_low : (x n i : ℕ) → i < n → bit (x % 2 ^ n) i ≡ bit x i
bit_low x n i h =
    let d = n - (1 + i) in
    let e : n ≡ d + (1 + i) = omega arith in
    sym (field (x % 2 ^ n) 1 i)
    ∙ ap (λ (y : ℕ). y / 2 ^ i) (ap (λ (m : ℕ). x % 2 ^ m % 2 ^ (1 + i)) e ∙ mod-mod-pow x d (1 + i))
    ∙ field x 1 i

-- a number below 2 to the n has no bit from n on
pub bit_none : {x n : ℕ} (i : ℕ) → x < 2 ^ n → n ≤ i → bit x i ≡ 0
bit_none {x} i h l = ap (λ (y : ℕ). y % 2) (div-eq_of_lt (lt_of_lt_of_le h (pow_mono l)))

-- a word has no bit from n on exactly if nothing is left of it after a shift by n
pub below_test : (x n : ℕ) → eqb (x / 2 ^ n) 0 ≡ ltb x (2 ^ n)
below_test x n =
    bool_ext (eqb (x / 2 ^ n) 0) (ltb x (2 ^ n))
    (λ e. lt-ltb x (2 ^ n) (subst (λ (y : ℕ). y < 2 ^ n) (rest (eqb-true (x / 2 ^ n) 0 e)) (mod-lt x (pow_pos n))))
    (λ e. eq-eqb (x / 2 ^ n) 0 (div-eq_of_lt (ltb-true x (2 ^ n) e)))
  where
    rest : x / 2 ^ n ≡ 0 → x % 2 ^ n ≡ x
    rest z = sym (ap (λ (y : ℕ). y * 2 ^ n + x % 2 ^ n) z ∙ ap (λ (y : ℕ). y + x % 2 ^ n) (zero-mul (2 ^ n)) ∙ zero-add (x % 2 ^ n)) ∙ split x n

-- the bit at place i, added to a word that has none from i on, as the code has it
pub or_placed : (w i : ℕ) → w < 2 ^ i → i < 64 → bit_or w ((1 * 2 ^ i) % 2 ^ 64) ≡ w + 2 ^ i
or_placed w i h l =
    ap (bit_or w) (shl_exact 1 i 64 (lit< tt) (omega arith))
    ∙ or_shifted_r 1 i w h
    ∙ ap (λ (x : ℕ). x + w) (one-mul (2 ^ i))
    ∙ add_comm (2 ^ i) w

-- ---- the word of a test

-- a bit more, as the code adds it and as the laws of digits have it
placed : (b : Bool) (w n : ℕ) → w + cond b (2 ^ n) 0 ≡ cond b 1 0 * 2 ^ n + w
placed true w n = omega (arith, one-mul (2 ^ n))
placed false w n = omega (arith, zero-mul (2 ^ n))

-- and it has no bit from the next place on
pub below_more : (b : Bool) (n : ℕ) {w r : ℕ} → w < 2 ^ n → r ≡ w + cond b (2 ^ n) 0 → r < 2 ^ (n + 1)
below_more true n h e = omega (arith, pow-suc 2 n, ap (λ (k : ℕ). 2 ^ k) (add-one n))
below_more false n h e = omega (arith, pow-suc 2 n, ap (λ (k : ℕ). 2 ^ k) (add-one n))

module _ (test : ℕ → Bool) where
  -- from the number of rows on every bit is 0: the word is below 2 to that number
  pub word_below : (n : ℕ) → word_of n test < 2 ^ n
  unfolding word_of
  word_below zero = omega arith
  word_below (suc n) = let h = below_more (test n) n (word_below n) refl in rw add-one at h

  pub word_above : (n i : ℕ) → n ≤ i → bit (word_of n test) i ≡ 0
  word_above n i h = bit_none i (word_below n) h

  -- bit i is that of row i
  pub word_bit : (n i : ℕ) → i < n → bit (word_of n test) i ≡ cond (test i) 1 0
  unfolding word_of
  word_bit zero i h = absurd (omega arith)
  word_bit (suc n) i h = ap (λ (w : ℕ). bit w i) (placed (test n) (word_of n test) n) ∙ go (eq-or-lt_of_le (le_of_suc-le-suc h)) (word_bit n i)
    where
      digit : (b : Bool) → cond b 1 0 % 2 ≡ cond b 1 0
      digit true = refl
      digit false = refl

      go : (i ≡ n) ⊎ (i < n) → (i < n → bit (word_of n test) i ≡ cond (test i) 1 0) → bit (cond (test n) 1 0 * 2 ^ n + word_of n test) i ≡ cond (test i) 1 0
      go (inl e) before = rw e (ap (λ (x : ℕ). x % 2) (high (cond (test n) 1 0) n (word_below n)) ∙ digit (test n))
      go (inr l) before =
          sym (bit_low (cond (test n) 1 0 * 2 ^ n + word_of n test) n i l)
          ∙ ap (λ (x : ℕ). bit x i) (low (cond (test n) 1 0) n (word_below n))
          ∙ before l

  -- both at once: a bit is 1 exactly for a row of which the test holds
  pub word_iff : (n i : ℕ) → (bit (word_of n test) i ≡ 1) ↔ ((i < n) × (test i ≡ true))
  word_iff n i = (λ e. go e (cases_lt i n), λ f. word_bit n i f.0 ∙ ap (λ (b : Bool). cond b 1 0) f.1)
    where
      one : (b : Bool) → ◌≡◌ {A = ℕ} (cond b 1 0) 1 → b ≡ true
      one true e = refl
      one false e = absurd (omega arith)

      go : bit (word_of n test) i ≡ 1 → (i < n) ⊎ (n ≤ i) → (i < n) × (test i ≡ true)
      go e (inl l) = (l, one (test i) (sym (word_bit n i l) ∙ e))
      go e (inr l) = absurd (omega (arith, word_above n i l))

  -- ---- as it is made, row by row

  pub word_none : 0 ≡ word_of 0 test
  unfolding word_of
  word_none = refl

  pub word_more : (i : ℕ) {w r : ℕ} {b : Bool} → w ≡ word_of i test → b ≡ test i → r ≡ w + cond b (2 ^ i) 0 → r ≡ word_of (i + 1) test
  unfolding word_of
  word_more i {w} {r} {b} e f g = g ∙ ap₂ (λ (x : ℕ) (y : Bool). x + cond y (2 ^ i) 0) e f ∙ ap (λ (n : ℕ). word_of n test) (sym (add-one i))

-- words of tests that say the same
pub word_same : (n : ℕ) {p q : ℕ → Bool} → ((i : ℕ) → i < n → p i ≡ q i) → word_of n p ≡ word_of n q
unfolding word_of
word_same zero f = refl
word_same (suc n) f = ap₂ (λ (w : ℕ) (b : Bool). w + cond b (2 ^ n) 0) (word_same n (λ i h. f i (omega arith))) (f n (omega arith))

-- ---- a word by its bits

-- the n low digits are the word of the bits below n
pub word_low : (n x : ℕ) → word_of n (is_set x) ≡ x % 2 ^ n
unfolding word_of
word_low zero x = sym (mod-one x)
word_low (suc n) x =
    ap₂ (λ (a b : ℕ). a + b) (word_low n x) (worth (bit x n) (bit_below x n))
    ∙ add_comm (x % 2 ^ n) (bit x n * 2 ^ n)
    ∙ sym (mod-pow-add x 1 n)
    ∙ ap (λ (m : ℕ). x % 2 ^ m) (add_comm 1 n ∙ add-one n)
  where
    worth : (b : ℕ) → b < 2 → cond (eqb b 1) (2 ^ n) 0 ≡ b * 2 ^ n
    worth zero h = sym (zero-mul (2 ^ n))
    worth (suc zero) h = sym (one-mul (2 ^ n))
    worth (suc (suc b)) h = absurd (omega arith)

pub word_whole : (n x : ℕ) → x < 2 ^ n → word_of n (is_set x) ≡ x
word_whole n x h = word_low n x ∙ mod-eq_of_lt h

-- words of n bits with the same bits are equal
pub word_ext : (n : ℕ) {x y : ℕ} → x < 2 ^ n → y < 2 ^ n → ((i : ℕ) → i < n → bit x i ≡ bit y i) → x ≡ y
word_ext n {x} {y} h k f = sym (word_whole n x h) ∙ word_same n (λ i l. ap (λ (b : ℕ). eqb b 1) (f i l)) ∙ word_whole n y k

-- a word without a bit from m on is below 2 to the m
pub below_of_bits : (n x m : ℕ) → x < 2 ^ n → ((i : ℕ) → i < n → m ≤ i → bit x i ≡ 0) → x < 2 ^ m
below_of_bits n x m h f =
    let l : x % 2 ^ m < 2 ^ m = mod-lt x (pow_pos m) in
    subst (λ (y : ℕ). y < 2 ^ m) (sym (word_ext n h (omega (arith, mod-le x (2 ^ m))) (λ i k. go i k (cases_lt i m)))) l
  where
    go : (i : ℕ) → i < n → (i < m) ⊎ (m ≤ i) → bit x i ≡ bit (x % 2 ^ m) i
    go i k (inl l) = sym (bit_low x m i l)
    go i k (inr l) = f i k l ∙ sym (bit_none i (mod-lt x (pow_pos m)) l)

-- a bit of both words
pub and_bit : (a b i : ℕ) → bit (bit_and a b) i ≡ min (bit a i) (bit b i)
and_bit a b i =
    let p = a / 2 ^ i in
    let q = b / 2 ^ i in
    let h : min (p % 2) (q % 2) < 2 = omega (arith, bit_below a i) in
    ap (λ (x : ℕ). x % 2) (and_shr a b i ∙ and_step p q) ∙ digits_mod (bit_and (p / 2) (q / 2)) h

-- ---- how many bits are 1

-- the word of rows 1, 2, .., with row 0 below it
pub word_front : (n : ℕ) (test : ℕ → Bool) → word_of (suc n) test ≡ word_of n (λ i. test (suc i)) * 2 ^ 1 + cond (test 0) 1 0
unfolding word_of
word_front zero test = refl
word_front (suc n) test =
    ap (λ (w : ℕ). w + cond (test (suc n)) (2 ^ suc n) 0) (word_front n test) ∙ go (test (suc n)) (word_of n (λ i. test (suc i))) (cond (test 0) 1 0)
  where
    go : (b : Bool) (w c : ℕ) → w * 2 ^ 1 + c + cond b (2 ^ suc n) 0 ≡ (w + cond b (2 ^ n) 0) * 2 ^ 1 + c
    go true w c = omega (arith, pow-suc 2 n)
    go false w c = omega arith

ones_digit : (b : Bool) → ones (cond b 1 0) ≡ cond b 1 0
unfolding ones
ones_digit true = refl
ones_digit false = refl

pub ones_front : (n : ℕ) (test : ℕ → Bool) → ones (word_of (suc n) test) ≡ cond (test 0) 1 0 + ones (word_of n (λ i. test (suc i)))
ones_front n test =
    ap ones (word_front n test)
    ∙ ones_cat 1 (word_of n (λ i. test (suc i))) (cond (test 0) 1 0) (digit (test 0))
    ∙ ap (λ (x : ℕ). ones (word_of n (λ i. test (suc i))) + x) (ones_digit (test 0))
    ∙ add_comm (ones (word_of n (λ i. test (suc i)))) (cond (test 0) 1 0)
  where
    digit : (b : Bool) → cond b 1 0 < 2 ^ 1
    digit true = lit< tt
    digit false = lit< tt
